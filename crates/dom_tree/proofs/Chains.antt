-- Chains of links, where a node is put in or taken out.
use Rattle.std.proofs.Common.{◌≡◌, ◌⊎◌, inl, inr, refl, sym, ap, subst, ◌∙◌, ℕ, zero, suc, ◌≤◌, Bool, true, false, cond, ◌||◌, not, nat_eq, List, [], ◌∷◌, Option, Some, None, length, arith}
use Rattle.std.proofs.lemmas.Bool.{eqb-true, eqb-false, or_parts, both_ways}
use Rattle.std.proofs.Math.Bool.{or-true}
use Rattle.js_values.specs.declared.ids.NodeId.{NodeId}
use Rattle.dom_tree.specs.Change.{put_before, without}
use Rattle.dom_tree.specs.Fits.{in_or_end}
use Rattle.dom_tree.specs.Links.{Chain, followed}
use Rattle.dom_tree.specs.Node.{has, is_distinct, is_this, first_of, last_from, one_before, rest_after}
use Rattle.dom_tree.proofs.Lists.{eq_refl, eq_sym, has_head, has_tail, head_fresh, same_id, tail_distinct}

abbrev pub Link : Type 0
Link = Option NodeId → Option NodeId

-- the place is at no node of the list
abbrev pub out_of : Option NodeId → List NodeId → Bool
out_of None l = true
out_of (Some c) l = not (has c.0 l)

pub followed_chain : (next : NodeId → Option NodeId) (n : ℕ) (F B : Link) (u : Option NodeId) (l : List NodeId)
    → ((c : NodeId) → F (Some c) ≡ next c) → Chain F B u l → length l ≤ n → followed next n (F u) ≡ l
followed_chain next zero F B u [] same h long = refl
followed_chain next zero F B u (c ∷ l) same h long = absurd (omega (arith, long))
followed_chain next (suc n) F B u [] same h long = rw h.0 refl
followed_chain next (suc n) F B u (c ∷ l) same h long =
    rw h.0 (ap (λ r. c ∷ r) (ap (followed next n) (sym (same c)) ∙ followed_chain next n F B (Some c) l same h.2 (omega (arith, long))))

-- what a link backward leads to
pub back_is : (F B : Link) (u r : Option NodeId) (l : List NodeId) → Chain F B u l → in_or_end r l ≡ true
    → (B r ≡ u) ⊎ ((c : NodeId) × (B r ≡ Some c) × (has c.0 l ≡ true))
back_is F B u None [] h e = inl h.1
back_is F B u (Some r) [] h e = cc
back_is F B u None (c ∷ l) h e = by (back_is F B (Some c) None l h.2 refl)
  where
    by : (B None ≡ Some c) ⊎ ((d : NodeId) × (B None ≡ Some d) × (has d.0 l ≡ true)) → (B None ≡ u) ⊎ ((d : NodeId) × (B None ≡ Some d) × (has d.0 (c ∷ l) ≡ true))
    by (inl e) = inr (c, e, rw (eq_refl c.0) refl)
    by (inr (d, e, i)) = inr (d, e, rw i (or-true (nat_eq d.0 c.0)))
back_is F B u (Some r) (c ∷ l) h e = at (nat_eq r.0 c.0) refl e (λ g. back_is F B (Some c) (Some r) l h.2 g)
  where
    by : (B (Some r) ≡ Some c) ⊎ ((d : NodeId) × (B (Some r) ≡ Some d) × (has d.0 l ≡ true)) → (B (Some r) ≡ u) ⊎ ((d : NodeId) × (B (Some r) ≡ Some d) × (has d.0 (c ∷ l) ≡ true))
    by (inl f) = inr (c, f, rw (eq_refl c.0) refl)
    by (inr (d, f, i)) = inr (d, f, rw i (or-true (nat_eq d.0 c.0)))

    at : (b : Bool) → nat_eq r.0 c.0 ≡ b → b || has r.0 l ≡ true → (has r.0 l ≡ true → (B (Some r) ≡ Some c) ⊎ ((d : NodeId) × (B (Some r) ≡ Some d) × (has d.0 l ≡ true)))
        → (B (Some r) ≡ u) ⊎ ((d : NodeId) × (B (Some r) ≡ Some d) × (has d.0 (c ∷ l) ≡ true))
    at true f g more = inl (ap (λ z. B (Some z)) (same_id r c f) ∙ h.1)
    at false f g more = by (more g)

-- what a link forward of a node of the list leads to
pub forth_is : (F B : Link) (u : Option NodeId) (x : NodeId) (l : List NodeId) → Chain F B u l → has x.0 l ≡ true
    → (F (Some x) ≡ None) ⊎ ((c : NodeId) × (F (Some x) ≡ Some c) × (has c.0 l ≡ true))
forth_is F B u x [] h e = cc
forth_is F B u x (c ∷ l) h e = at (nat_eq x.0 c.0) refl e (λ g. forth_is F B (Some c) x l h.2 g)
  where
    ahead : (m : List NodeId) → Chain F B (Some c) m → (F (Some c) ≡ None) ⊎ ((d : NodeId) × (F (Some c) ≡ Some d) × (has d.0 (c ∷ m) ≡ true))
    ahead [] g = inl g.0
    ahead (d ∷ m) g = inr (d, g.0, rw (eq_refl d.0) (or-true (nat_eq d.0 c.0)))

    by : (F (Some x) ≡ None) ⊎ ((d : NodeId) × (F (Some x) ≡ Some d) × (has d.0 l ≡ true)) → (F (Some x) ≡ None) ⊎ ((d : NodeId) × (F (Some x) ≡ Some d) × (has d.0 (c ∷ l) ≡ true))
    by (inl f) = inl f
    by (inr (d, f, i)) = inr (d, f, rw i (or-true (nat_eq d.0 c.0)))

    at : (b : Bool) → nat_eq x.0 c.0 ≡ b → b || has x.0 l ≡ true → (has x.0 l ≡ true → (F (Some x) ≡ None) ⊎ ((d : NodeId) × (F (Some x) ≡ Some d) × (has d.0 l ≡ true)))
        → (F (Some x) ≡ None) ⊎ ((d : NodeId) × (F (Some x) ≡ Some d) × (has d.0 (c ∷ l) ≡ true))
    at true f g more = subst (λ z. (F (Some z) ≡ None) ⊎ ((d : NodeId) × (F (Some z) ≡ Some d) × (has d.0 (c ∷ l) ≡ true))) (sym (same_id x c f)) (ahead l h.2)
    at false f g more = by (more g)

-- a chain stays where its links do
pub frame : (F B F' B' : Link) (u : Option NodeId) (l : List NodeId) → Chain F B u l → F' u ≡ F u → B' None ≡ B None
    → ((c : NodeId) → has c.0 l ≡ true → (F' (Some c) ≡ F (Some c)) × (B' (Some c) ≡ B (Some c))) → Chain F' B' u l
frame F B F' B' u [] h f b each = (f ∙ h.0, b ∙ h.1)
frame F B F' B' u (c ∷ l) h f b each =
    let here = each c (rw (eq_refl c.0) refl) in
    (f ∙ h.0, here.1 ∙ h.1, frame F B F' B' (Some c) l h.2 here.0 b (λ d i. each d (rw i (or-true (nat_eq d.0 c.0)))))

-- two places are apart
pub apart_some : (c d : NodeId) → nat_eq c.0 d.0 ≡ false → Some c ≡ Some d → ⊥
apart_some c d ne e =
    let same : c ≡ d = cc in
    eqb-false c.0 d.0 ne (ap (λ z. z.0) same)

pub in_apart : (c d : NodeId) (l : List NodeId) → has c.0 l ≡ false → has d.0 l ≡ true → nat_eq c.0 d.0 ≡ false
in_apart c d l out in_ = by (nat_eq c.0 d.0) refl
  where
    by : (b : Bool) → nat_eq c.0 d.0 ≡ b → b ≡ false
    by true e = absurd (both_ways (has d.0 l) (ap (λ z. has z l) (sym (eqb-true c.0 d.0 e)) ∙ out) in_)
    by false e = refl

pub out_not : (u : Option NodeId) (c : NodeId) (l : List NodeId) → out_of u l ≡ true → has c.0 l ≡ true → u ≡ Some c → ⊥
out_not u c l out in_ e =
    let g : not (has c.0 l) ≡ true = ap (λ z. out_of z l) (sym e) ∙ out in
    let bad : false ≡ true = ap not (sym in_) ∙ g in
    cc

pub this_is : (c : NodeId) (r : Option NodeId) → is_this c.0 r ≡ true → r ≡ Some c
this_is c None e = cc
this_is c (Some r) e = ap Some (sym (same_id c r e))

pub this_not : (c : NodeId) (r : Option NodeId) → is_this c.0 r ≡ false → Some c ≡ r → ⊥
this_not c None e f = cc
this_not c (Some r) e f = apart_some c r e f

pub out_fresh : (c : NodeId) (l : List NodeId) → is_distinct (c ∷ l) ≡ true → out_of (Some c) l ≡ true
out_fresh c l d = ap not (head_fresh c l d)

-- the links after x is put in between q and r
pub record Puts (F B F' B' : Link) (q : Option NodeId) (x : NodeId) (r : Option NodeId) : Type 0 where
  pub front : F' q ≡ Some x
  pub ahead : F' (Some x) ≡ r
  pub behind : B' (Some x) ≡ q
  pub back : B' r ≡ Some x
  pub forward : (u : Option NodeId) → (u ≡ q → ⊥) → (u ≡ Some x → ⊥) → F' u ≡ F u
  pub backward : (u : Option NodeId) → (u ≡ r → ⊥) → (u ≡ Some x → ⊥) → B' u ≡ B u

module _ (F B F' B' : Link) (q : Option NodeId) (x : NodeId) (r : Option NodeId) (puts : Puts F B F' B' q x r) (q_is : q ≡ B r) where
  -- x stands at the front of what is left
  put_here : (u : Option NodeId) (c : NodeId) (l : List NodeId) → r ≡ Some c → Chain F B u (c ∷ l) → has x.0 (c ∷ l) ≡ false
      → is_distinct (c ∷ l) ≡ true → out_of u (c ∷ l) ≡ true → Chain F' B' u (x ∷ c ∷ l)
  put_here u c l r_is h x_out d u_out =
      (ap F' (sym u_is) ∙ puts.front, puts.behind ∙ u_is, (puts.ahead ∙ r_is, ap B' (sym r_is) ∙ puts.back, frame F B F' B' (Some c) l h.2 (kept_forward c (has_head c l)) none_kept each))
    where
      u_is : q ≡ u
      u_is = q_is ∙ ap B r_is ∙ h.1

      kept_forward : (e : NodeId) → has e.0 (c ∷ l) ≡ true → F' (Some e) ≡ F (Some e)
      kept_forward e i = puts.forward (Some e) (λ f. out_not u e (c ∷ l) u_out i (sym (f ∙ u_is))) (λ f. apart_some x e (in_apart x e (c ∷ l) x_out i) (sym f))

      none_kept : B' None ≡ B None
      none_kept = puts.backward None (λ f. let bad : None ≡ Some c = f ∙ r_is in cc) (λ f. cc)

      each : (e : NodeId) → has e.0 l ≡ true → (F' (Some e) ≡ F (Some e)) × (B' (Some e) ≡ B (Some e))
      each e i = (
        kept_forward e (has_tail e c l i),
        puts.backward (Some e) (λ f. apart_some c e (in_apart c e l (head_fresh c l d) i) (sym (f ∙ r_is))) (λ f. apart_some x e (in_apart x e (c ∷ l) x_out (has_tail e c l i)) (sym f)),
      )

  pub put_in : (u : Option NodeId) (l : List NodeId) → Chain F B u l → in_or_end r l ≡ true → has x.0 l ≡ false → is_distinct l ≡ true
      → out_of u l ≡ true → (u ≡ Some x → ⊥) → Chain F' B' u (put_before r x l)
  put_in u [] h i x_out d u_out u_not = at_end r refl i
    where
      at_end : (z : Option NodeId) → r ≡ z → in_or_end z [] ≡ true → Chain F' B' u (x ∷ [])
      at_end None e i =
          let u_is : q ≡ u = q_is ∙ ap B e ∙ h.1 in
          (ap F' (sym u_is) ∙ puts.front, puts.behind ∙ u_is, (puts.ahead ∙ e, ap B' (sym e) ∙ puts.back))
      at_end (Some z) e i = cc
  put_in u (c ∷ l) h i x_out d u_out u_not =
      by (is_this c.0 r) refl
      (λ e. put_in (Some c) l h.2 (later e r refl i) (or_parts (nat_eq x.0 c.0) (has x.0 l) x_out).1 (tail_distinct c l d) (out_fresh c l d) c_not_x)
    where
      later : is_this c.0 r ≡ false → (z : Option NodeId) → r ≡ z → in_or_end z (c ∷ l) ≡ true → in_or_end z l ≡ true
      later e None f g = refl
      later e (Some z) f g =
          let ne : nat_eq z.0 c.0 ≡ false = eq_sym z.0 c.0 ∙ ap (is_this c.0) (sym f) ∙ e in
          rw ne at g

      u_not_q : is_this c.0 r ≡ false → u ≡ q → ⊥
      u_not_q e f = go (back_is F B (Some c) r l h.2 (later e r refl i))
        where
          go : (B r ≡ Some c) ⊎ ((z : NodeId) × (B r ≡ Some z) × (has z.0 l ≡ true)) → ⊥
          go (inl g) = out_not u c (c ∷ l) u_out (has_head c l) (f ∙ q_is ∙ g)
          go (inr (z, g, j)) = out_not u z (c ∷ l) u_out (has_tail z c l j) (f ∙ q_is ∙ g)

      c_not_x : Some c ≡ Some x → ⊥
      c_not_x f = apart_some x c (in_apart x c (c ∷ l) x_out (has_head c l)) (sym f)

      by : (b : Bool) → is_this c.0 r ≡ b → (is_this c.0 r ≡ false → Chain F' B' (Some c) (put_before r x l)) → Chain F' B' u (cond b (x ∷ c ∷ l) (c ∷ put_before r x l))
      by true e more = put_here u c l (this_is c r e) h x_out d u_out
      by false e more = (puts.forward u (u_not_q e) u_not ∙ h.0, puts.backward (Some c) (this_not c r e) c_not_x ∙ h.1, more e)

-- the links after x is taken out from between q and r
pub record Takes (F B F' B' : Link) (q : Option NodeId) (x : NodeId) (r : Option NodeId) : Type 0 where
  pub front : F' q ≡ r
  pub back : B' r ≡ q
  pub forward : (u : Option NodeId) → (u ≡ q → ⊥) → (u ≡ Some x → ⊥) → F' u ≡ F u
  pub backward : (u : Option NodeId) → (u ≡ r → ⊥) → (u ≡ Some x → ⊥) → B' u ≡ B u

module _ (F B F' B' : Link) (q : Option NodeId) (x : NodeId) (r : Option NodeId) (takes : Takes F B F' B' q x r) (q_is : q ≡ B (Some x)) (r_is : r ≡ F (Some x)) where
  take_here : (u : Option NodeId) (l : List NodeId) → B (Some x) ≡ u → Chain F B (Some x) l → is_distinct (x ∷ l) ≡ true → out_of u (x ∷ l) ≡ true → Chain F' B' u l
  take_here u [] b h d u_out =
      let u_is : q ≡ u = q_is ∙ b in
      let none : r ≡ None = r_is ∙ h.0 in
      (ap F' (sym u_is) ∙ takes.front ∙ none, ap B' (sym none) ∙ takes.back ∙ u_is)
  take_here u (c ∷ l) b h d u_out =
      (ap F' (sym u_is) ∙ takes.front ∙ some, ap B' (sym some) ∙ takes.back ∙ u_is, frame F B F' B' (Some c) l h.2 (kept_forward c (has_head c l)) none_kept each)
    where
      u_is : q ≡ u
      u_is = q_is ∙ b

      some : r ≡ Some c
      some = r_is ∙ h.0

      apart : (e : NodeId) → has e.0 (c ∷ l) ≡ true → Some e ≡ Some x → ⊥
      apart e i f = apart_some x e (in_apart x e (c ∷ l) (head_fresh x (c ∷ l) d) i) (sym f)

      kept_forward : (e : NodeId) → has e.0 (c ∷ l) ≡ true → F' (Some e) ≡ F (Some e)
      kept_forward e i = takes.forward (Some e) (λ f. out_not u e (x ∷ c ∷ l) u_out (has_tail e x (c ∷ l) i) (sym (f ∙ u_is))) (apart e i)

      none_kept : B' None ≡ B None
      none_kept = takes.backward None (λ f. let bad : None ≡ Some c = f ∙ some in cc) (λ f. cc)

      fresh : has c.0 l ≡ false
      fresh = head_fresh c l (tail_distinct x (c ∷ l) d)

      each : (e : NodeId) → has e.0 l ≡ true → (F' (Some e) ≡ F (Some e)) × (B' (Some e) ≡ B (Some e))
      each e i =
          (kept_forward e (has_tail e c l i), takes.backward (Some e) (λ f. apart_some c e (in_apart c e l fresh i) (sym (f ∙ some))) (apart e (has_tail e c l i)))

  pub take_out : (u : Option NodeId) (l : List NodeId) → Chain F B u l → has x.0 l ≡ true → is_distinct l ≡ true → out_of u l ≡ true → Chain F' B' u (without x.0 l)
  take_out u [] h i d u_out = cc
  take_out u (c ∷ l) h i d u_out = by (nat_eq x.0 c.0) refl i (λ j. take_out (Some c) l h.2 j (tail_distinct c l d) (out_fresh c l d))
    where
      u_not_q : has x.0 l ≡ true → u ≡ q → ⊥
      u_not_q j f = go (back_is F B (Some c) (Some x) l h.2 j)
        where
          go : (B (Some x) ≡ Some c) ⊎ ((z : NodeId) × (B (Some x) ≡ Some z) × (has z.0 l ≡ true)) → ⊥
          go (inl g) = out_not u c (c ∷ l) u_out (has_head c l) (f ∙ q_is ∙ g)
          go (inr (z, g, j)) = out_not u z (c ∷ l) u_out (has_tail z c l j) (f ∙ q_is ∙ g)

      c_not_r : has x.0 l ≡ true → Some c ≡ r → ⊥
      c_not_r j f = go (forth_is F B (Some c) x l h.2 j)
        where
          go : (F (Some x) ≡ None) ⊎ ((z : NodeId) × (F (Some x) ≡ Some z) × (has z.0 l ≡ true)) → ⊥
          go (inl g) = let bad : Some c ≡ None = f ∙ r_is ∙ g in cc
          go (inr (z, g, j)) = apart_some c z (in_apart c z l (head_fresh c l d) j) (f ∙ r_is ∙ g)

      by : (b : Bool) → nat_eq x.0 c.0 ≡ b → b || has x.0 l ≡ true → (has x.0 l ≡ true → Chain F' B' (Some c) (without x.0 l)) → Chain F' B' u (cond b l (c ∷ without x.0 l))
      by true e j more =
          let is : x ≡ c = same_id x c e in
          take_here u l (ap (λ z. B (Some z)) is ∙ h.1) (subst (λ z. Chain F B (Some z) l) (sym is) h.2) (subst (λ z. is_distinct (z ∷ l) ≡ true) (sym is) d) (subst (λ z. out_of u (z ∷ l) ≡ true) (sym is) u_out)
      by false e j more = (
        takes.forward u (u_not_q j) (out_not u x (c ∷ l) u_out (has_tail x c l j)) ∙ h.0,
        takes.backward (Some c) (c_not_r j) (λ f. apart_some x c e (sym f)) ∙ h.1,
        more j,
      )

-- what the links of a chain tell
pub chain_first : (F B : Link) (u : Option NodeId) (l : List NodeId) → Chain F B u l → F u ≡ first_of l
chain_first F B u [] h = h.0
chain_first F B u (c ∷ l) h = h.0

pub chain_last : (F B : Link) (u : Option NodeId) (l : List NodeId) → Chain F B u l → B None ≡ last_from u l
chain_last F B u [] h = h.1
chain_last F B u (c ∷ l) h = chain_last F B (Some c) l h.2

pub chain_next : (F B : Link) (u : Option NodeId) (x : NodeId) (l : List NodeId) → Chain F B u l → has x.0 l ≡ true → F (Some x) ≡ first_of (rest_after x.0 l)
chain_next F B u x [] h i = cc
chain_next F B u x (c ∷ l) h i = by (nat_eq x.0 c.0) refl i (λ j. chain_next F B (Some c) x l h.2 j)
  where
    by : (b : Bool) → nat_eq x.0 c.0 ≡ b → b || has x.0 l ≡ true → (has x.0 l ≡ true → F (Some x) ≡ first_of (rest_after x.0 l)) → F (Some x) ≡ first_of (cond b l (rest_after x.0 l))
    by true e j more = ap (λ z. F (Some z)) (same_id x c e) ∙ chain_first F B (Some c) l h.2
    by false e j more = more j

pub chain_previous : (F B : Link) (u : Option NodeId) (x : NodeId) (l : List NodeId) → Chain F B u l → has x.0 l ≡ true → B (Some x) ≡ one_before u x.0 l
chain_previous F B u x [] h i = cc
chain_previous F B u x (c ∷ l) h i = by (nat_eq x.0 c.0) refl i (λ j. chain_previous F B (Some c) x l h.2 j)
  where
    by : (b : Bool) → nat_eq x.0 c.0 ≡ b → b || has x.0 l ≡ true → (has x.0 l ≡ true → B (Some x) ≡ one_before (Some c) x.0 l) → B (Some x) ≡ cond b u (one_before (Some c) x.0 l)
    by true e j more = ap (λ z. B (Some z)) (same_id x c e) ∙ h.1
    by false e j more = more j

-- no node of a chain is beside itself
pub not_self_back : (F B : Link) (u : Option NodeId) (x : NodeId) (l : List NodeId) → Chain F B u l → has x.0 l ≡ true → is_distinct l ≡ true → out_of u l ≡ true → B (Some x) ≡ Some x → ⊥
not_self_back F B u x [] h i d out e = cc
not_self_back F B u x (c ∷ l) h i d out e = by (nat_eq x.0 c.0) refl i (λ j. not_self_back F B (Some c) x l h.2 j (tail_distinct c l d) (out_fresh c l d) e)
  where
    by : (b : Bool) → nat_eq x.0 c.0 ≡ b → b || has x.0 l ≡ true → (has x.0 l ≡ true → ⊥) → ⊥
    by true f j more = out_not u x (c ∷ l) out i (sym h.1 ∙ ap (λ z. B (Some z)) (sym (same_id x c f)) ∙ e)
    by false f j more = more j

pub not_self_forth : (F B : Link) (u : Option NodeId) (x : NodeId) (l : List NodeId) → Chain F B u l → has x.0 l ≡ true → is_distinct l ≡ true → F (Some x) ≡ Some x → ⊥
not_self_forth F B u x [] h i d e = cc
not_self_forth F B u x (c ∷ l) h i d e = by (nat_eq x.0 c.0) refl i (λ j. not_self_forth F B (Some c) x l h.2 j (tail_distinct c l d) e)
  where
    ahead : (m : List NodeId) → Chain F B (Some c) m → is_distinct (c ∷ m) ≡ true → F (Some c) ≡ Some c → ⊥
    ahead [] g d f = let bad : None ≡ Some c = sym g.0 ∙ f in cc
    ahead (y ∷ m) g d f = apart_some c y (in_apart c y (y ∷ m) (head_fresh c (y ∷ m) d) (has_head y m)) (sym f ∙ g.0)

    by : (b : Bool) → nat_eq x.0 c.0 ≡ b → b || has x.0 l ≡ true → (has x.0 l ≡ true → ⊥) → ⊥
    by true f j more =
        let is : x ≡ c = same_id x c f in
        ahead l h.2 d (ap (λ z. F (Some z)) (sym is) ∙ e ∙ ap Some is)
    by false f j more = more j
