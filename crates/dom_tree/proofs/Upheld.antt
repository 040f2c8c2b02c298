-- The laws of nodes.
use Rattle.std.proofs.Common.{◌≡◌, refl, sym, ap, subst, ◌∙◌, ℕ, zero, suc, ◌≤◌, Bool, true, false, cond, ◌||◌, nat_eq, List, [], ◌∷◌, ◌++◌, Option, Some, None, length, append-nil, if◌then◌else◌, arith}
use Rattle.std.proofs.lemmas.Bool.{eqb-true, ne_eqb, or_parts}
use Rattle.std.specs.List.{flat_map}
use Rattle.js_values.specs.declared.ids.NodeId.{NodeId}
use Rattle.dom_tree.specs.declared.fault.DomError.TheVariants.{Hierarchy, NotFound}
use Rattle.dom_tree.specs.Change.{breaks_hierarchy, inserted, is_above, is_above_within, is_missing, of_parent, put_before, put_under, taken_out, without}
use Rattle.dom_tree.specs.DomText.{closing, closing_of, dom_text, dom_texts, is_empty, joined_texts, opening, opening_of, own_text, text_content, text_unit}
use Rattle.dom_tree.specs.Fits.{IsReady, in_or_end}
use Rattle.dom_tree.specs.Laws.{Inserts, NoOwnAncestor, OthersStay, StandsBefore, TextIsEscaped, TextsOfChildren}
use Rattle.dom_tree.specs.Node.{Nodes, children_at, first_of, has, is_this, kind_at, may_have_children, next_of, next_under, node_at, parent_at, rest_after}
use Rattle.dom_tree.specs.Sound.{AreTrees, IsSound, Rooted}
use Rattle.dom_tree.specs.Trees.{trees_of, trees_over}
use Rattle.dom_tree.proofs.Chains.{this_is}
use Rattle.dom_tree.proofs.Generations.{parent_depth, trees_are}
use Rattle.dom_tree.proofs.Kept.{has_first}
use Rattle.dom_tree.proofs.Lists.{eq_refl, eq_sym, gone, has_put, has_without_same}
use Rattle.dom_tree.proofs.Moves.{fits, ready}
use Rattle.dom_tree.proofs.Taken.{Left, left}
use Rattle.dom_tree.proofs.Trees.{Moved, depth, moved, same_depth}

-- an accepted insertion passes its tests
pub no_fault : (a b : Bool) → (if a then Some Hierarchy else (if b then Some NotFound else None)) ≡ None → (a ≡ false) × (b ≡ false)
no_fault true b h = cc
no_fault false true h = cc
no_fault false false h = (refl, refl)

-- the one directly after a node that was put in
pub after_put : (before : Option NodeId) (c : NodeId) (l : List NodeId) → in_or_end before l ≡ true → has c.0 l ≡ false → first_of (rest_after c.0 (put_before before c l)) ≡ before
after_put None c [] i out = ap (λ b. first_of (cond b [] [])) (eq_refl c.0)
after_put (Some r) c [] i out = cc
after_put before c (d ∷ l) i out =
    let p = or_parts (nat_eq c.0 d.0) (has c.0 l) out in
    by (is_this d.0 before) refl (λ j. after_put before c l j p.1) p.0
  where
    later : (z : Option NodeId) → in_or_end z (d ∷ l) ≡ true → is_this d.0 z ≡ false → in_or_end z l ≡ true
    later None j f = refl
    later (Some r) j f = let ne : nat_eq r.0 d.0 ≡ false = eq_sym r.0 d.0 ∙ f in rw ne at j

    by : (b : Bool) → is_this d.0 before ≡ b → (in_or_end before l ≡ true → first_of (rest_after c.0 (put_before before c l)) ≡ before) → nat_eq c.0 d.0 ≡ false
        → first_of (rest_after c.0 (cond b (c ∷ d ∷ l) (d ∷ put_before before c l))) ≡ before
    by true f more ne = ap (λ b. first_of (cond b (d ∷ l) (rest_after c.0 (d ∷ l)))) (eq_refl c.0) ∙ sym (this_is d before f)
    by false f more ne = ap (λ b. first_of (cond b (put_before before c l) (rest_after c.0 (put_before before c l)))) ne ∙ more (later before i f)

without_put : (before : Option NodeId) (c : NodeId) (l : List NodeId) → has c.0 l ≡ false → without c.0 (put_before before c l) ≡ l
without_put before c [] out = ap (λ b. cond b [] (c ∷ [])) (eq_refl c.0)
without_put before c (d ∷ l) out =
    let p = or_parts (nat_eq c.0 d.0) (has c.0 l) out in
    by (is_this d.0 before) (without_put before c l p.1) p.0
  where
    by : (b : Bool) → without c.0 (put_before before c l) ≡ l → nat_eq c.0 d.0 ≡ false → without c.0 (cond b (c ∷ d ∷ l) (d ∷ put_before before c l)) ≡ d ∷ l
    by true more ne = ap (λ b. cond b (d ∷ l) (c ∷ without c.0 (d ∷ l))) (eq_refl c.0)
    by false more ne = ap (λ b. cond b (put_before before c l) (d ∷ without c.0 (put_before before c l))) ne ∙ ap (λ r. d ∷ r) more

-- what an accepted insertion makes
record Stands (t u : Nodes) (p c : NodeId) (before : Option NodeId) : Type 0 where
  content : (k : ℕ) → (node_at u k).content ≡ (node_at t k).content
  parent : (k : ℕ) → nat_eq c.0 k ≡ false → parent_at u k ≡ parent_at t k
  here : parent_at u c.0 ≡ Some p
  children : children_at u p.0 ≡ put_before before c (without c.0 (children_at t p.0))
  others : (q : ℕ) → nat_eq p.0 q ≡ false → children_at u q ≡ without c.0 (children_at t q)
  found : in_or_end before (without c.0 (children_at t p.0)) ≡ true

stands : (t : Nodes) (p c : NodeId) (before : Option NodeId) → Inserts t p c before → Stands t (inserted t p c before) p c before
stands t p c before h =
    let a : AreTrees t = h.sound.trees in
    let tests = no_fault (breaks_hierarchy t p.0 c.0) (is_missing t p.0 before) h.accepted in
    let ok : IsReady (taken_out t c) p c before (length t) = ready t p c before a h.child h.apart (fits t p c before tests.0 tests.1) in
    let w : Left t (taken_out t c) c = left t c a in
    let v : Nodes = taken_out t c in
    let m : Moved v (put_under v p c before) p c (put_before before c (children_at v p.0)) (Some p) =
    moved v p c (put_before before c (children_at v p.0)) (Some p) (omega (arith, h.parent, w.long)) (omega (arith, h.child, w.long))
    in
    let same : inserted t p c before ≡ put_under v p c before = ap (λ b. cond b t (put_under v p c before)) h.apart in
    subst (λ u. Stands t u p c before) (sym same)
    (record {
      content = λ k. m.content k ∙ w.content k;
      parent = λ k ne. m.parent_other k ne ∙ w.parent k ne;
      here = m.parent_here;
      children = m.children_here ∙ ap (put_before before c) (w.children p.0);
      others = λ q ne. m.children_other q ne ∙ w.children q;
      found = ap (in_or_end before) (sym (w.children p.0)) ∙ ok.fits.there;
    })

pub stands_before : StandsBefore
stands_before t p c before h =
    let w = stands t p c before h in
    let l : List NodeId = without c.0 (children_at t p.0) in
    let out : has c.0 l ≡ false = has_without_same c.0 (children_at t p.0) (h.sound.trees.distinct p.0) in
    let u : Nodes = inserted t p c before in
    let after : next_of u c.0 ≡ before =
    ap (next_under u c.0) w.here ∙ ap (λ z. first_of (rest_after c.0 z)) w.children ∙ after_put before c l w.found out
    in
    (w.here, after, λ q. only q (nat_eq p.0 q) refl w.children (w.others q) out)
  where
    only : (q : ℕ) (b : Bool) → nat_eq p.0 q ≡ b → children_at (inserted t p c before) p.0 ≡ put_before before c (without c.0 (children_at t p.0))
        → (nat_eq p.0 q ≡ false → children_at (inserted t p c before) q ≡ without c.0 (children_at t q)) → has c.0 (without c.0 (children_at t p.0)) ≡ false
        → has c.0 (children_at (inserted t p c before) q) ≡ nat_eq q p.0
    only q true e here other out =
        ap (λ z. has c.0 (children_at (inserted t p c before) z)) (sym (eqb-true p.0 q e)) ∙ ap (has c.0) here ∙ has_put c.0 before c (without c.0 (children_at t p.0))
        ∙ ap (λ b. b || has c.0 (without c.0 (children_at t p.0))) (eq_refl c.0) ∙ sym (eq_sym q p.0 ∙ e)
    only q false e here other out =
        ap (has c.0) (other e) ∙ has_without_same c.0 (children_at t q) (h.sound.trees.distinct q) ∙ sym (eq_sym q p.0 ∙ e)

pub others_stay : OthersStay
others_stay t p c before h =
    let w = stands t p c before h in
    (w.content, w.parent, λ q. children q (nat_eq p.0 q) refl w.children (w.others q))
  where
    twice : (q : ℕ) → without c.0 (without c.0 (children_at t q)) ≡ without c.0 (children_at t q)
    twice q = gone c.0 (without c.0 (children_at t q)) (has_without_same c.0 (children_at t q) (h.sound.trees.distinct q))

    children : (q : ℕ) (b : Bool) → nat_eq p.0 q ≡ b → children_at (inserted t p c before) p.0 ≡ put_before before c (without c.0 (children_at t p.0))
        → (nat_eq p.0 q ≡ false → children_at (inserted t p c before) q ≡ without c.0 (children_at t q))
        → without c.0 (children_at (inserted t p c before) q) ≡ without c.0 (children_at t q)
    children q true e here other =
        ap (λ z. without c.0 (children_at (inserted t p c before) z)) (sym (eqb-true p.0 q e)) ∙ ap (without c.0) here
        ∙ without_put before c (without c.0 (children_at t p.0)) (has_without_same c.0 (children_at t p.0) (h.sound.trees.distinct p.0)) ∙ ap (λ z. without c.0 (children_at t z)) (eqb-true p.0 q e)
    children q false e here other = ap (without c.0) (other e) ∙ twice q

-- what stands above a node is no deeper
above_depth : (t : Nodes) → AreTrees t → (n x k : ℕ) → is_above_within t n x k ≡ true → (r : Rooted t x) (s : Rooted t k) → depth r ≤ depth s
above_depth t a zero x k h r s = cc
above_depth t a (suc n) x k h r s = by (nat_eq x k) refl (parent_at t k) refl h (λ p. above_depth t a n x p)
  where
    by : (b : Bool) → nat_eq x k ≡ b → (o : Option NodeId) → parent_at t k ≡ o → b || of_parent o (λ p. is_above_within t n x p) ≡ true
        → ((p : ℕ) → is_above_within t n x p ≡ true → (q : Rooted t x) (v : Rooted t p) → depth q ≤ depth v) → depth r ≤ depth s
    by true e o f g more = let same : depth r ≡ depth s = same_depth r s (eqb-true x k e) in omega (arith, same)
    by false e None f g more = cc
    by false e (Some p) f g more =
        let v : Rooted t p.0 = a.rooted p.0 in
        let low : depth r ≤ depth v = more p.0 g r v in
        let d : depth s ≡ suc (depth v) = parent_depth t k p f s v in
        omega (arith, low, d)

pub no_own_ancestor : NoOwnAncestor
no_own_ancestor t k p sound up = by (is_above t k p.0) refl
  where
    by : (b : Bool) → is_above t k p.0 ≡ b → b ≡ false
    by true h =
        let r : Rooted t k = sound.trees.rooted k in
        let v : Rooted t p.0 = sound.trees.rooted p.0 in
        let low : depth r ≤ depth v = above_depth t sound.trees (length t) k p.0 h r v in
        let d : depth r ≡ suc (depth v) = parent_depth t k p up r v in
        absurd (omega (arith, low, d))
    by false h = refl

module _ (t : Nodes) (sound : IsSound t) where
  one_dom : (k : NodeId) → dom_text t k ≡ opening_of (node_at t k.0) ++ dom_texts (trees_of t (children_at t k.0)) ++ closing_of (node_at t k.0)
  one_dom k =
      ap dom_texts (trees_are t sound.trees (has_first t sound) (k ∷ []))
      ∙ append-nil (opening_of (node_at t k.0) ++ dom_texts (trees_of t (children_at t k.0)) ++ closing_of (node_at t k.0))

  all_dom : (l : List NodeId) → dom_texts (trees_over t (λ c. trees_of t (children_at t c.0)) l) ≡ flat_map (dom_text t) l
  all_dom [] = refl
  all_dom (c ∷ l) = ap (λ z. z ++ dom_texts (trees_over t (λ d. trees_of t (children_at t d.0)) l)) (sym (one_dom c)) ∙ ap (λ z. dom_text t c ++ z) (all_dom l)

  all_joined : (l : List NodeId) → joined_texts (trees_over t (λ c. trees_of t (children_at t c.0)) l) ≡ flat_map (λ c. own_text (kind_at t c.0) ++ text_content t c) l
  all_joined [] = refl
  all_joined (c ∷ l) = ap (λ z. (own_text (kind_at t c.0) ++ text_content t c) ++ z) (all_joined l)

  under : (l : List NodeId) → trees_of t l ≡ trees_over t (λ c. trees_of t (children_at t c.0)) l
  under l = trees_are t sound.trees (has_first t sound) l

pub texts_of_children : TextsOfChildren
texts_of_children t k sound = (
  one_dom t sound k ∙ ap (λ z. opening_of (node_at t k.0) ++ z ++ closing_of (node_at t k.0)) (ap dom_texts (under t sound (children_at t k.0)) ∙ all_dom t sound (children_at t k.0)),
  ap joined_texts (under t sound (children_at t k.0)) ∙ all_joined t sound (children_at t k.0),
)

other_unit : (u : ℕ) → (u ≡ 38 → ⊥) → (u ≡ 60 → ⊥) → (u ≡ 62 → ⊥) → text_unit u ≡ u ∷ []
other_unit u a b c = rw (ne_eqb u 38 a, ne_eqb u 60 b, ne_eqb u 62 c) refl

pub text_is_escaped : TextIsEscaped
text_is_escaped t k text sound e = (
  one_dom t sound k ∙ ap (λ z. opening_of (node_at t k.0) ++ dom_texts z ++ closing_of (node_at t k.0)) (ap (trees_of t) childless ∙ under t sound [])
      ∙ plain,
  refl,
  refl,
  refl,
  other_unit,
)
  where
    childless : children_at t k.0 ≡ []
    childless = sound.leaves k.0 (ap may_have_children e)

    plain : opening_of (node_at t k.0) ++ [] ++ closing_of (node_at t k.0) ≡ flat_map text_unit text
    plain =
        ap (λ z. opening z (node_at t k.0).content.attributes ++ [] ++ closing z (is_empty (node_at t k.0).children)) e
        ∙ append-nil (flat_map text_unit text ++ []) ∙ append-nil (flat_map text_unit text)
