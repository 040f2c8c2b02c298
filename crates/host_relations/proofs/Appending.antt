-- Appending the children of all nodes again gives the nodes.
use Rattle.std.proofs.Common.{◌≡◌, refl, sym, ap, subst, ◌∙◌, ℕ, zero, suc, ◌<◌, ◌≤◌, ◌&&◌, ◌||◌, not, Bool, true, false, nat_eq, if◌then◌else◌, List, [], ◌∷◌, ◌++◌, length, filter, Option, Some, None, append_assoc, arith}
use Rattle.std.proofs.lemmas.Bool.{and_parts, eqb-true, ne_eqb, or_parts}
use Rattle.std.specs.List.{list_all, list_any}
use Rattle.js_values.specs.declared.ids.NodeId.{NodeId}
use Rattle.dom_tree.proofs.Callers.{Moved, child_in, eq_refl, eq_sym, has_head, id_of, moved, no_own_ancestor, parent_in, parent_of_child, same_id}
use Rattle.dom_tree.specs.Change.{has_other_element, inserted, insertion_error, is_above, is_above_within, is_misplaced, of_parent, put_before, put_under, taken_from}
use Rattle.dom_tree.specs.declared.fault.DomError.TheVariants.{Hierarchy}
use Rattle.dom_tree.specs.Node.{Nodes, children_at, has, is_distinct, is_document, is_element, is_text, is_this, kind_at, may_have_children, node_at, parent_at}
use Rattle.dom_tree.specs.Sound.{IsSound}
use Rattle.host_relations.specs.Appends.{AllAccepted, AppendsRebuild, AreAccepted, all_appended, alone, appended}

-- ---- lists

put_last : (c : NodeId) (l : List NodeId) → put_before None c l ≡ l ++ c ∷ []
put_last c [] = refl
put_last c (d ∷ l) = ap (λ m. d ∷ m) (put_last c l)

has_append : (k : ℕ) (l m : List NodeId) → has k (l ++ m) ≡ has k l || has k m
has_append k [] m = refl
has_append k (c ∷ l) m = by (nat_eq k c.0) (has_append k l m)
  where
    by : (b : Bool) → has k (l ++ m) ≡ has k l || has k m → (b || has k (l ++ m)) ≡ ((b || has k l) || has k m)
    by true e = refl
    by false e = e

-- of distinct nodes one that stands behind does not stand in front
not_before : (c : NodeId) (l m : List NodeId) → is_distinct (l ++ c ∷ m) ≡ true → has c.0 l ≡ false
not_before c [] m h = refl
not_before c (d ∷ l) m h =
    let parts = and_parts (not (has d.0 (l ++ c ∷ m))) (is_distinct (l ++ c ∷ m)) h in
    by (nat_eq c.0 d.0) refl parts.0 (not_before c l m parts.1)
  where
    by : (b : Bool) → nat_eq c.0 d.0 ≡ b → not (has d.0 (l ++ c ∷ m)) ≡ true → has c.0 l ≡ false → (b || has c.0 l) ≡ false
    by false e fresh later = later
    by true e fresh later =
        let same : c.0 ≡ d.0 = eqb-true c.0 d.0 e in
        let there : has c.0 (l ++ c ∷ m) ≡ true = has_append c.0 l (c ∷ m) ∙ here in
        let bad : has d.0 (l ++ c ∷ m) ≡ true = subst (λ k. has k (l ++ c ∷ m) ≡ true) same there in
        absurd (cc)
      where
        here : (has c.0 l || has c.0 (c ∷ m)) ≡ true
        here = rw (has_head c m) (or (has c.0 l))
          where
            or : (b : Bool) → (b || true) ≡ true
            or true = refl
            or false = refl

has_seam : (c : NodeId) (l m : List NodeId) → has c.0 (l ++ c ∷ m) ≡ true
has_seam c [] m = has_head c m
has_seam c (d ∷ l) m = by (nat_eq c.0 d.0) (has_seam c l m)
  where
    by : (b : Bool) → has c.0 (l ++ c ∷ m) ≡ true → (b || has c.0 (l ++ c ∷ m)) ≡ true
    by true e = refl
    by false e = e

in_front : (k : ℕ) (l m : List NodeId) → has k l ≡ true → has k (l ++ m) ≡ true
in_front k l m h = has_append k l m ∙ rw h refl

-- no node of a list passes where no one does in a longer one
any_front : (f : NodeId → Bool) (l m : List NodeId) → list_any f (l ++ m) ≡ false → list_any f l ≡ false
any_front f [] m h = refl
any_front f (c ∷ l) m h = let parts = or_parts (f c) (list_any f (l ++ m)) h in rw (parts.0, any_front f l m parts.1) refl

-- what all of a list passes one of it does
all_has : (f : NodeId → Bool) (c : NodeId) (l : List NodeId) → list_all f l ≡ true → has c.0 l ≡ true → f c ≡ true
all_has f c [] h i = absurd (cc)
all_has f c (d ∷ l) h i =
    let parts = and_parts (f d) (list_all f l) h in
    by (nat_eq c.0 d.0) refl i parts.0 (all_has f c l parts.1)
  where
    by : (b : Bool) → nat_eq c.0 d.0 ≡ b → (b || has c.0 l) ≡ true → f d ≡ true → (has c.0 l ≡ true → f c ≡ true) → f c ≡ true
    by true e j first later = ap f (same_id c d e) ∙ first
    by false e j first later = later j

-- where at most one passes, and this one does, no other does
alone_passes : (f : NodeId → Bool) (c : NodeId) (l : List NodeId) → is_distinct l ≡ true → length (filter f l) ≤ 1 → has c.0 l ≡ true → f c ≡ true → list_any (λ e. f e && not (nat_eq c.0 e.0)) l ≡ false
alone_passes f c [] distinct few i h = refl
alone_passes f c (d ∷ l) distinct few i h =
    let parts = and_parts (not (has d.0 l)) (is_distinct l) distinct in
    by (f d) (nat_eq c.0 d.0) refl refl few i parts.0 (λ g j. alone_passes f c l parts.1 g j h)
  where
    none_left : (m : List NodeId) → length (filter f m) ≤ 0 → list_any (λ e. f e && not (nat_eq c.0 e.0)) m ≡ false
    none_left [] z = refl
    none_left (x ∷ m) z = go (f x) refl z (none_left m)
      where
        go : (b : Bool) → f x ≡ b → length (if b then x ∷ filter f m else filter f m) ≤ 0 → (length (filter f m) ≤ 0 → list_any (λ e. f e && not (nat_eq c.0 e.0)) m ≡ false)
            → ((b && not (nat_eq c.0 x.0)) || list_any (λ e. f e && not (nat_eq c.0 e.0)) m) ≡ false
        go true e w later = absurd (omega (arith, w))
        go false e w later = later w

    some_left : (m : List NodeId) → has c.0 m ≡ true → 0 < length (filter f m)
    some_left [] j = absurd (cc)
    some_left (x ∷ m) j = go (nat_eq c.0 x.0) (f x) refl refl j (some_left m)
      where
        go : (a b : Bool) → nat_eq c.0 x.0 ≡ a → f x ≡ b → (a || has c.0 m) ≡ true → (has c.0 m ≡ true → 0 < length (filter f m)) → 0 < length (if b then x ∷ filter f m else filter f m)
        go a true e g w later = omega arith
        go true false e g w later = let same : f c ≡ false = ap f (same_id c x e) ∙ g in absurd (cc)
        go false false e g w later = later w

    by : (a b : Bool) → f d ≡ a → nat_eq c.0 d.0 ≡ b → length (if a then d ∷ filter f l else filter f l) ≤ 1 → (b || has c.0 l) ≡ true → not (has d.0 l) ≡ true
        → (length (filter f l) ≤ 1 → has c.0 l ≡ true → list_any (λ e. f e && not (nat_eq c.0 e.0)) l ≡ false)
        → ((a && not b) || list_any (λ e. f e && not (nat_eq c.0 e.0)) l) ≡ false
    by true true e g w j fresh later = none_left l (omega (arith, w))
    by true false e g w j fresh later = let some = some_left l j in absurd (omega (arith, w, some))
    by false true e g w j fresh later = let same : f c ≡ false = ap f (same_id c d g) ∙ e in absurd (cc)
    by false false e g w j fresh later = later w j

-- ---- the nodes while their children are appended

-- these nodes have their children, the kth has these of them, and the others have none
record IsGrown (t u : Nodes) (gone : List NodeId) (k : ℕ) (some more : List NodeId) : Type 0 where
  long : length u ≡ length t
  content : (j : ℕ) → (node_at u j).content ≡ (node_at t j).content
  agree : (p c : ℕ) → has c (children_at u p) ≡ is_this p (parent_at u c)
  before : (j : ℕ) → has j gone ≡ true → children_at u j ≡ children_at t j
  here : children_at u k ≡ some
  after : (j : ℕ) → has j gone ≡ false → nat_eq k j ≡ false → children_at u j ≡ []
  are : children_at t k ≡ some ++ more
  fresh : has k gone ≡ false

this_is : (k : ℕ) (o : Option NodeId) → is_this k o ≡ true → o ≡ Some (id_of k)
this_is k None h = absurd (cc)
this_is k (Some c) h = ap Some (same_id c (id_of k) (eq_sym c.0 k ∙ h))

this_self : (p : NodeId) → is_this p.0 (Some p) ≡ true
this_self p = eq_refl p.0

module _ (t u : Nodes) (gone : List NodeId) (k : ℕ) (some more : List NodeId) (sound : IsSound t) (g : IsGrown t u gone k some more) where
  -- what is a child already is one in the end
  kid : (p c : ℕ) → has c (children_at u p) ≡ true → has c (children_at t p) ≡ true
  kid p c h = by (has p gone) (nat_eq k p) refl refl
    where
      by : (a b : Bool) → has p gone ≡ a → nat_eq k p ≡ b → has c (children_at t p) ≡ true
      by true b e f = ap (has c) (sym (g.before p e)) ∙ h
      by false false e f = let none : has c (children_at u p) ≡ false = ap (has c) (g.after p e f) in absurd (cc)
      by false true e f =
          let same : k ≡ p = eqb-true k p f in
          let here : has c some ≡ true = ap (has c) (sym g.here) ∙ subst (λ i. has c (children_at u i) ≡ true) (sym same) h in
          ap (λ i. has c (children_at t i)) (sym same) ∙ ap (has c) g.are ∙ in_front c some more here

  parent : (c : ℕ) (p : NodeId) → parent_at u c ≡ Some p → parent_at t c ≡ Some p
  parent c p e = parent_of_child t sound.trees p.0 c (kid p.0 c (g.agree p.0 c ∙ ap (is_this p.0) e ∙ this_self p))

  -- so what is above in the end is not above before
  lower : (n x j : ℕ) → is_above_within t n x j ≡ false → is_above_within u n x j ≡ false
  lower zero x j h = refl
  lower (suc n) x j h =
      let parts = or_parts (nat_eq x j) (of_parent (parent_at t j) (λ p. is_above_within t n x p)) h in
      rw parts.0 (by (parent_at u j) refl parts.1 (λ i. lower n x i))
    where
      by : (o : Option NodeId) → parent_at u j ≡ o → of_parent (parent_at t j) (λ p. is_above_within t n x p) ≡ false → ((i : ℕ) → is_above_within t n x i ≡ false → is_above_within u n x i ≡ false)
          → of_parent o (λ p. is_above_within u n x p) ≡ false
      by None e f later = refl
      by (Some p) e f later = later p.0 (ap (λ o. of_parent o (λ i. is_above_within t n x i)) (sym (parent j p e)) ∙ f)

kind_same : (t u : Nodes) → ((j : ℕ) → (node_at u j).content ≡ (node_at t j).content) → (j : ℕ) → kind_at u j ≡ kind_at t j
kind_same t u h j = ap (λ c. c.kind) (h j)

-- the next child is alone, and may be appended
module _ (t u : Nodes) (gone : List NodeId) (k : ℕ) (c : NodeId) (some more : List NodeId) (sound : IsSound t) (g : IsGrown t u gone k some (c ∷ more)) where
  child : has c.0 (children_at t k) ≡ true
  child = ap (has c.0) g.are ∙ has_seam c some more

  up : parent_at t c.0 ≡ Some (id_of k)
  up = parent_of_child t sound.trees k c.0 child

  fresh : has c.0 some ≡ false
  fresh = not_before c some more (ap is_distinct (sym g.are) ∙ sound.trees.distinct k)

  alone_yet : parent_at u c.0 ≡ None
  alone_yet = by (parent_at u c.0) refl
    where
      by : (o : Option NodeId) → parent_at u c.0 ≡ o → o ≡ None
      by None e = refl
      by (Some p) e =
          let over : parent_at t c.0 ≡ Some p = parent t u gone k some (c ∷ more) sound g c.0 p e in
          let ids : Some p ≡ Some (id_of k) = sym over ∙ up in
          let same : p.0 ≡ k = ap (λ (o : Option NodeId). here o) ids in
          let there : has c.0 some ≡ true = ap (has c.0) (sym g.here) ∙ g.agree k c.0 ∙ ap (is_this k) e ∙ ap (λ i. nat_eq k i) same ∙ eq_refl k in
          let f = fresh in
          absurd (cc)
        where
          here : Option NodeId → ℕ
          here None = 0
          here (Some q) = q.0

  not_first : nat_eq c.0 0 ≡ false
  not_first = by (nat_eq c.0 0) refl
    where
      by : (b : Bool) → nat_eq c.0 0 ≡ b → b ≡ false
      by false e = refl
      by true e = let bad : None ≡ Some (id_of k) = sym sound.root ∙ ap (parent_at t) (sym (eqb-true c.0 0 e)) ∙ up in absurd (cc)

  holds : may_have_children (kind_at t k) ≡ true
  holds = by (may_have_children (kind_at t k)) refl
    where
      by : (b : Bool) → may_have_children (kind_at t k) ≡ b → b ≡ true
      by true e = refl
      by false e = let bad : has c.0 (children_at t k) ≡ false = ap (has c.0) (sound.leaves k e) in let i = child in absurd (cc)

  -- under the document
  well_placed : is_document (kind_at t k) ≡ true → is_misplaced u c.0 ≡ false
  well_placed d =
      let first : k ≡ 0 = eqb-true k 0 (sym (sound.document k) ∙ d) in
      let kids : children_at t 0 ≡ some ++ c ∷ more = ap (children_at t) (sym first) ∙ g.are in
      let among : has c.0 (children_at t 0) ≡ true = ap (λ i. has c.0 (children_at t i)) (sym first) ∙ child in
      let no_text : is_text (kind_at u c.0) ≡ false = ap is_text (kind_same t u g.content c.0) ∙ not_true (is_text (kind_at t c.0)) (all_has (λ e. not (is_text (kind_at t e.0))) c (children_at t 0) sound.no_text among) in
      rw no_text (by (is_element (kind_at u c.0)) refl first kids among)
    where
      not_true : (b : Bool) → not b ≡ true → b ≡ false
      not_true true e = absurd (cc)
      not_true false e = refl

      any_same : (l : List NodeId) → list_any (λ e. is_element (kind_at u e.0) && not (nat_eq c.0 e.0)) l ≡ list_any (λ e. is_element (kind_at t e.0) && not (nat_eq c.0 e.0)) l
      any_same [] = refl
      any_same (x ∷ l) = rw (kind_same t u g.content x.0, any_same l) refl

      by : (b : Bool) → is_element (kind_at u c.0) ≡ b → k ≡ 0 → children_at t 0 ≡ some ++ c ∷ more → has c.0 (children_at t 0) ≡ true → (b && has_other_element u c.0) ≡ false
      by false e first kids among = refl
      by true e first kids among =
          let is : is_element (kind_at t c.0) ≡ true = ap is_element (sym (kind_same t u g.content c.0)) ∙ e in
          let none : list_any (λ e. is_element (kind_at t e.0) && not (nat_eq c.0 e.0)) (children_at t 0) ≡ false =
          alone_passes (λ e. is_element (kind_at t e.0)) c (children_at t 0) (sound.trees.distinct 0) sound.one_element among is
          in
          let front : list_any (λ e. is_element (kind_at t e.0) && not (nat_eq c.0 e.0)) some ≡ false =
          any_front (λ e. is_element (kind_at t e.0) && not (nat_eq c.0 e.0)) some (c ∷ more) (ap (list_any (λ e. is_element (kind_at t e.0) && not (nat_eq c.0 e.0))) (sym kids) ∙ none)
          in
          ap (list_any (λ e. is_element (kind_at u e.0) && not (nat_eq c.0 e.0))) (ap (children_at u) (sym first) ∙ g.here) ∙ any_same some ∙ front

  accepted : insertion_error u (id_of k) c None ≡ None
  accepted =
      let above : is_above u c.0 k ≡ false =
      ap (λ n. is_above_within u n c.0 k) g.long ∙ lower t u gone k some (c ∷ more) sound g (length t) c.0 k (no_own_ancestor t c.0 (id_of k) sound up)
      in
      rw (ap may_have_children (kind_same t u g.content k) ∙ holds, ap is_document (kind_same t u g.content c.0) ∙ sound.document c.0 ∙ not_first, above, ap is_document (kind_same t u g.content k))
      (by (is_document (kind_at t k)) refl)
    where
      by : (b : Bool) → is_document (kind_at t k) ≡ b → (if b && is_misplaced u c.0 then Some Hierarchy else None) ≡ None
      by true e = rw (well_placed e) refl
      by false e = refl

  abbrev next : Nodes
  next = inserted u (id_of k) c None

  taken : next ≡ put_under u (id_of k) c None
  taken = ap (λ o. put_under (taken_from u c o) (id_of k) c None) alone_yet

  k_in : k < length u
  k_in = subst (λ n. k < n) (sym g.long) (parent_in t sound.trees c.0 (id_of k) up)

  c_in : c.0 < length u
  c_in = subst (λ n. c.0 < n) (sym g.long) (child_in t sound.trees k c.0 child)

  abbrev put : Nodes
  put = put_under u (id_of k) c None

  m : Moved u (put_under u (id_of k) c None) (id_of k) c (put_before None c (children_at u k)) (Some (id_of k))
  m = moved u (id_of k) c (put_before None c (children_at u k)) (Some (id_of k)) k_in c_in

  kids_now : children_at put k ≡ some ++ c ∷ []
  kids_now = m.children_here ∙ ap (put_before None c) g.here ∙ put_last c some

  other_kids : (j : ℕ) → (j ≡ k → ⊥) → children_at put j ≡ children_at u j
  other_kids j away = m.children_other j (ne_eqb k j (λ e. away (sym e)))

  agree_now : (p x : ℕ) → has x (children_at put p) ≡ is_this p (parent_at put x)
  agree_now p x = by (nat_eq k p) (nat_eq c.0 x) refl refl
    where
      or_false : (b : Bool) → (b || false) ≡ b
      or_false true = refl
      or_false false = refl

      or_true : (b : Bool) → (b || true) ≡ true
      or_true true = refl
      or_true false = refl

      last : (b : Bool) → nat_eq x c.0 ≡ b → has x (some ++ c ∷ []) ≡ (has x some || (b || false))
      last b e = has_append x some (c ∷ []) ∙ ap (λ z. has x some || (z || false)) e

      by : (a b : Bool) → nat_eq k p ≡ a → nat_eq c.0 x ≡ b → has x (children_at put p) ≡ is_this p (parent_at put x)
      by true true e f =
          let same : k ≡ p = eqb-true k p e in
          let this : c.0 ≡ x = eqb-true c.0 x f in
          let left : has x (children_at put p) ≡ true = ap (λ i. has x (children_at put i)) (sym same) ∙ ap (has x) kids_now ∙ last true (eq_sym x c.0 ∙ f) ∙ or_true (has x some) in
          let right : is_this p (parent_at put x) ≡ true = ap (λ i. is_this p (parent_at put i)) (sym this) ∙ ap (is_this p) m.parent_here ∙ eq_sym p k ∙ e in
          left ∙ sym right
      by true false e f =
          let same : k ≡ p = eqb-true k p e in
          ap (λ i. has x (children_at put i)) (sym same) ∙ ap (has x) kids_now ∙ last false (eq_sym x c.0 ∙ f) ∙ or_false (has x some) ∙ ap (has x) (sym g.here) ∙ g.agree k x
          ∙ ap (λ i. is_this i (parent_at u x)) same ∙ ap (is_this p) (sym (m.parent_other x f))
      by false true e f =
          let this : c.0 ≡ x = eqb-true c.0 x f in
          let left : has x (children_at put p) ≡ is_this p (parent_at u x) = ap (has x) (m.children_other p e) ∙ g.agree p x in
          let none : is_this p (parent_at u x) ≡ false = ap (λ i. is_this p (parent_at u i)) (sym this) ∙ ap (is_this p) alone_yet in
          let right : is_this p (parent_at put x) ≡ false = ap (λ i. is_this p (parent_at put i)) (sym this) ∙ ap (is_this p) m.parent_here ∙ eq_sym p k ∙ e in
          left ∙ none ∙ sym right
      by false false e f = ap (has x) (m.children_other p e) ∙ g.agree p x ∙ ap (is_this p) (sym (m.parent_other x f))

  grown_put : IsGrown t put gone k (some ++ c ∷ []) more
  grown_put = record {
    long = m.long ∙ g.long;
    content = λ j. m.content j ∙ g.content j;
    agree = agree_now;
    before = λ j e. m.children_other j (apart j e) ∙ g.before j e;
    here = kids_now;
    after = λ j e f. m.children_other j f ∙ g.after j e f;
    are = g.are ∙ sym (append_assoc some (c ∷ []) more);
    fresh = g.fresh;
  }
    where
      apart : (j : ℕ) → has j gone ≡ true → nat_eq k j ≡ false
      apart j e = by (nat_eq k j) refl
        where
          by : (b : Bool) → nat_eq k j ≡ b → b ≡ false
          by false f = refl
          by true f = let h = g.fresh in let bad : has k gone ≡ true = subst (λ i. has i gone ≡ true) (sym (eqb-true k j f)) e in absurd (cc)

  grown : IsGrown t next gone k (some ++ c ∷ []) more
  grown = subst (λ v. IsGrown t v gone k (some ++ c ∷ []) more) (sym taken) grown_put

-- ---- all children of a node, and of all nodes

all_here : (t u : Nodes) (gone : List NodeId) (k : ℕ) (some more : List NodeId) → IsSound t → IsGrown t u gone k some more
    → AreAccepted (id_of k) more u × IsGrown t (appended (id_of k) more u) gone k (some ++ more) []
all_here t u gone k some [] sound g = (tt, record { long = g.long; content = g.content; agree = g.agree; before = g.before; here = g.here ∙ end some; after = g.after; are = g.are ∙ end (some ++ []); fresh = g.fresh })
  where
    end : (l : List NodeId) → l ≡ l ++ []
    end [] = refl
    end (x ∷ l) = ap (λ m. x ∷ m) (end l)
all_here t u gone k some (c ∷ more) sound g =
    let rest = all_here t (inserted u (id_of k) c None) gone k (some ++ c ∷ []) more sound (grown t u gone k c some more sound g) in
    ((accepted t u gone k c some more sound g, rest.0), subst (λ l. IsGrown t (appended (id_of k) more (inserted u (id_of k) c None)) gone k l []) (append_assoc some (c ∷ []) more) rest.1)

-- the nodes of a list have their children, and the others have none
record IsSome (t u : Nodes) (gone : List NodeId) : Type 0 where
  long : length u ≡ length t
  content : (j : ℕ) → (node_at u j).content ≡ (node_at t j).content
  agree : (p c : ℕ) → has c (children_at u p) ≡ is_this p (parent_at u c)
  before : (j : ℕ) → has j gone ≡ true → children_at u j ≡ children_at t j
  after : (j : ℕ) → has j gone ≡ false → children_at u j ≡ []

begins : (t u : Nodes) (gone : List NodeId) (k : ℕ) → IsSome t u gone → has k gone ≡ false → IsGrown t u gone k [] (children_at t k)
begins t u gone k g fresh = record { long = g.long; content = g.content; agree = g.agree; before = g.before; here = g.after k fresh; after = λ j e f. g.after j e; are = refl; fresh = fresh }

ends : (t u : Nodes) (gone : List NodeId) (k : NodeId) → IsGrown t u gone k.0 (children_at t k.0) [] → IsSome t u (k ∷ gone)
ends t u gone k g = record {
  long = g.long;
  content = g.content;
  agree = g.agree;
  before = λ j h. before j (nat_eq j k.0) refl h;
  after = λ j h. let parts = or_parts (nat_eq j k.0) (has j gone) h in g.after j parts.1 (eq_sym k.0 j ∙ parts.0);
}
  where
    before : (j : ℕ) (b : Bool) → nat_eq j k.0 ≡ b → (b || has j gone) ≡ true → children_at u j ≡ children_at t j
    before j true e h = ap (children_at u) (eqb-true j k.0 e) ∙ g.here ∙ ap (children_at t) (sym (eqb-true j k.0 e))
    before j false e h = g.before j h

-- no node of the one list stands in the other
abbrev AreApart : List NodeId → List NodeId → Type 0
AreApart ks gone = (j : ℕ) → has j ks ≡ true → has j gone ≡ false

behind : (k : NodeId) (ks gone : List NodeId) → is_distinct (k ∷ ks) ≡ true → AreApart (k ∷ ks) gone → AreApart ks (k ∷ gone)
behind k ks gone distinct apart j h = by (nat_eq j k.0) refl (apart j (in_tail j k ks h))
  where
    in_tail : (j : ℕ) (k : NodeId) (ks : List NodeId) → has j ks ≡ true → has j (k ∷ ks) ≡ true
    in_tail j k ks h = go (nat_eq j k.0)
      where
        go : (b : Bool) → (b || has j ks) ≡ true
        go true = refl
        go false = h

    by : (b : Bool) → nat_eq j k.0 ≡ b → has j gone ≡ false → (b || has j gone) ≡ false
    by false e f = f
    by true e f =
        let first = (and_parts (not (has k.0 ks)) (is_distinct ks) distinct).0 in
        let bad : has k.0 ks ≡ true = subst (λ i. has i ks ≡ true) (eqb-true j k.0 e) h in
        absurd (cc)

-- in another order
abbrev onto : List NodeId → List NodeId → List NodeId
onto [] gone = gone
onto (k ∷ ks) gone = onto ks (k ∷ gone)

all_nodes : (t u : Nodes) (ks gone : List NodeId) → IsSound t → is_distinct ks ≡ true → AreApart ks gone → IsSome t u gone
    → AllAccepted t ks u × IsSome t (all_appended t ks u) (onto ks gone)
all_nodes t u [] gone sound distinct apart g = (tt, g)
all_nodes t u (k ∷ ks) gone sound distinct apart g =
    let here = all_here t u gone k.0 [] (children_at t k.0) sound (begins t u gone k.0 g (apart k.0 (has_head k ks))) in
    let rest = all_nodes t (appended k (children_at t k.0) u) ks (k ∷ gone) sound (and_parts (not (has k.0 ks)) (is_distinct ks) distinct).1
    (behind k ks gone distinct apart) (ends t (appended k (children_at t k.0) u) gone k here.1)
    in
    ((here.0, rest.0), rest.1)

in_onto : (j : ℕ) (ks gone : List NodeId) → has j gone ≡ true → has j (onto ks gone) ≡ true
in_onto j [] gone h = h
in_onto j (k ∷ ks) gone h = in_onto j ks (k ∷ gone) (go (nat_eq j k.0))
  where
    go : (b : Bool) → (b || has j gone) ≡ true
    go true = refl
    go false = h

all_onto : (j : ℕ) (ks gone : List NodeId) → has j ks ≡ true → has j (onto ks gone) ≡ true
all_onto j [] gone h = absurd (cc)
all_onto j (k ∷ ks) gone h = by (nat_eq j k.0) refl h (all_onto j ks (k ∷ gone))
  where
    by : (b : Bool) → nat_eq j k.0 ≡ b → (b || has j ks) ≡ true → (has j ks ≡ true → has j (onto ks (k ∷ gone)) ≡ true) → has j (onto ks (k ∷ gone)) ≡ true
    by true e f later = in_onto j ks (k ∷ gone) (rw e refl)
    by false e f later = later f

-- ---- the beginning and the end

pub alone_long : (t : Nodes) → length (alone t) ≡ length t
alone_long [] = refl
alone_long (n ∷ t) = ap suc (alone_long t)

pub alone_at : (t : Nodes) (k : ℕ) → (parent_at (alone t) k ≡ None) × (children_at (alone t) k ≡ []) × ((node_at (alone t) k).content ≡ (node_at t k).content)
alone_at [] k = (refl, refl, refl)
alone_at (n ∷ t) zero = (refl, refl, refl)
alone_at (n ∷ t) (suc k) = alone_at t k

begun : (t : Nodes) → IsSome t (alone t) []
begun t = record {
  long = alone_long t;
  content = λ j. (alone_at t j).2;
  agree = λ p c. ap (has c) (alone_at t p).1 ∙ sym (ap (is_this p) (alone_at t c).0);
  before = λ j h. absurd (cc h);
  after = λ j h. (alone_at t j).1;
}

module _ (t u : Nodes) (gone : List NodeId) (sound : IsSound t) (g : IsSome t u gone) where
  some_kid : (p c : ℕ) → has c (children_at u p) ≡ true → has c (children_at t p) ≡ true
  some_kid p c h = by (has p gone) refl
    where
      by : (a : Bool) → has p gone ≡ a → has c (children_at t p) ≡ true
      by true e = ap (has c) (sym (g.before p e)) ∙ h
      by false e = let none : has c (children_at u p) ≡ false = ap (has c) (g.after p e) in absurd (cc)

  parents : (j : ℕ) → ((p : NodeId) → parent_at t j ≡ Some p → has p.0 gone ≡ true) → parent_at u j ≡ parent_at t j
  parents j all = by (parent_at t j) refl
    where
      up : (o : Option NodeId) → parent_at u j ≡ o → parent_at t j ≡ None → o ≡ None
      up None e f = refl
      up (Some q) e f =
          let there : has j (children_at u q.0) ≡ true = g.agree q.0 j ∙ ap (is_this q.0) e ∙ this_self q in
          let bad : None ≡ Some (id_of q.0) = sym f ∙ parent_of_child t sound.trees q.0 j (some_kid q.0 j there) in
          absurd (cc)

      by : (o : Option NodeId) → parent_at t j ≡ o → parent_at u j ≡ o
      by None e = up (parent_at u j) refl e
      by (Some p) e =
          let kids : children_at u p.0 ≡ children_at t p.0 = g.before p.0 (all p e) in
          let there : has j (children_at t p.0) ≡ true = sound.trees.agree p.0 j ∙ ap (is_this p.0) e ∙ this_self p in
          this_is p.0 (parent_at u j) (sym (g.agree p.0 j) ∙ ap (has j) kids ∙ there)

pub appends_rebuild : AppendsRebuild
appends_rebuild t ks sound distinct =
    let all = all_nodes t (alone t) ks [] sound distinct (λ j h. refl) (begun t) in
    let g : IsSome t (all_appended t ks (alone t)) (onto ks []) = all.1 in (
      all.0,
      record {
        long = g.long;
        content = g.content;
        children = λ j h. g.before j (all_onto j ks [] h);
        parents = λ j h. parents t (all_appended t ks (alone t)) (onto ks []) sound g j (λ p e. all_onto p.0 ks [] (h p e));
      },
    )
