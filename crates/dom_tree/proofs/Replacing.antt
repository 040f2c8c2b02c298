-- What a replacement asks and leaves.
use Rattle.std.proofs.Common.{◌≡◌, refl, sym, ap, subst, ◌∙◌, ℕ, zero, suc, ◌<◌, Bool, true, false, cond, ◌&&◌, ◌||◌, not, nat_eq, List, [], ◌∷◌, Option, Some, None, length, if◌then◌else◌, arith}
use Rattle.std.proofs.lemmas.Bool.{eqb-true, not-false, or_parts}
use Rattle.std.specs.List.{list_any}
use Rattle.js_values.specs.declared.ids.NodeId.{NodeId}
use Rattle.dom_tree.specs.declared.content.Content.{Content}
use Rattle.dom_tree.specs.declared.content.Kind.{Kind}
use Rattle.dom_tree.specs.declared.fault.DomError.TheVariants.{Hierarchy, NotFound}
use Rattle.dom_tree.specs.Change.{breaks_hierarchy_where, has_other_element, has_third_element, is_above, is_above_within, is_misplaced_for, of_parent, put_before, put_for, put_under, replaced, replacement_error, taken_out, without}
use Rattle.dom_tree.specs.Fits.{Fits, IsReady, in_or_end}
use Rattle.dom_tree.specs.Node.{Nodes, children_at, first_of, has, is_distinct, is_document, is_element, is_text, is_this, kind_at, may_have_children, next_of, next_under, parent_at, rest_after}
use Rattle.dom_tree.specs.Sound.{AreTrees}
use Rattle.dom_tree.proofs.Lists.{eq_sym, gone, has_head, has_tail, has_without_other, head_fresh, tail_distinct}
use Rattle.dom_tree.proofs.Moves.{any_same}
use Rattle.dom_tree.proofs.Taken.{Left, left, only_before}
use Rattle.dom_tree.proofs.Trees.{Moved, moved, parent_of_child, put_trees}
use Rattle.dom_tree.proofs.Upheld.{after_put}

-- ---- lists without a node

first_in : (l : List NodeId) → in_or_end (first_of l) l ≡ true
first_in [] = refl
first_in (c ∷ l) = has_head c l

in_longer : (o : Option NodeId) (c : NodeId) (l : List NodeId) → in_or_end o l ≡ true → in_or_end o (c ∷ l) ≡ true
in_longer None c l h = refl
in_longer (Some d) c l h = has_tail d c l h

-- the one after a node stays where the node is taken out
next_stays : (k : ℕ) (l : List NodeId) → in_or_end (first_of (rest_after k l)) (without k l) ≡ true
next_stays k [] = refl
next_stays k (c ∷ l) = by (nat_eq k c.0) (next_stays k l)
  where
    by : (b : Bool) → in_or_end (first_of (rest_after k l)) (without k l) ≡ true → in_or_end (first_of (cond b l (rest_after k l))) (cond b l (c ∷ without k l)) ≡ true
    by true later = first_in l
    by false later = in_longer (first_of (rest_after k l)) c (without k l) later

any_less : (f : NodeId → Bool) (k : ℕ) (l : List NodeId) → list_any f l ≡ false → list_any f (without k l) ≡ false
any_less f k [] h = refl
any_less f k (c ∷ l) h = let p = or_parts (f c) (list_any f l) h in by (nat_eq k c.0) p.0 p.1 (any_less f k l p.1)
  where
    by : (b : Bool) → f c ≡ false → list_any f l ≡ false → list_any f (without k l) ≡ false → list_any f (cond b l (c ∷ without k l)) ≡ false
    by true here rest later = rest
    by false here rest later = rw (here, later) refl

-- where no other node passes a test, none does once the node is taken out
others_fail : (f : NodeId → Bool) (k : ℕ) (l : List NodeId) → is_distinct l ≡ true → list_any (λ e. f e && not (nat_eq k e.0)) l ≡ false → list_any f (without k l) ≡ false
others_fail f k [] d h = refl
others_fail f k (c ∷ l) d h =
    let p = or_parts (f c && not (nat_eq k c.0)) (list_any (λ e. f e && not (nat_eq k e.0)) l) h in
    by (nat_eq k c.0) refl p.0 (others_fail f k l (tail_distinct c l d) p.1)
  where
    fails : (b : Bool) → b && true ≡ false → b ≡ false
    fails true g = cc
    fails false g = refl

    by : (b : Bool) → nat_eq k c.0 ≡ b → f c && not b ≡ false → list_any f (without k l) ≡ false → list_any f (cond b l (c ∷ without k l)) ≡ false
    by true e g later =
        let out : has k l ≡ false = ap (λ z. has z l) (eqb-true k c.0 e) ∙ head_fresh c l d in
        ap (list_any f) (sym (gone k l out)) ∙ later
    by false e g later = rw (fails (f c) g, later) refl

-- ---- what it asks

-- where parents are parents before too, no more nodes are above
lower : (t u : Nodes) → ((j : ℕ) (p : NodeId) → parent_at u j ≡ Some p → parent_at t j ≡ Some p) → (n x j : ℕ) → is_above_within t n x j ≡ false → is_above_within u n x j ≡ false
lower t u up zero x j h = refl
lower t u up (suc n) x j h =
    let parts = or_parts (nat_eq x j) (of_parent (parent_at t j) (λ p. is_above_within t n x p)) h in
    rw parts.0 (by (parent_at u j) refl parts.1 (λ i. lower t u up n x i))
  where
    by : (o : Option NodeId) → parent_at u j ≡ o → of_parent (parent_at t j) (λ p. is_above_within t n x p) ≡ false → ((i : ℕ) → is_above_within t n x i ≡ false → is_above_within u n x i ≡ false)
        → of_parent o (λ p. is_above_within u n x p) ≡ false
    by None e f later = refl
    by (Some p) e f later = later p.0 (ap (λ o. of_parent o (λ i. is_above_within t n x i)) (sym (up j p e)) ∙ f)

-- a replacement passes its tests
pub record IsAccepted (t : Nodes) (p c old : NodeId) : Type 0 where
  pub hierarchy : breaks_hierarchy_where t p.0 c.0 (is_misplaced_for t c.0 old.0) ≡ false
  pub found : has old.0 (children_at t p.0) ≡ true

pub is_accepted : (t : Nodes) (p c old : NodeId) → replacement_error t p c old ≡ None → IsAccepted t p c old
is_accepted t p c old h = by (breaks_hierarchy_where t p.0 c.0 (is_misplaced_for t c.0 old.0)) (has old.0 (children_at t p.0)) refl refl h
  where
    by : (a b : Bool) → breaks_hierarchy_where t p.0 c.0 (is_misplaced_for t c.0 old.0) ≡ a → has old.0 (children_at t p.0) ≡ b
        → (if a then Some Hierarchy else (if b then None else Some NotFound)) ≡ None → IsAccepted t p c old
    by true b e f g = cc
    by false false e f g = cc
    by false true e f g = record { hierarchy = e; found = f }

true_and : (a b : Bool) → a ≡ true → a && b ≡ false → b ≡ false
true_and true b e h = h
true_and false b e h = absurd (let bad : false ≡ true = e in cc)

module _ (t : Nodes) (p c old : NodeId) (a : AreTrees t) (apart : nat_eq c.0 old.0 ≡ false) (ok : IsAccepted t p c old) where
  abbrev out : Nodes
  out = taken_out t c

  abbrev both_out : Nodes
  both_out = taken_out out old

  left_out : Left t out c
  left_out = left t c a

  left_both : Left out both_out old
  left_both = left out old left_out.trees

  pub as_long : length both_out ≡ length t
  as_long = left_both.long ∙ left_out.long

  kind_same : {X : Type 0} (f : Kind → X) (k : ℕ) → f (kind_at both_out k) ≡ f (kind_at t k)
  kind_same f k = ap (λ (c : Content). f c.kind) (left_both.content k ∙ left_out.content k)

  -- the old one still stands under the parent
  old_in : has old.0 (children_at out p.0) ≡ true
  old_in = ap (has old.0) (left_out.children p.0) ∙ has_without_other old.0 c.0 (children_at t p.0) (eq_sym old.0 c.0 ∙ apart) ∙ ok.found

  next_is : next_of out old.0 ≡ first_of (rest_after old.0 (children_at out p.0))
  next_is = ap (next_under out old.0) (parent_of_child out left_out.trees p.0 old.0 old_in)

  no_other : is_element (kind_at t c.0) && has_third_element t c.0 old.0 ≡ false → is_element (kind_at t c.0) ≡ true → has_other_element both_out c.0 ≡ false
  no_other h e =
      any_same (λ d. is_element (kind_at both_out d.0) && not (nat_eq c.0 d.0)) (λ d. is_element (kind_at t d.0) && not (nat_eq c.0 d.0)) (children_at both_out 0) (λ d. ap (λ b. b && not (nat_eq c.0 d.0)) (kind_same is_element d.0))
      ∙ ap (list_any (λ d. is_element (kind_at t d.0) && not (nat_eq c.0 d.0))) (left_both.children 0)
      ∙ others_fail (λ d. is_element (kind_at t d.0) && not (nat_eq c.0 d.0)) old.0 (children_at out 0) (left_out.trees.distinct 0)
      (ap (list_any (λ d. is_element (kind_at t d.0) && not (nat_eq c.0 d.0) && not (nat_eq old.0 d.0))) (left_out.children 0)
      ∙ any_less (λ d. is_element (kind_at t d.0) && not (nat_eq c.0 d.0) && not (nat_eq old.0 d.0)) c.0 (children_at t 0) (true_and (is_element (kind_at t c.0)) (has_third_element t c.0 old.0) e h))

  pub fits_for : Fits both_out p c (next_of out old.0)
  fits_for =
      let whole = or_parts (not (may_have_children (kind_at t p.0)) || is_document (kind_at t c.0) || is_above t c.0 p.0) (is_document (kind_at t p.0) && is_misplaced_for t c.0 old.0) ok.hierarchy in
      let front = or_parts (not (may_have_children (kind_at t p.0)) || is_document (kind_at t c.0)) (is_above t c.0 p.0) whole.0 in
      let kinds = or_parts (not (may_have_children (kind_at t p.0))) (is_document (kind_at t c.0)) front.0 in
      record {
        holds = kind_same may_have_children p.0 ∙ not-false (may_have_children (kind_at t p.0)) kinds.0;
        no_document = kind_same is_document c.0 ∙ kinds.1;
        not_above = ap (λ n. is_above_within both_out n c.0 p.0) as_long ∙ lower out both_out (only_before out old left_out.trees) (length t) c.0 p.0 (lower t out (only_before t c a) (length t) c.0 p.0 front.1);
        no_text = λ d. kind_same is_text c.0 ∙ (placed whole.1 (sym (kind_same is_document p.0) ∙ d)).0;
        no_other = λ d e. no_other (placed whole.1 (sym (kind_same is_document p.0) ∙ d)).1 (sym (kind_same is_element c.0) ∙ e);
        there = ap (λ o. in_or_end o (children_at both_out p.0)) next_is ∙ ap (in_or_end (first_of (rest_after old.0 (children_at out p.0)))) (left_both.children p.0) ∙ next_stays old.0 (children_at out p.0);
      }
    where
      placed : is_document (kind_at t p.0) && is_misplaced_for t c.0 old.0 ≡ false → is_document (kind_at t p.0) ≡ true
          → (is_text (kind_at t c.0) ≡ false) × (is_element (kind_at t c.0) && has_third_element t c.0 old.0 ≡ false)
      placed h d = or_parts (is_text (kind_at t c.0)) (is_element (kind_at t c.0) && has_third_element t c.0 old.0) (true_and (is_document (kind_at t p.0)) (is_misplaced_for t c.0 old.0) d h)

  pub alone_for : parent_at both_out c.0 ≡ None
  alone_for = left_both.parent c.0 (eq_sym old.0 c.0 ∙ apart) ∙ left_out.alone

  pub ready_for : IsReady both_out p c (next_of out old.0) (length t)
  ready_for = record { fits = fits_for; alone = alone_for; long = as_long }

  -- ---- what it leaves

  pub trees_out : AreTrees both_out
  trees_out = left_both.trees

  pub same_replaced : replaced t p c old ≡ put_under both_out p c (next_of out old.0)
  same_replaced = ap (λ b. cond b t (put_for out p c old)) apart

  pub in_place : p.0 < length t → c.0 < length t → let u = replaced t p c old in
      (parent_at u c.0 ≡ Some p) × (next_of u c.0 ≡ next_of out old.0) × ((q : ℕ) → has c.0 (children_at u q) ≡ nat_eq q p.0) × (parent_at u old.0 ≡ None)
      × ((q : ℕ) → has old.0 (children_at u q) ≡ false)
  in_place p_in c_in =
      let before : Option NodeId = next_of out old.0 in
      let put : Nodes = put_under both_out p c before in
      let p_there : p.0 < length both_out = omega (arith, p_in, as_long) in
      let m : Moved both_out put p c (put_before before c (children_at both_out p.0)) (Some p) =
      moved both_out p c (put_before before c (children_at both_out p.0)) (Some p) p_there (omega (arith, c_in, as_long))
      in
      let trees : AreTrees put = put_trees both_out put p c before m alone_for p_there fits_for.not_above trees_out in
      let not_in : has c.0 (children_at both_out p.0) ≡ false = trees_out.agree p.0 c.0 ∙ ap (is_this p.0) alone_for in
      let old_alone : parent_at put old.0 ≡ None = m.parent_other old.0 apart ∙ left_both.alone in
      subst
      (λ u.
      (parent_at u c.0 ≡ Some p) × (next_of u c.0 ≡ before) × ((q : ℕ) → has c.0 (children_at u q) ≡ nat_eq q p.0) × (parent_at u old.0 ≡ None)
      × ((q : ℕ) → has old.0 (children_at u q) ≡ false))
      (sym same_replaced) (
        m.parent_here,
        ap (next_under put c.0) m.parent_here ∙ ap (λ l. first_of (rest_after c.0 l)) m.children_here ∙ after_put before c (children_at both_out p.0) fits_for.there not_in,
        λ q. trees.agree q c.0 ∙ ap (is_this q) m.parent_here,
        old_alone,
        λ q. trees.agree q old.0 ∙ ap (is_this q) old_alone,
      )
