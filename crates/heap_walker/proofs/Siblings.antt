-- The children of a node, gone over from the first of them to the next.
use Rattle.std.proofs.Common.{◌≡◌, refl, sym, ap, ◌∙◌, ℕ, ◌<◌, Bool, true, false, not, List, [], ◌∷◌, ◌++◌, append_assoc, Option, Some, None, length, nat_eq}
use Rattle.std.proofs.Math.Bool.{or-true}
use Rattle.std.proofs.lemmas.Bool.{and_parts, eq-eqb, eqb-true}
use Rattle.std.proofs.lemmas.List.{append-nil}
use Rattle.dom_tree.proofs.Callers.{child_in, parent_of_child}
use Rattle.dom_tree.specs.Node.{Nodes, children_at, first_of, has, is_distinct, next_of, next_under, rest_after}
use Rattle.dom_tree.specs.Sound.{AreTrees}
use Rattle.js_values.specs.declared.ids.NodeId.{NodeId}

-- these were gone over, and this one is next, if there is one
pub record IsSplit (done : List NodeId) (at : Option NodeId) (all : List NodeId) : Type 0 where
  pub rest : List NodeId
  pub whole : done ++ rest ≡ all
  pub first : at ≡ first_of rest

has_middle : (c : NodeId) (done rest : List NodeId) → has c.0 (done ++ c ∷ rest) ≡ true
has_middle c [] rest = rw (eq-eqb c.0 c.0 refl) refl
has_middle c (d ∷ done) rest = rw (has_middle c done rest) (or-true (nat_eq c.0 d.0))

-- one that is not twice in the list is not before its place
not_before : (c d : NodeId) (done rest : List NodeId) → is_distinct (d ∷ (done ++ c ∷ rest)) ≡ true → nat_eq c.0 d.0 ≡ false
not_before c d done rest distinct = by (nat_eq c.0 d.0) refl
  where
    by : (b : Bool) → nat_eq c.0 d.0 ≡ b → b ≡ false
    by false e = refl
    by true e =
        let same : c.0 ≡ d.0 = eqb-true c.0 d.0 e in
        let apart = (and_parts (not (has d.0 (done ++ c ∷ rest))) (is_distinct (done ++ c ∷ rest)) distinct).0 in
        let there : has d.0 (done ++ c ∷ rest) ≡ true = ap (λ k. has k (done ++ c ∷ rest)) (sym same) ∙ has_middle c done rest in
        let none : not true ≡ true = ap not (sym there) ∙ apart in
        cc none

after_middle : (c : NodeId) (done rest : List NodeId) → is_distinct (done ++ c ∷ rest) ≡ true → rest_after c.0 (done ++ c ∷ rest) ≡ rest
after_middle c [] rest distinct = rw (eq-eqb c.0 c.0 refl) refl
after_middle c (d ∷ done) rest distinct =
    rw (not_before c d done rest distinct)
    (after_middle c done rest (and_parts (not (has d.0 (done ++ c ∷ rest))) (is_distinct (done ++ c ∷ rest)) distinct).1)

-- ---- the steps of a loop

pub split_begins : (all : List NodeId) (at : Option NodeId) → at ≡ first_of all → IsSplit [] at all
split_begins all at e = record { rest = all; whole = refl; first = e }

pub split_ends : (done all : List NodeId) → IsSplit done None all → done ≡ all
split_ends done all split = by split.rest split.first split.whole
  where
    by : (rest : List NodeId) → None ≡ first_of rest → done ++ rest ≡ all → done ≡ all
    by [] e whole = sym (append-nil done) ∙ whole
    by (c ∷ rest) e whole = cc e

module _ (t : Nodes) (trees : AreTrees t) (p : ℕ) (done : List NodeId) (c : NodeId) (split : IsSplit done (Some c) (children_at t p)) where
  -- the one that is next, and those after it
  abbrev After : Type 0
  After = (rest : List NodeId) × (done ++ c ∷ rest ≡ children_at t p)

  after : After
  after = by split.rest split.first split.whole
    where
      by : (rest : List NodeId) → Some c ≡ first_of rest → done ++ rest ≡ children_at t p → After
      by [] e whole = cc e
      by (d ∷ rest) e whole =
          let same : d ≡ c = cc e in
          (rest, ap (λ x. done ++ x ∷ rest) (sym same) ∙ whole)

  among : has c.0 (children_at t p) ≡ true
  among = ap (has c.0) (sym after.1) ∙ has_middle c done after.0

  pub split_there : c.0 < length t
  split_there = child_in t trees p c.0 among

  pub split_goes_on : (next : Option NodeId) → next ≡ next_of t c.0 → IsSplit (done ++ c ∷ []) next (children_at t p)
  split_goes_on next is = record {
    rest = after.0;
    whole = append_assoc done (c ∷ []) after.0 ∙ after.1;
    first =
        is ∙ ap (next_under t c.0) (parent_of_child t trees p c.0 among)
        ∙ ap first_of (ap (rest_after c.0) (sym after.1) ∙ after_middle c done after.0 (ap is_distinct after.1 ∙ trees.distinct p));
  }
