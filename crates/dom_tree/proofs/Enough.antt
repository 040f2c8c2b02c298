-- More generations than there are nodes change nothing.
use Rattle.std.proofs.Common.{◌≡◌, refl, sym, ap, ◌∙◌, ℕ, zero, suc, ◌+◌, ◌-◌, ◌<◌, ◌≤◌, ◌||◌, Bool, true, false, nat_eq, List, [], ◌∷◌, ◌++◌, append_assoc, subst, Option, Some, None, length, arith}
use Rattle.std.proofs.lemmas.Bool.{eqb-true}
use Rattle.js_values.specs.declared.ids.NodeId.{NodeId}
use Rattle.dom_tree.specs.Change.{is_above_within, of_parent}
use Rattle.dom_tree.specs.Laws.{GenerationsAreEnough}
use Rattle.dom_tree.specs.Node.{AreThere, Nodes, above_within, has, parent_at}
use Rattle.dom_tree.specs.Sound.{AreTrees, Rooted}
use Rattle.dom_tree.proofs.Generations.{Deep, parent_depth, stable}
use Rattle.dom_tree.proofs.Lists.{has_tail}
use Rattle.dom_tree.proofs.Trees.{depth, depth_below}

same_above : (o : Option NodeId) (f g : ℕ → Bool) → ((p : NodeId) → o ≡ Some p → f p.0 ≡ g p.0) → of_parent o f ≡ of_parent o g
same_above None f g same = refl
same_above (Some p) f g same = same p refl

above_stable : (t : Nodes) → AreTrees t → (x n m k : ℕ) (r : Rooted t k) → depth r < n → depth r < m → is_above_within t n x k ≡ is_above_within t m x k
above_stable t a x zero m k r h g = absurd (omega (arith, h))
above_stable t a x (suc n) zero k r h g = absurd (omega (arith, g))
above_stable t a x (suc n) (suc m) k r h g =
    ap (λ b. nat_eq x k || b)
    (same_above (parent_at t k) (λ p. is_above_within t n x p) (λ p. is_above_within t m x p)
    (λ p e.
    let s : Rooted t p.0 = a.rooted p.0 in
    let d : depth r ≡ suc (depth s) = parent_depth t k p e r s in
    above_stable t a x n m p.0 s (omega (arith, h, d)) (omega (arith, g, d))))

-- nothing is above a node that has no parent
pub above_none : (t : Nodes) (n : ℕ) → above_within t n None ≡ []
above_none t zero = refl
above_none t (suc n) = refl

line_stable : (t : Nodes) → AreTrees t → (n m k : ℕ) (r : Rooted t k) → depth r ≤ n → depth r ≤ m → above_within t n (parent_at t k) ≡ above_within t m (parent_at t k)
line_stable t a zero m k r h g = by (parent_at t k) refl
  where
    by : (o : Option NodeId) → parent_at t k ≡ o → above_within t zero o ≡ above_within t m o
    by None e = sym (above_none t m)
    by (Some p) e = let d : depth r ≡ suc (depth (a.rooted p.0)) = parent_depth t k p e r (a.rooted p.0) in absurd (omega (arith, h, d))
line_stable t a (suc n) zero k r h g = by (parent_at t k) refl
  where
    by : (o : Option NodeId) → parent_at t k ≡ o → above_within t (suc n) o ≡ above_within t zero o
    by None e = refl
    by (Some p) e = let d : depth r ≡ suc (depth (a.rooted p.0)) = parent_depth t k p e r (a.rooted p.0) in absurd (omega (arith, g, d))
line_stable t a (suc n) (suc m) k r h g = by (parent_at t k) refl (λ p s. line_stable t a n m p.0 s)
  where
    by : (o : Option NodeId) → parent_at t k ≡ o
        → ((p : NodeId) (s : Rooted t p.0) → depth s ≤ n → depth s ≤ m → above_within t n (parent_at t p.0) ≡ above_within t m (parent_at t p.0)) → above_within t (suc n) o ≡ above_within t (suc m) o
    by None e later = refl
    by (Some p) e later =
        let s : Rooted t p.0 = a.rooted p.0 in
        let d : depth r ≡ suc (depth s) = parent_depth t k p e r s in
        ap (λ l. p ∷ l) (later p s (omega (arith, h, d)) (omega (arith, g, d)))

deep_enough : (t : Nodes) (n : ℕ) (l : List NodeId) → AreThere t l → length t ≤ n → Deep t n l
deep_enough t n l there many = record { there = there; deep = λ c i r. omega (arith, many) }

pub generations_are_enough : GenerationsAreEnough
generations_are_enough t n a many = record {
  trees = λ l there. stable t a n (length t) l (deep_enough t n l there many) (deep_enough t (length t) l there (omega arith));
  is_above = λ x k k_in. let r : Rooted t k = a.rooted k in let low : depth r < length t = depth_below t a k r k_in in above_stable t a x n (length t) k r (omega (arith, low, many)) low;
  above = λ k k_in. let r : Rooted t k.0 = a.rooted k.0 in let low : depth r < length t = depth_below t a k.0 r k_in in line_stable t a n (length t) k.0 r (omega (arith, low, many)) (omega (arith, low));
}

-- ---- the line up, one node after another

pub line_step : (t : Nodes) (n i : ℕ) (xs : List NodeId) (p : NodeId) → i < n → (xs ++ p ∷ []) ++ above_within t (n - (i + 1)) (parent_at t p.0) ≡ xs ++ above_within t (n - i) (Some p)
line_step t n i xs p h =
    let less : n - i ≡ suc (n - (i + 1)) = omega (arith, h) in
    append_assoc xs (p ∷ []) (above_within t (n - (i + 1)) (parent_at t p.0)) ∙ ap (λ m. xs ++ above_within t m (Some p)) (sym less)

pub there_too : (t : Nodes) (l : List NodeId) (p : NodeId) → AreThere t l → p.0 < length t → AreThere t (l ++ p ∷ [])
there_too t [] p there h c i = by (nat_eq c.0 p.0) refl i
  where
    by : (b : Bool) → nat_eq c.0 p.0 ≡ b → b || false ≡ true → c.0 < length t
    by true e j = subst (λ k. k < length t) (sym (eqb-true c.0 p.0 e)) h
    by false e j = cc
there_too t (d ∷ l) p there h c i = by (nat_eq c.0 d.0) refl i (λ j. there_too t l p (λ e k. there e (has_tail e d l k)) h c j)
  where
    by : (b : Bool) → nat_eq c.0 d.0 ≡ b → b || has c.0 (l ++ p ∷ []) ≡ true → (has c.0 (l ++ p ∷ []) ≡ true → c.0 < length t) → c.0 < length t
    by true e j later = there c (ap (λ b. b || has c.0 l) e)
    by false e j later = later j
