-- Trees and walks of them, one generation at a time.
use Rattle.std.proofs.Common.{◌≡◌, ◌⊎◌, inl, inr, refl, sym, ap, subst, ◌∙◌, ℕ, zero, suc, ◌+◌, ◌<◌, ◌≤◌, Bool, true, false, cond, nat_eq, List, [], ◌∷◌, ◌++◌, Option, Some, None, length, append_assoc, arith}
use Rattle.std.proofs.lemmas.Bool.{both_ways, eq-eqb, ne_eqb}
use Rattle.js_values.specs.declared.ids.NodeId.{NodeId}
use Rattle.dom_tree.specs.declared.walk.Visit.{Visit}
use Rattle.dom_tree.specs.declared.walk.Visit.TheVariants.{Enter, Leave}
use Rattle.dom_tree.specs.Node.{Nodes, children_at, first_of, has, is_distinct, next_of, next_under, node_at, parent_at, rest_after}
use Rattle.dom_tree.specs.Sound.{AreTrees, Rooted, under}
use Rattle.dom_tree.specs.Trees.{Trees, tree, trees_of, trees_over, trees_within}
use Rattle.dom_tree.specs.Visits.{IsIn, Under, below, itself, visits, visits_after, visits_after_within, visits_from, visits_on}
use Rattle.dom_tree.proofs.Lists.{eq_refl, has_head, has_tail, head_fresh, id_of, tail_distinct}
use Rattle.dom_tree.proofs.Trees.{child_in, child_of_parent, depth, depth_below, parent_in, parent_of_child, same_depth}

trees_same : (t : Nodes) (f g : NodeId → Trees) (l : List NodeId) → ((c : NodeId) → has c.0 l ≡ true → f c ≡ g c) → trees_over t f l ≡ trees_over t g l
trees_same t f g [] same = refl
trees_same t f g (c ∷ l) same =
    ap (λ z. tree c (node_at t c.0) z (trees_over t f l)) (same c (has_head c l)) ∙ ap (λ z. tree c (node_at t c.0) (g c) z) (trees_same t f g l (λ d i. same d (has_tail d c l i)))

-- so many generations are enough for the nodes of the list
pub record Deep (t : Nodes) (n : ℕ) (l : List NodeId) : Type 0 where
  pub there : (c : NodeId) → has c.0 l ≡ true → c.0 < length t
  pub deep : (c : NodeId) → has c.0 l ≡ true → (r : Rooted t c.0) → length t ≤ n + depth r

child_depth : (t : Nodes) → AreTrees t → (p c : ℕ) → has c (children_at t p) ≡ true → (r : Rooted t p) (s : Rooted t c) → depth s ≡ suc (depth r)
child_depth t a p c i r s = same_depth s (under {p = id_of p} (parent_of_child t a p c i) r) refl

deep_kids : (t : Nodes) → AreTrees t → (n : ℕ) (p : ℕ) (r : Rooted t p) → length t ≤ suc n + depth r → Deep t n (children_at t p)
deep_kids t a n p r h = record {
  there = λ c i. child_in t a p c.0 i;
  deep = λ c i s. let e : depth s ≡ suc (depth r) = child_depth t a p c.0 i r s in omega (arith, h, e);
}

not_deep : (t : Nodes) → AreTrees t → (c : NodeId) (l : List NodeId) → Deep t 0 (c ∷ l) → ⊥
not_deep t a c l d =
    let r : Rooted t c.0 = a.rooted c.0 in
    let low : depth r < length t = depth_below t a c.0 r (d.there c (has_head c l)) in
    let high : length t ≤ 0 + depth r = d.deep c (has_head c l) r in
    omega (arith, low, high)

pub stable : (t : Nodes) → AreTrees t → (n m : ℕ) (l : List NodeId) → Deep t n l → Deep t m l → trees_within t n l ≡ trees_within t m l
stable t a zero zero l d e = refl
stable t a zero (suc m) [] d e = refl
stable t a zero (suc m) (c ∷ l) d e = absurd (not_deep t a c l d)
stable t a (suc n) zero [] d e = refl
stable t a (suc n) zero (c ∷ l) d e = absurd (not_deep t a c l e)
stable t a (suc n) (suc m) l d e =
    trees_same t (λ c. trees_within t n (children_at t c.0)) (λ c. trees_within t m (children_at t c.0)) l
    (λ c i.
    let r : Rooted t c.0 = a.rooted c.0 in
    stable t a n m (children_at t c.0) (deep_kids t a n c.0 r (d.deep c i r)) (deep_kids t a m c.0 r (e.deep c i r)))

-- the trees under nodes are those of their children
pub trees_are : (t : Nodes) → AreTrees t → 0 < length t → (l : List NodeId) → trees_of t l ≡ trees_over t (λ c. trees_of t (children_at t c.0)) l
trees_are t a some l = go (length t) refl
  where
    go : (n : ℕ) → length t ≡ n → trees_within t n l ≡ trees_over t (λ c. trees_within t n (children_at t c.0)) l
    go zero e = absurd (omega (arith, some, e))
    go (suc n) e =
        trees_same t (λ c. trees_within t n (children_at t c.0)) (λ c. trees_within t (suc n) (children_at t c.0)) l
        (λ c i.
        let r : Rooted t c.0 = a.rooted c.0 in
        stable t a n (suc n) (children_at t c.0) (deep_kids t a n c.0 r (omega (arith, e))) (deep_kids t a (suc n) c.0 r (omega (arith, e))))

from_same : (t : Nodes) (k : ℕ) (f g : ℕ → List Visit) (o : Option NodeId) → ((p : NodeId) → o ≡ Some p → f p.0 ≡ g p.0) → visits_from t k f o ≡ visits_from t k g o
from_same t k f g None same = refl
from_same t k f g (Some p) same = ap (λ z. visits (trees_of t (rest_after k (children_at t p.0))) ++ Leave p ∷ z) (same p refl)

pub parent_depth : (t : Nodes) → (k : ℕ) (p : NodeId) → parent_at t k ≡ Some p → (r : Rooted t k) (s : Rooted t p.0) → depth r ≡ suc (depth s)
parent_depth t k p e r s = same_depth r (under e s) refl

after_stable : (t : Nodes) → AreTrees t → (top n m k : ℕ) (r : Rooted t k) → depth r < n → depth r < m → visits_after_within t top n k ≡ visits_after_within t top m k
after_stable t a top zero m k r h g = absurd (omega (arith, h))
after_stable t a top (suc n) zero k r h g = absurd (omega (arith, g))
after_stable t a top (suc n) (suc m) k r h g =
    ap (cond (nat_eq k top) [])
    (from_same t k (visits_after_within t top n) (visits_after_within t top m) (parent_at t k)
    (λ p e.
    let s : Rooted t p.0 = a.rooted p.0 in
    let d : depth r ≡ suc (depth s) = parent_depth t k p e r s in
    after_stable t a top n m p.0 s (omega (arith, h, d)) (omega (arith, g, d))))

-- what is visited after a node was left: nothing after the root, and else what comes after it, and then its parent is left
pub after_is : (t : Nodes) → AreTrees t → (top k : ℕ) → k < length t → visits_after t top k ≡ cond (nat_eq k top) [] (visits_from t k (visits_after t top) (parent_at t k))
after_is t a top k k_in = go (length t) refl
  where
    go : (n : ℕ) → length t ≡ n → visits_after_within t top n k ≡ cond (nat_eq k top) [] (visits_from t k (visits_after_within t top n) (parent_at t k))
    go zero e = absurd (omega (arith, k_in, e))
    go (suc n) e =
        ap (cond (nat_eq k top) [])
        (from_same t k (visits_after_within t top n) (visits_after_within t top (suc n)) (parent_at t k)
        (λ p f.
        let r : Rooted t k = a.rooted k in
        let s : Rooted t p.0 = a.rooted p.0 in
        let d : depth r ≡ suc (depth s) = parent_depth t k p f r s in
        let low : depth r < length t = depth_below t a k r k_in in
        after_stable t a top n (suc n) p.0 s (omega (arith, low, d, e)) (omega (arith, low, d, e))))

-- a node under the root is no higher
under_depth : (t : Nodes) → AreTrees t → (top k : ℕ) → Under t top k → (r : Rooted t top) (s : Rooted t k) → depth r ≤ depth s
under_depth t a top k (itself e) r s = let same : depth s ≡ depth r = same_depth s r e in omega (arith, same)
under_depth t a top k (below {p = p} e u) r s =
    let q : Rooted t p.0 = a.rooted p.0 in
    let more : depth r ≤ depth q = under_depth t a top p.0 u r q in
    let d : depth s ≡ suc (depth q) = parent_depth t k p e s q in
    omega (arith, more, d)

child_not_root : (t : Nodes) → AreTrees t → (top k : ℕ) → Under t top k → (c : ℕ) → has c (children_at t k) ≡ true → nat_eq c top ≡ false
child_not_root t a top k u c i =
    ne_eqb c top
    (λ e.
    let r : Rooted t top = a.rooted top in
    let s : Rooted t k = a.rooted k in
    let q : Rooted t c = a.rooted c in
    let low : depth r ≤ depth s = under_depth t a top k u r s in
    let d : depth q ≡ suc (depth s) = child_depth t a k c i s q in
    let same : depth q ≡ depth r = same_depth q r e in
    omega (arith, low, d, same))

-- what comes after a node in a list is in the list
pub rest_in : (k : ℕ) (l : List NodeId) (s : NodeId) (m : List NodeId) → rest_after k l ≡ s ∷ m → has s.0 l ≡ true
rest_in k [] s m e = cc
rest_in k (y ∷ l) s m e = at (nat_eq k y.0) e (rest_in k l s m)
  where
    at : (b : Bool) → cond b l (rest_after k l) ≡ s ∷ m → (rest_after k l ≡ s ∷ m → has s.0 l ≡ true) → has s.0 (y ∷ l) ≡ true
    at true g more = has_tail s y l (ap (has s.0) g ∙ has_head s m)
    at false g more = has_tail s y l (more g)

-- what comes after the one that comes after a node
pub rest_rest : (k : ℕ) (l : List NodeId) (s : NodeId) (m : List NodeId) → is_distinct l ≡ true → rest_after k l ≡ s ∷ m → rest_after s.0 l ≡ m
rest_rest k [] s m d e = cc
rest_rest k (c ∷ l) s m d e = by (nat_eq k c.0) e (rest_rest k l s m (tail_distinct c l d))
  where
    skip : has s.0 l ≡ true → cond (nat_eq s.0 c.0) l (rest_after s.0 l) ≡ rest_after s.0 l
    skip i =
        let ne : nat_eq s.0 c.0 ≡ false = ne_eqb s.0 c.0 (λ f. absurd (both_ways (has c.0 l) (head_fresh c l d) (ap (λ z. has z l) (sym f) ∙ i))) in
        ap (λ b. cond b l (rest_after s.0 l)) ne

    by : (b : Bool) → cond b l (rest_after k l) ≡ s ∷ m → (rest_after k l ≡ s ∷ m → rest_after s.0 l ≡ m) → cond (nat_eq s.0 c.0) l (rest_after s.0 l) ≡ m
    by true f more = skip (ap (has s.0) f ∙ has_head s m) ∙ ap (rest_after s.0) f ∙ ap (λ b. cond b m (rest_after s.0 m)) (eq_refl s.0)
    by false f more = skip (rest_in k l s m f) ∙ more f

module _ (t : Nodes) (a : AreTrees t) (some : 0 < length t) (top : ℕ) where
  -- the visits of a row of children from one on, and then on from the parent
  row_is : (p : ℕ) (c : NodeId) (m : List NodeId) → Under t top p → has c.0 (children_at t p) ≡ true → rest_after c.0 (children_at t p) ≡ m
      → visits (trees_of t (c ∷ m)) ++ Leave (id_of p) ∷ visits_after t top p ≡ visits_on t top (Some (Enter c))
  row_is p c m u i e =
      let on : List Visit = Leave (id_of p) ∷ visits_after t top p in
      let kids : List Visit = visits (trees_of t (children_at t c.0)) in
      let after : visits_after t top c.0 ≡ visits (trees_of t m) ++ on =
      after_is t a top c.0 (child_in t a p c.0 i)
      ∙ ap (λ b. cond b [] (visits_from t c.0 (visits_after t top) (parent_at t c.0))) (child_not_root t a top p u c.0 i)
      ∙ ap (visits_from t c.0 (visits_after t top)) (parent_of_child t a p c.0 i)
      ∙ ap (λ z. visits (trees_of t z) ++ on) e
      in
      let rest : trees_over t (λ d. trees_of t (children_at t d.0)) m ≡ trees_of t m = sym (trees_are t a some m) in
      ap (λ z. visits z ++ on) (trees_are t a some (c ∷ m) ∙ ap (λ z. tree c (node_at t c.0) (trees_of t (children_at t c.0)) z) rest)
      ∙ ap (λ z. Enter c ∷ z) (append_assoc kids (Leave c ∷ visits (trees_of t m)) on ∙ ap (λ z. kids ++ Leave c ∷ z) (sym after))

  no_row : (on : List Visit) → visits (trees_of t []) ++ on ≡ on
  no_row on = ap (λ z. visits z ++ on) (trees_are t a some [])

  -- after a node is entered comes its first child, or else it is left
  abbrev pub entering : NodeId → Option NodeId → Option Visit
  entering k None = Some (Leave k)
  entering k (Some c) = Some (Enter c)

  pub enter_step : (k : NodeId) → Under t top k.0 → visits_on t top (Some (Enter k)) ≡ Enter k ∷ visits_on t top (entering k (first_of (children_at t k.0)))
  enter_step k u = ap (λ z. Enter k ∷ z) (by (children_at t k.0) refl)
    where
      by : (l : List NodeId) → children_at t k.0 ≡ l → visits (trees_of t (children_at t k.0)) ++ Leave k ∷ visits_after t top k.0 ≡ visits_on t top (entering k (first_of l))
      by [] e = ap (λ z. visits (trees_of t z) ++ Leave k ∷ visits_after t top k.0) e ∙ no_row (Leave k ∷ visits_after t top k.0)
      by (c ∷ m) e =
          let i : has c.0 (children_at t k.0) ≡ true = ap (has c.0) e ∙ has_head c m in
          let here : rest_after c.0 (children_at t k.0) ≡ m = ap (rest_after c.0) e ∙ ap (λ b. cond b m (rest_after c.0 m)) (eq_refl c.0) in
          ap (λ z. visits (trees_of t z) ++ Leave k ∷ visits_after t top k.0) e ∙ row_is k.0 c m u i here

  -- after a node is left, which is not the root, comes the next one, or else its parent is left
  abbrev pub leaving : NodeId → Option NodeId → Option Visit
  leaving p None = Some (Leave p)
  leaving p (Some s) = Some (Enter s)

  pub leave_step : (k p : NodeId) → Under t top p.0 → nat_eq k.0 top ≡ false → has k.0 (children_at t p.0) ≡ true
      → visits_after t top k.0 ≡ visits_on t top (leaving p (first_of (rest_after k.0 (children_at t p.0))))
  leave_step k p u ne i =
      after_is t a top k.0 (child_in t a p.0 k.0 i)
      ∙ ap (λ b. cond b [] (visits_from t k.0 (visits_after t top) (parent_at t k.0))) ne
      ∙ ap (visits_from t k.0 (visits_after t top)) (parent_of_child t a p.0 k.0 i)
      ∙ by (rest_after k.0 (children_at t p.0)) refl
    where
      by : (l : List NodeId) → rest_after k.0 (children_at t p.0) ≡ l → visits (trees_of t (rest_after k.0 (children_at t p.0))) ++ Leave p ∷ visits_after t top p.0 ≡ visits_on t top (leaving p (first_of l))
      by [] e = ap (λ z. visits (trees_of t z) ++ Leave p ∷ visits_after t top p.0) e ∙ no_row (Leave p ∷ visits_after t top p.0)
      by (s ∷ m) e =
          ap (λ z. visits (trees_of t z) ++ Leave p ∷ visits_after t top p.0) e
          ∙ row_is p.0 s m u (rest_in k.0 (children_at t p.0) s m e) (rest_rest k.0 (children_at t p.0) s m (a.distinct p.0) e)

  -- nothing is left of the walk after its root
  pub root_step : (k : ℕ) → k < length t → nat_eq k top ≡ true → visits_after t top k ≡ []
  root_step k k_in e = after_is t a top k k_in ∙ ap (λ b. cond b [] (visits_from t k (visits_after t top) (parent_at t k))) e

  -- a node under the root that is not the root has a parent that is so
  up_of : (k : ℕ) → Under t top k → (k ≡ top → ⊥) → (p : NodeId) × (parent_at t k ≡ Some p) × Under t top p.0
  up_of k (itself e) ne = absurd (ne e)
  up_of k (below {p = p} e u) ne = (p, e, u)

  next_is : (k s p : NodeId) → next_of t k.0 ≡ Some s → parent_at t k.0 ≡ Some p → first_of (rest_after k.0 (children_at t p.0)) ≡ Some s
  next_is k s p e f = ap (next_under t k.0) (sym f) ∙ e

  child : (k p : NodeId) → parent_at t k.0 ≡ Some p → has k.0 (children_at t p.0) ≡ true
  child k p f = child_of_parent t a k.0 p f

  pub next_visits : (k s : NodeId) → Under t top k.0 → (k.0 ≡ top → ⊥) → next_of t k.0 ≡ Some s → visits_on t top (Some (Enter s)) ≡ visits_after t top k.0
  next_visits k s u ne e =
      let w = up_of k.0 u ne in
      sym (leave_step k w.0 w.2 (ne_eqb k.0 top ne) (child k w.0 w.1) ∙ ap (λ o. visits_on t top (leaving w.0 o)) (next_is k s w.0 e w.1))

  pub next_inside : (k s : NodeId) → Under t top k.0 → (k.0 ≡ top → ⊥) → next_of t k.0 ≡ Some s → IsIn t top (Enter s)
  next_inside k s u ne e =
      let w = up_of k.0 u ne in
      let i : has s.0 (children_at t w.0.0) ≡ true = first_in k.0 (children_at t w.0.0) s (next_is k s w.0 e w.1) in
      record { there = child_in t a w.0.0 s.0 i; under = below (parent_of_child t a w.0.0 s.0 i) w.2 }
    where
      first_in : (j : ℕ) (l : List NodeId) (c : NodeId) → first_of (rest_after j l) ≡ Some c → has c.0 l ≡ true
      first_in j l c f = by (rest_after j l) refl f
        where
          by : (m : List NodeId) → rest_after j l ≡ m → first_of m ≡ Some c → has c.0 l ≡ true
          by [] g h = cc
          by (d ∷ m) g h = let same : d ≡ c = cc in rest_in j l c m (g ∙ ap (λ z. z ∷ m) same)

  pub up_visits : (k p : NodeId) → Under t top k.0 → (k.0 ≡ top → ⊥) → next_of t k.0 ≡ None → parent_at t k.0 ≡ Some p → visits_on t top (Some (Leave p)) ≡ visits_after t top k.0
  up_visits k p u ne e f =
      let w = up_of k.0 u ne in
      let both : Some w.0 ≡ Some p = sym w.1 ∙ f in
      let same : w.0 ≡ p = cc in
      sym (leave_step k p (subst (λ z. Under t top z.0) same w.2) (ne_eqb k.0 top ne) (child k p f) ∙ ap (λ o. visits_on t top (leaving p o)) (ap (next_under t k.0) (sym f) ∙ e))

  pub up_inside : (k p : NodeId) → Under t top k.0 → (k.0 ≡ top → ⊥) → parent_at t k.0 ≡ Some p → IsIn t top (Leave p)
  up_inside k p u ne f =
      let w = up_of k.0 u ne in
      let both : Some w.0 ≡ Some p = sym w.1 ∙ f in
      let same : w.0 ≡ p = cc in
      record { there = parent_in t a k.0 p f; under = subst (λ z. Under t top z.0) same w.2 }

  pub end_visits : (k : ℕ) → k < length t → (k ≡ top) ⊎ (parent_at t k ≡ None) → [] ≡ visits_after t top k
  end_visits k k_in (inl e) = sym (root_step k k_in (eq-eqb k top e))
  end_visits k k_in (inr f) = sym (after_is t a top k k_in ∙ ap (λ o. cond (nat_eq k top) [] (visits_from t k (visits_after t top) o)) f ∙ none (nat_eq k top))
    where
      none : (b : Bool) → ◌≡◌ {A = List Visit} (cond b [] []) []
      none true = refl
      none false = refl

  pub child_inside : (k c : NodeId) → Under t top k.0 → first_of (children_at t k.0) ≡ Some c → IsIn t top (Enter c)
  child_inside k c u e =
      let i : has c.0 (children_at t k.0) ≡ true = by (children_at t k.0) e in
      record { there = child_in t a k.0 c.0 i; under = below (parent_of_child t a k.0 c.0 i) u }
    where
      by : (l : List NodeId) → first_of l ≡ Some c → has c.0 l ≡ true
      by [] f = cc
      by (d ∷ l) f = let same : d ≡ c = cc in subst (λ z. has z.0 (d ∷ l) ≡ true) same (has_head d l)
