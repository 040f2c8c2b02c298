-- Walks and lines of ancestors of linked nodes, however many other nodes either page has.
use Rattle.std.proofs.Common.{◌≡◌, refl, sym, ap, subst, ◌∙◌, ℕ, zero, suc, ◌+◌, ◌<◌, ◌||◌, Bool, true, false, nat_eq, List, ◌++◌, length, Option, arith}
use Rattle.std.proofs.lemmas.Bool.{eqb-true}
use Rattle.js_values.specs.declared.ids.NodeId.{NodeId}
use Rattle.dom_tree.proofs.Callers.{generations_are_enough}
use Rattle.dom_tree.specs.Change.{is_above, is_above_within, of_parent}
use Rattle.dom_tree.specs.DomText.{closing, opening, closing_of, dom_texts, is_empty, joined_texts, opening_of, own_text}
use Rattle.dom_tree.specs.Laws.{NoMoreGenerations}
use Rattle.dom_tree.specs.Node.{Node, Nodes, above_within, children_at, has, nodes_above, parent_at}
use Rattle.dom_tree.specs.Sound.{AreTrees}
use Rattle.dom_tree.specs.Trees.{Trees, in_order, no_trees, tree, trees_of, trees_over, trees_within}
use Rattle.heap_relations.specs.Related.{Each, Maybe, each, no_more, none, some}
use Rattle.host_relations.specs.Nodes.{NodeIds, NodeRel, NodesRel}

-- trees of linked nodes
pub data TreesRel (N : ℕ → ℕ → Type 0) : Trees → Trees → Type 0 where
  no_trees_rel : TreesRel N no_trees no_trees
  tree_rel : {k l : NodeId} {m n : Node} {x y v w : Trees} → NodeIds N k l → NodeRel N m n → TreesRel N x y → TreesRel N v w → TreesRel N (tree k m x v) (tree l n y w)

module _ (N : ℕ → ℕ → Type 0) (t u : Nodes) (g : NodesRel N t u) (a : AreTrees t) (b : AreTrees u) where
  trees_rel : (n : ℕ) (cs ds : List NodeId) → Each (NodeIds N) cs ds → TreesRel N (trees_within t n cs) (trees_within u n ds)
  trees_rel zero cs ds h = no_trees_rel
  trees_rel (suc n) cs ds h = over (trees_rel n) cs ds h
    where
      over : ((cs ds : List NodeId) → Each (NodeIds N) cs ds → TreesRel N (trees_within t n cs) (trees_within u n ds)) → (xs ys : List NodeId) → Each (NodeIds N) xs ys → TreesRel N (trees_over t (λ c. trees_within t n (children_at t c.0)) xs) (trees_over u (λ c. trees_within u n (children_at u c.0)) ys)
      over later _ _ no_more = no_trees_rel
      over later _ _ (each {a = x} {b = y} {xs = xs} {ys = ys} k ks) =
          tree_rel k (g.at x.0 y.0 k.linked) (later (children_at t x.0) (children_at u y.0) (g.at x.0 y.0 k.linked).children) (over later xs ys ks)

  there_left : (cs ds : List NodeId) → Each (NodeIds N) cs ds → (c : NodeId) → has c.0 cs ≡ true → c.0 < length t
  there_left _ _ no_more c i = absurd (cc)
  there_left _ _ (each {a = x} {b = y} {xs = xs} {ys = ys} k ks) c i = by (nat_eq c.0 x.0) refl i (there_left xs ys ks c)
    where
      by : (e : Bool) → nat_eq c.0 x.0 ≡ e → (e || has c.0 xs) ≡ true → (has c.0 xs ≡ true → c.0 < length t) → c.0 < length t
      by true e j later = let f = (g.inside x.0 y.0 k.linked).0 in let s : c.0 ≡ x.0 = eqb-true c.0 x.0 e in omega (arith, f, s)
      by false e j later = later j

  there_right : (cs ds : List NodeId) → Each (NodeIds N) cs ds → (d : NodeId) → has d.0 ds ≡ true → d.0 < length u
  there_right _ _ no_more d i = absurd (cc)
  there_right _ _ (each {a = x} {b = y} {xs = xs} {ys = ys} k ks) d i = by (nat_eq d.0 y.0) refl i (there_right xs ys ks d)
    where
      by : (e : Bool) → nat_eq d.0 y.0 ≡ e → (e || has d.0 ys) ≡ true → (has d.0 ys ≡ true → d.0 < length u) → d.0 < length u
      by true e j later = let f = (g.inside x.0 y.0 k.linked).1 in let s : d.0 ≡ y.0 = eqb-true d.0 y.0 e in omega (arith, f, s)
      by false e j later = later j

  -- as many generations as both have nodes
  abbrev both : ℕ
  both = length t + length u

  enough_left : NoMoreGenerations t both
  enough_left = generations_are_enough t both a (omega arith)

  enough_right : NoMoreGenerations u both
  enough_right = generations_are_enough u both b (omega arith)

  pub all_trees : (cs ds : List NodeId) → Each (NodeIds N) cs ds → TreesRel N (trees_of t cs) (trees_of u ds)
  all_trees cs ds h =
      subst (λ x. TreesRel N x (trees_of u ds)) (enough_left.trees cs (there_left cs ds h))
      (subst (λ y. TreesRel N (trees_within t both cs) y) (enough_right.trees ds (there_right cs ds h)) (trees_rel both cs ds h))

  same_above : (n x y k l : ℕ) → N x y → N k l → is_above_within t n x k ≡ is_above_within u n y l
  same_above zero x y k l h i = refl
  same_above (suc n) x y k l h i = rw (g.same x y k l h i) (ap (λ c. nat_eq y l || c) (by (λ q r j. same_above n x y q r h j) (parent_at t k) (parent_at u l) (g.at k l i).parent))
    where
      by : ((q r : ℕ) → N q r → is_above_within t n x q ≡ is_above_within u n y r) → (o p : Option NodeId) → Maybe (NodeIds N) o p → of_parent o (λ z. is_above_within t n x z) ≡ of_parent p (λ z. is_above_within u n y z)
      by later _ _ none = refl
      by later _ _ (some {a = q} {b = r} j) = later q.0 r.0 j.linked

  pub is_above_same : (x y k l : ℕ) → N x y → N k l → is_above t x k ≡ is_above u y l
  is_above_same x y k l h i = let inside = g.inside k l i in sym (enough_left.is_above x k inside.0) ∙ same_above both x y k l h i ∙ enough_right.is_above y l inside.1

  lines : (n : ℕ) (o p : Option NodeId) → Maybe (NodeIds N) o p → Each (NodeIds N) (above_within t n o) (above_within u n p)
  lines zero o p h = no_more
  lines (suc n) _ _ none = no_more
  lines (suc n) _ _ (some {a = x} {b = y} h) = each h (lines n (parent_at t x.0) (parent_at u y.0) (g.at x.0 y.0 h.linked).parent)

  pub above_rel : (k l : NodeId) → N k.0 l.0 → Each (NodeIds N) (nodes_above t k) (nodes_above u l)
  above_rel k l i =
      let inside = g.inside k.0 l.0 i in
      subst (λ x. Each (NodeIds N) x (nodes_above u l)) (enough_left.above k inside.0)
      (subst (λ y. Each (NodeIds N) (above_within t both (parent_at t k.0)) y) (enough_right.above l inside.1) (lines both (parent_at t k.0) (parent_at u l.0) (g.at k.0 l.0 i).parent))

-- ---- texts

module _ (N : ℕ → ℕ → Type 0) where
  appended : (cs ds xs ys : List NodeId) → Each (NodeIds N) cs ds → Each (NodeIds N) xs ys → Each (NodeIds N) (cs ++ xs) (ds ++ ys)
  appended _ _ xs ys no_more k = k
  appended _ _ xs ys (each {a = c} {b = d} {xs = cs} {ys = ds} h hs) k = each h (appended cs ds xs ys hs k)

  pub orders : {x y : Trees} → TreesRel N x y → Each (NodeIds N) (in_order x) (in_order y)
  orders no_trees_rel = no_more
  orders (tree_rel h n x y) = each h (appended _ _ _ _ (orders x) (orders y))

  empties : (cs ds : List NodeId) → Each (NodeIds N) cs ds → is_empty cs ≡ is_empty ds
  empties _ _ no_more = refl
  empties _ _ (each {a = c} {b = d} {xs = cs} {ys = ds} h hs) = refl

  openings : (m n : Node) → NodeRel N m n → opening_of m ≡ opening_of n
  openings m n h = ap (λ c. opening c.kind c.attributes) h.content

  closings : (m n : Node) → NodeRel N m n → closing_of m ≡ closing_of n
  closings m n h = ap (λ c. closing c.kind (is_empty m.children)) h.content ∙ ap (λ e. closing n.content.kind e) (empties m.children n.children h.children)

  pub same_texts : {x y : Trees} → TreesRel N x y → dom_texts x ≡ dom_texts y
  same_texts no_trees_rel = refl
  same_texts (tree_rel {m = m} {n = n} h r x y) = rw (openings m n r, closings m n r, same_texts x, same_texts y) refl

  pub same_joined : {x y : Trees} → TreesRel N x y → joined_texts x ≡ joined_texts y
  same_joined no_trees_rel = refl
  same_joined (tree_rel {m = m} {n = n} h r x y) = rw (ap (λ c. own_text c.kind) r.content, same_joined x, same_joined y) refl
