-- What the links of a node tell of its neighbours.
use Rattle.std.proofs.Common.{◌≡◌, ◌⊎◌, inl, inr, refl, sym, ap, subst, ◌∙◌, ℕ, ◌<◌, Bool, true, false, cond, nat_eq, List, [], ◌∷◌, Option, Some, None, length, slice_index_or, arith}
use Rattle.std.proofs.lemmas.List.{get_or_default}
use Rattle.std.specs.Option.{ForSome}
use Rattle.js_values.specs.declared.ids.NodeId.{NodeId}
use Rattle.dom_tree.specs.declared.links.Linked.{Linked}
use Rattle.dom_tree.specs.Links.{AreLinked, backward, forward, linked_at, links_at, no_linked, nodes_of, place_of}
use Rattle.dom_tree.specs.Node.{Nodes, children_at, first_of, has, is_this, last_from, last_of, next_of, next_under, node_at, one_before, parent_at, previous_of, previous_under, rest_after}
use Rattle.dom_tree.specs.Sound.{AreTrees}
use Rattle.dom_tree.proofs.Chains.{chain_first, chain_last, chain_next, chain_previous}
use Rattle.dom_tree.proofs.Lists.{has_head, has_tail}
use Rattle.dom_tree.proofs.Trees.{child_in, child_of_parent, parent_in}

pub first_has : (l : List NodeId) (c : NodeId) → first_of l ≡ Some c → has c.0 l ≡ true
first_has [] c e = cc
first_has (d ∷ l) c e =
    let same : d ≡ c = cc in
    subst (λ z. has z.0 (d ∷ l) ≡ true) same (has_head d l)

last_has : (l : List NodeId) (u : Option NodeId) (c : NodeId) → last_from u l ≡ Some c → (u ≡ Some c) ⊎ (has c.0 l ≡ true)
last_has [] u c e = inl e
last_has (d ∷ l) u c e = by (last_has l (Some d) c e)
  where
    by : (Some d ≡ Some c) ⊎ (has c.0 l ≡ true) → (u ≡ Some c) ⊎ (has c.0 (d ∷ l) ≡ true)
    by (inl f) = let same : d ≡ c = cc in inr (subst (λ z. has z.0 (d ∷ l) ≡ true) same (has_head d l))
    by (inr h) = inr (has_tail c d l h)

pub rest_has : (k : ℕ) (l : List NodeId) (c : NodeId) → has c.0 (rest_after k l) ≡ true → has c.0 l ≡ true
rest_has k [] c h = h
rest_has k (d ∷ l) c h = by (nat_eq k d.0) h (rest_has k l c)
  where
    by : (b : Bool) → has c.0 (cond b l (rest_after k l)) ≡ true → (has c.0 (rest_after k l) ≡ true → has c.0 l ≡ true) → has c.0 (d ∷ l) ≡ true
    by true g more = has_tail c d l g
    by false g more = has_tail c d l (more g)

before_has : (k : ℕ) (l : List NodeId) (u : Option NodeId) (c : NodeId) → one_before u k l ≡ Some c → (u ≡ Some c) ⊎ (has c.0 l ≡ true)
before_has k [] u c e = cc
before_has k (d ∷ l) u c e = by (nat_eq k d.0) e (before_has k l (Some d) c)
  where
    by : (b : Bool) → cond b u (one_before (Some d) k l) ≡ Some c → (one_before (Some d) k l ≡ Some c → (Some d ≡ Some c) ⊎ (has c.0 l ≡ true)) → (u ≡ Some c) ⊎ (has c.0 (d ∷ l) ≡ true)
    by true f more = inl f
    by false f more = step (more f)
      where
        step : (Some d ≡ Some c) ⊎ (has c.0 l ≡ true) → (u ≡ Some c) ⊎ (has c.0 (d ∷ l) ≡ true)
        step (inl g) = let same : d ≡ c = cc in inr (subst (λ z. has z.0 (d ∷ l) ≡ true) same (has_head d l))
        step (inr h) = inr (has_tail c d l h)

module _ (t : Nodes) (a : AreTrees t) where
  pub first_there : (k : ℕ) → ForSome (first_of (children_at t k)) (λ c. c.0 < length t)
  first_there k c e = child_in t a k c.0 (first_has (children_at t k) c e)

  pub last_there : (k : ℕ) → ForSome (last_of (children_at t k)) (λ c. c.0 < length t)
  last_there k c e = by (last_has (children_at t k) None c e)
    where
      by : (None ≡ Some c) ⊎ (has c.0 (children_at t k) ≡ true) → c.0 < length t
      by (inl f) = cc
      by (inr h) = child_in t a k c.0 h

  pub parent_there : (k : ℕ) → ForSome (parent_at t k) (λ c. c.0 < length t)
  parent_there k c e = parent_in t a k c e

  pub next_there : (k : ℕ) (o : Option NodeId) → ForSome (next_under t k o) (λ c. c.0 < length t)
  next_there k None c e = cc
  next_there k (Some p) c e = child_in t a p.0 c.0 (rest_has k (children_at t p.0) c (first_has (rest_after k (children_at t p.0)) c e))

  pub previous_there : (k : ℕ) (o : Option NodeId) → ForSome (previous_under t k o) (λ c. c.0 < length t)
  previous_there k None c e = cc
  previous_there k (Some p) c e = by (before_has k (children_at t p.0) None c e)
    where
      by : (None ≡ Some c) ⊎ (has c.0 (children_at t p.0) ≡ true) → c.0 < length t
      by (inl f) = cc
      by (inr h) = child_in t a p.0 c.0 h

module _ (ns : List Linked) (top : Option NodeId) (a : AreLinked ns top) where
  pub first_is : (k : ℕ) → (links_at ns k).first ≡ first_of (children_at (nodes_of ns) k)
  first_is k = chain_first (λ u. forward ns (place_of k u)) (λ u. backward ns (place_of k u)) None (children_at (nodes_of ns) k) (a.shows.rows k)

  pub last_is : (k : ℕ) → (links_at ns k).last ≡ last_of (children_at (nodes_of ns) k)
  last_is k = chain_last (λ u. forward ns (place_of k u)) (λ u. backward ns (place_of k u)) None (children_at (nodes_of ns) k) (a.shows.rows k)

  pub next_is : (k : NodeId) → (links_at ns k.0).next ≡ next_of (nodes_of ns) k.0
  next_is k = by (parent_at (nodes_of ns) k.0) refl
    where
      by : (o : Option NodeId) → parent_at (nodes_of ns) k.0 ≡ o → (links_at ns k.0).next ≡ next_under (nodes_of ns) k.0 o
      by None e = (a.shows.alone k e).0
      by (Some p) e =
          chain_next (λ u. forward ns (place_of p.0 u)) (λ u. backward ns (place_of p.0 u)) None k (children_at (nodes_of ns) p.0) (a.shows.rows p.0) (child_of_parent (nodes_of ns) a.sound.trees k.0 p e)

  pub previous_is : (k : NodeId) → (links_at ns k.0).previous ≡ previous_of (nodes_of ns) k.0
  previous_is k = by (parent_at (nodes_of ns) k.0) refl
    where
      by : (o : Option NodeId) → parent_at (nodes_of ns) k.0 ≡ o → (links_at ns k.0).previous ≡ previous_under (nodes_of ns) k.0 o
      by None e = (a.shows.alone k e).1
      by (Some p) e =
          chain_previous (λ u. forward ns (place_of p.0 u)) (λ u. backward ns (place_of p.0 u)) None k (children_at (nodes_of ns) p.0) (a.shows.rows p.0) (child_of_parent (nodes_of ns) a.sound.trees k.0 p e)

-- what is read of a node through its links
module _ (ns : List Linked) (top : Option NodeId) (t : Nodes) (a : AreLinked ns top) (view : nodes_of ns ≡ t) (k : NodeId) (x : Linked) (k_in : k.0 < length t) (is : x ≡ slice_index_or ns k.0 x) where
  pub in_links : k.0 < length ns
  in_links = omega (arith, k_in, a.shows.long, ap length view)

  at_is : x ≡ linked_at ns k.0
  at_is = is ∙ get_or_default ns k.0 x no_linked in_links

  trees : AreTrees t
  trees = subst AreTrees view a.sound.trees

  pub read_content : x.content ≡ (node_at t k.0).content
  read_content = ap (λ (n : Linked). n.content) at_is ∙ sym (a.shows.content k.0) ∙ ap (λ z. (node_at z k.0).content) view

  pub read_parent : x.links.parent ≡ parent_at t k.0
  read_parent = ap (λ (n : Linked). n.links.parent) at_is ∙ sym (a.shows.parent k.0) ∙ ap (λ z. parent_at z k.0) view

  pub read_first : x.links.first ≡ first_of (children_at t k.0)
  read_first = ap (λ (n : Linked). n.links.first) at_is ∙ first_is ns top a k.0 ∙ ap (λ z. first_of (children_at z k.0)) view

  pub read_last : x.links.last ≡ last_of (children_at t k.0)
  read_last = ap (λ (n : Linked). n.links.last) at_is ∙ last_is ns top a k.0 ∙ ap (λ z. last_of (children_at z k.0)) view

  pub read_next : x.links.next ≡ next_of t k.0
  read_next = ap (λ (n : Linked). n.links.next) at_is ∙ next_is ns top a k ∙ ap (λ z. next_of z k.0) view

  pub read_previous : x.links.previous ≡ previous_of t k.0
  read_previous = ap (λ (n : Linked). n.links.previous) at_is ∙ previous_is ns top a k ∙ ap (λ z. previous_of z k.0) view

  pub parent_in_range : ForSome x.links.parent (λ c. c.0 < length t)
  parent_in_range c e = parent_there t trees k.0 c (sym read_parent ∙ e)

  pub first_in_range : ForSome x.links.first (λ c. c.0 < length t)
  first_in_range c e = first_there t trees k.0 c (sym read_first ∙ e)

  pub last_in_range : ForSome x.links.last (λ c. c.0 < length t)
  last_in_range c e = last_there t trees k.0 c (sym read_last ∙ e)

  pub next_in_range : ForSome x.links.next (λ c. c.0 < length t)
  next_in_range c e = next_there t trees k.0 (parent_at t k.0) c (sym read_next ∙ e)

  pub previous_in_range : ForSome x.links.previous (λ c. c.0 < length t)
  previous_in_range c e = previous_there t trees k.0 (parent_at t k.0) c (sym read_previous ∙ e)

  pub read_among : (p : ℕ) → has k.0 (children_at t p) ≡ is_this p x.links.parent
  read_among p = trees.agree p k.0 ∙ ap (is_this p) (sym read_parent)
