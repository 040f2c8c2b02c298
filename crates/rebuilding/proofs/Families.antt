-- A reached node has its parent and its children among the reached ones.
use Rattle.std.proofs.Common.{◌≡◌, ◌⊎◌, inl, inr, refl, sym, ap, subst, ◌∙◌, ℕ, ◌<◌, ◌≤◌, true, nat_eq, List, [], ◌∷◌, ◌++◌, Some, length, arith}
use Rattle.std.proofs.lemmas.Bool.{and_parts, cases_lt, eq-eqb, eqb-true, ltb-true, or_cases, or_left}
use Rattle.dom_tree.proofs.Callers.{child_in, parent_in}
use Rattle.dom_tree.specs.Node.{Nodes, children_at, has, parent_at}
use Rattle.heap_walker.proofs.Callers.{among_left, among_right, document_among, host_among, links_in_walk, roots_in_walk}
use Rattle.heap_walker.specs.Still.{Still}
use Rattle.heap_walker.specs.Things.{IsWalk, calls_links, heard_at, host_links, is_in, nodes_links, parent_links}
use Rattle.js_values.specs.declared.ids.NodeId.{NodeId}
use Rattle.js_values.specs.declared.ids.ObjId.{ObjId}
use Rattle.object_heap.specs.Chain.{object_at}
use Rattle.object_heap.specs.declared.object.Class.TheVariants as class
use Rattle.page_host.specs.Host.{object_of_node}
use Rattle.page_meaning.specs.Places.{built_in_count, document}
use Rattle.page_meaning.specs.Store.{Store}
use Rattle.page_writer.specs.Frame.{nth_node}
use Rattle.rebuild_plan.proofs.Callers.{all_nodes, built_in_is_no_node, document_class, node_linked}
use Rattle.rebuild_plan.specs.Moved.{first_thing}
use Rattle.rebuilding.specs.Rebuilt.{nth}
use Rattle.rebuilding.proofs.Known.{IsKnown}
use Rattle.rebuilding.proofs.ChildModel.{IsFamily}
use Rattle.rebuilding.proofs.Hearable.{AreKnown, all_known}
use Rattle.rebuilding.proofs.OwnObjects.{node_same}
use Rattle.rebuilding.proofs.Placed.{is_thing_at, number_at, place_in}
use Rattle.rebuilding.proofs.SavedNodes.{first_has, more_has, node_found, node_listed, whole_rest}

module _ (s : Store) (things : List ℕ) (still : Still s) (walk : IsWalk s things) where
  abbrev t : Nodes
  t = s.host.nodes

  abbrev known : List NodeId
  known = nth_node 0 ∷ all_nodes s things

  abbrev object : NodeId → ℕ
  object d = (object_of_node s.host.objects d).0

  root_class : (object_at s.heap.objects document.0).class ≡ class.Node (nth_node 0)
  root_class = document_class s still

  class_of : (d : NodeId) → d.0 < length t → (object_at s.heap.objects (object d)).class ≡ class.Node d
  class_of d low = still.shaped.host.object_of d.0 low

  found : (d : NodeId) → d.0 < length t → (object d < first_thing) ⊎ (is_in (object d) things ≡ true) → has d.0 known ≡ true
  found d low (inr thing) =
      let i = number_at things (object d) thing in
      more_has d.0 (nth_node 0) (all_nodes s things)
      (node_listed s things things 0 i.0 d (whole_rest things) (omega arith) i.2 (ap (λ m. (object_at s.heap.objects m).class) i.3 ∙ class_of d low))
  found d low (inl small) = by (cases_lt (object d) built_in_count)
    where
      by : (object d < built_in_count) ⊎ (built_in_count ≤ object d) → has d.0 known ≡ true
      by (inl h) = absurd (built_in_is_no_node s still (object d) d h (class_of d low))
      by (inr h) =
          let last : object d ≡ document.0 = omega (arith, small, h) in
          let zero_is : d.0 ≡ 0 = node_same (sym (class_of d low) ∙ ap (λ m. (object_at s.heap.objects m).class) last ∙ root_class) in
          subst (λ m. has m known ≡ true) (sym zero_is) (first_has (nth_node 0) (all_nodes s things))

  -- what a reached node refers to is reached or built in
  linked_place : (k : NodeId) → has k.0 known ≡ true → (x : ℕ) → is_in x (host_links s.host (class.Node k)) ≡ true → IsKnown things x
  linked_place k h x i = by (or_cases (nat_eq k.0 0) (has k.0 (all_nodes s things)) h)
    where
      by : (nat_eq k.0 0 ≡ true) ⊎ (has k.0 (all_nodes s things) ≡ true) → IsKnown things x
      by (inl e) =
          let mine : (object_at s.heap.objects document.0).class ≡ class.Node k = root_class ∙ ap (λ m. class.Node (nth_node m)) (sym (eqb-true k.0 0 e)) in
          roots_in_walk s things still walk x (document_among s x (host_among s document.0 x (ap (λ C. is_in x (host_links s.host C)) mine ∙ i)))
      by (inr more) =
          let l = node_found s things things 0 k.0 (whole_rest things) more in
          links_in_walk s things still walk (nth things l.number) (place_in things l.number l.inside) x
          (host_among s (nth things l.number) x (ap (λ C. is_in x (host_links s.host C)) l.class ∙ i))

  linked_known : (k d : NodeId) → has k.0 known ≡ true → d.0 < length t → is_in (object d) (host_links s.host (class.Node k)) ≡ true → has d.0 known ≡ true
  linked_known k d h low i = found d low (linked_place k h (object d) i)

  abbrev up : NodeId → List ℕ
  up k = parent_links s.host.objects (parent_at t k.0)

  abbrev down : NodeId → List ℕ
  down k = nodes_links s.host.objects (children_at t k.0)

  abbrev calls : NodeId → List ℕ
  calls k = calls_links (heard_at k.0 s.host.listeners)

  -- the functions of its listeners, too
  pub heard_known : (k : NodeId) → has k.0 (nth_node 0 ∷ all_nodes s things) ≡ true → AreKnown things (heard_at k.0 s.host.listeners)
  heard_known k h =
      all_known things (heard_at k.0 s.host.listeners)
      (λ x i. linked_place k h x (among_right x (up k) (down k ++ calls k) (among_right x (down k) (calls k) i)))

  pub family : IsFamily s things
  family = record {
    still = still;
    walk = walk;
    root = root_class;
    no_thing = λ n inside is. no_root n inside is;
    children =
        λ k d h i. linked_known k d h (child_in t still.shaped.host.sound.nodes.trees k.0 d.0 i)
        (among_right (object d) (up k) (down k ++ calls k) (among_left (object d) (down k) (calls k) (node_linked s.host.objects d (children_at t k.0) i)));
    parents = λ k p h e. linked_known k p h (parent_in t still.shaped.host.sound.nodes.trees k.0 p e) (among_left (object p) (up k) (down k ++ calls k) (above k p e));
  }
    where
      above : (k p : NodeId) → parent_at t k.0 ≡ Some p → is_in (object p) (up k) ≡ true
      above k p e = ap (λ o. is_in (object p) (parent_links s.host.objects o)) e ∙ or_left (nat_eq (object p) (object p)) (is_in (object p) []) (eq-eqb (object p) (object p) refl)

      no_root : (n : ℕ) → n < length things → (object_at s.heap.objects (nth things n)).class ≡ class.Node (nth_node 0) → ⊥
      no_root n inside is =
          let one = (still.shaped.host.node_of (nth things n) 0 is).1 in
          let other = (still.shaped.host.node_of document.0 0 root_class).1 in
          let same : nth things n ≡ document.0 = ap (λ (o : ObjId). o.0) (sym one ∙ other) in
          let high : built_in_count < nth things n = past n inside in
          omega (arith, same, high)
        where
          past : (n : ℕ) → n < length things → built_in_count < nth things n
          past n inside = ltb-true built_in_count (nth things n) (and_parts _ _ (is_thing_at s things n walk inside)).0
