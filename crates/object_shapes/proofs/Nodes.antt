-- A node that is made keeps the shapes of a page, with its object.
use Rattle.std.proofs.Common.{◌≡◌, ◌⊎◌, inl, inr, refl, sym, ap, subst, ◌∙◌, ℕ, suc, ◌<◌, ◌≤◌, Bool, true, false, ◌&&◌, nat_lt, List, [], ◌∷◌, ◌++◌, None, length, length-append, if◌then◌else◌, arith}
use Rattle.std.proofs.Math.ListN.{get_or-append}
use Rattle.std.proofs.Math.Seq.{get_or-append_seam}
use Rattle.std.proofs.lemmas.Bool.{cases_eq, cases_lt, lt-ltb}
use Rattle.js_values.specs.declared.ids.NodeId.{NodeId}
use Rattle.js_values.specs.declared.ids.ObjId.{ObjId}
use Rattle.dom_tree.specs.declared.content.Kind.{Kind}
use Rattle.dom_tree.specs.Content.{new_content}
use Rattle.dom_tree.specs.Node.{Node, Nodes, kind_at, no_node, with_new}
use Rattle.dom_tree.specs.Sound as nodes
use Rattle.object_heap.proofs.Callers.{object_last}
use Rattle.object_heap.specs.Chain.{object_at}
use Rattle.object_heap.specs.Heap.{made, with_new_object}
use Rattle.object_heap.specs.Object.{Object}
use Rattle.object_heap.specs.declared.object.Class.TheVariants as class
use Rattle.page_host.proofs.Callers.{new_nodes_stay}
use Rattle.page_host.specs.declared.host_name.HostName.{HostName}
use Rattle.page_host.specs.Host.{Host, no_object, object_of_node, with_node}
use Rattle.page_host.specs.HostNames.{has_at_node, node_has}
use Rattle.page_host.specs.Sound as host
use Rattle.page_host.specs.Steps.{may_be_made, with_new_node}
use Rattle.page_meaning.specs.Classes.{class_at}
use Rattle.page_meaning.specs.Places.{at_place, node_prototype_place}
use Rattle.page_meaning.specs.Steps.{node_object, with_node_object}
use Rattle.page_meaning.specs.Store.{Store, with_both, with_host}
use Rattle.object_shapes.specs.Hosted.{IsHosted, has_no_kept}
use Rattle.object_shapes.specs.Links.{all_below, object_links}
use Rattle.object_shapes.specs.Shapes.{IsShaped}
use Rattle.object_shapes.proofs.Free.{kept_same, same_free}
use Rattle.object_shapes.proofs.Held.{SameKinds, held_of}
use Rattle.object_shapes.proofs.Made.{both_shaped, made_older, node_place, one_below}
use Rattle.object_shapes.proofs.Steps.{grown_kinds, pushed_before}

-- there is a document
pub some_node : (t : Nodes) → nodes.IsSound t → 0 < length t
some_node [] h = absurd (cc (h.document 0))
some_node (n ∷ t) h = omega arith

abbrev alone : Kind → Node
alone k = record { content = new_content k; parent = None; children = [] }

abbrev place : Store → ObjId
place s = at_place (length s.heap.objects)

-- its host, and the page with its object
abbrev grown : Store → Kind → Host
grown s k = with_node s.host (with_new s.host.nodes (new_content k)) (place s)

abbrev after : Store → Kind → Store
after s k = with_both s (with_new_object s.heap (node_object s)) (grown s k)

one_more : (t : Nodes) (k : Kind) → length (with_new t (new_content k)) ≡ suc (length t)
one_more t k = omega (arith, length-append t (alone k ∷ []))

-- older nodes stay
kind_before : (t : Nodes) (k : Kind) (j : ℕ) → j < length t → kind_at (with_new t (new_content k)) j ≡ kind_at t j
kind_before t k j there = ap (λ (n : Node). n.content.kind) (get_or-append t (alone k ∷ []) no_node j there)

names_before : (t : Nodes) (k : Kind) (j : NodeId) (n : HostName) → j.0 < length t → has_at_node (with_new t (new_content k)) j n ≡ has_at_node t j n
names_before t k j n there =
    let old : nat_lt j.0 (length t) ≡ true = lt-ltb j.0 (length t) there in
    let new : nat_lt j.0 (length (with_new t (new_content k))) ≡ true =
    lt-ltb j.0 (length (with_new t (new_content k))) (let e = one_more t k in omega (arith, e, there)) in
    (λ i. (new ∙ sym old) i && node_has (kind_before t k j.0 there i) n)

-- so do their objects
ids_before : (os : List ObjId) (at : ObjId) (j : NodeId) → j.0 < length os → object_of_node (os ++ at ∷ []) j ≡ object_of_node os j
ids_before os at j there = get_or-append os (at ∷ []) no_object j.0 there

id_last : (os : List ObjId) (at : ObjId) (n : ℕ) → n ≡ length os → object_of_node (os ++ at ∷ []) (record { 0 = n }) ≡ at
id_last os at n e = ap (λ m. object_of_node (os ++ at ∷ []) (record { 0 = m })) e ∙ get_or-append_seam os at [] no_object

pub same_node : (m n : ℕ) → class.Node (record { 0 = m }) ≡ class.Node (record { 0 = n }) → m ≡ n
same_node m n e =
    let r : NodeId = record { 0 = m } in
    let q : NodeId = record { 0 = n } in
    let same : r ≡ q = cc e in
    ap (λ (k : NodeId). k.0) same

module _ (s : Store) (shaped : IsShaped s) (k : Kind) where
  places : length s.host.objects ≡ length s.host.nodes
  places = shaped.host.sound.objects

  links : all_below (length s.heap.objects) (object_links (node_object s)) ≡ true
  links = one_below (length s.heap.objects) node_prototype_place (let a = node_place in let b = shaped.all_there in omega (arith, a, b))

  longer : length s.host.nodes ≤ length (grown s k).nodes
  longer = let e = one_more s.host.nodes k in omega (arith, e)

  free : (j : ℕ) → has_no_kept s (object_at s.heap.objects j) ≡ true → has_no_kept (with_host s (grown s k)) (object_at s.heap.objects j) ≡ true
  free j = same_free s.host.nodes (grown s k).nodes (object_at s.heap.objects j).class (object_at s.heap.objects j).class
      (kept_same s.host.nodes (grown s k).nodes (object_at s.heap.objects j).class
      (λ i e n. names_before s.host.nodes k i n (shaped.host.node_of j i.0 e).0)) (object_at s.heap.objects j).props

  kinds : SameKinds s (after s k)
  kinds = grown_kinds (length s.heap.objects) s (held_of s shaped) (node_object s) (grown s k) links
      (made_older (length s.heap.objects) (node_object s) links) longer free

  object_is : (j : ℕ) → j < length (grown s k).nodes → class_at (after s k) (object_of_node (grown s k).objects (record { 0 = j })) ≡ class.Node (record { 0 = j })
  object_is j there = by_case (cases_lt j (length s.host.nodes))
    where
      by_case : (j < length s.host.nodes) ⊎ (length s.host.nodes ≤ j)
          → class_at (after s k) (object_of_node (grown s k).objects (record { 0 = j })) ≡ class.Node (record { 0 = j })
      by_case (inl old) =
          ap (class_at (after s k)) (ids_before s.host.objects (place s) (record { 0 = j }) (let e = places in omega (arith, e, old)))
          ∙ kinds.nodes _ _ (shaped.host.object_of j old)
      by_case (inr young) =
          let e : j ≡ length s.host.nodes = (let m = one_more s.host.nodes k in omega (arith, m, there, young)) in
          ap (class_at (after s k)) (id_last s.host.objects (place s) j (e ∙ sym places))
          ∙ ap (λ (o : Object). o.class) (object_last s.heap.objects (node_object s)) ∙ ap (λ n. class.Node (record { 0 = n })) (sym e)

  node_is : (i j : ℕ) → class_at (after s k) (record { 0 = i }) ≡ class.Node (record { 0 = j })
      → (j < length (grown s k).nodes) × (object_of_node (grown s k).objects (record { 0 = j }) ≡ record { 0 = i })
  node_is i j e = by_case (cases_eq i (length s.heap.objects))
    where
      by_case : (i ≡ length s.heap.objects) ⊎ (i ≡ length s.heap.objects → ⊥)
          → (j < length (grown s k).nodes) × (object_of_node (grown s k).objects (record { 0 = j }) ≡ record { 0 = i })
      by_case (inl here) =
          let is : class.Node (record { 0 = length s.host.nodes }) ≡ class.Node (record { 0 = j }) =
          sym (ap (λ n. class_at (after s k) (record { 0 = n })) here ∙ ap (λ (o : Object). o.class) (object_last s.heap.objects (node_object s))) ∙ e in
          let same = same_node (length s.host.nodes) j is in
          let m = one_more s.host.nodes k in
          (omega (arith, m, same), id_last s.host.objects (place s) j (sym same ∙ sym places) ∙ ap at_place (sym here))
      by_case (inr other) =
          let was : class_at s (record { 0 = i }) ≡ class.Node (record { 0 = j }) =
          sym (ap (λ (o : Object). o.class) (pushed_before s.heap.objects (node_object s) i other)) ∙ e in
          let old = shaped.host.node_of i j was in
          let less = old.0 in
          let m = longer in
          (omega (arith, less, m), ids_before s.host.objects (place s) (record { 0 = j }) (let p = places in omega (arith, p, less)) ∙ old.1)

  hosted : may_be_made k ≡ true → IsHosted (after s k)
  hosted may = record {
    sound = subst (λ b. host.IsSound (if b then grown s k else s.host)) may (new_nodes_stay s.host k (place s) shaped.host.sound);
    object_of = object_is;
    node_of = node_is;
    document = ids_before s.host.objects (place s) (record { 0 = 0 })
        (let p = places in let some = some_node s.host.nodes shaped.host.sound.nodes in omega (arith, p, some)) ∙ shaped.host.document;
    heard = λ i d there. (kinds.functions _ (shaped.host.heard i d there)).1;
    calls = λ u i. (kinds.functions u.call (shaped.host.calls u i)).1;
  }

  made_with_node : may_be_made k ≡ true → IsShaped (with_both s (made s.heap (node_object s)) (grown s k))
  made_with_node may = both_shaped s (node_object s) (grown s k) shaped links longer free (refl, refl) refl (hosted may)

  pub node_shaped : IsShaped (with_both s (with_node_object s k) (with_new_node s.host k (place s)))
  node_shaped = by_case (may_be_made k) refl
    where
      by_case : (b : Bool) → may_be_made k ≡ b
          → IsShaped (with_both s (if b then made s.heap (node_object s) else s.heap) (if b then grown s k else s.host))
      by_case true may = made_with_node may
      by_case false may = shaped
