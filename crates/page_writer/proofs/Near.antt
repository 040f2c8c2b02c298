-- The nodes that a saved page names are things, or the document: the names by which it reaches them are short.
use Rattle.std.proofs.Common.{◌≡◌, ◌⊎◌, inl, inr, refl, sym, ap, subst, ◌∙◌, ℕ, ◌<◌, ◌≤◌, Bool, true, false, nat_eq, List, [], ◌∷◌, ◌++◌, length, Option, Some, None, arith}
use Rattle.std.specs.Prelude.{⊤, nat_lt}
use Rattle.std.specs.List.{position}
use Rattle.std.proofs.lemmas.Bool.{and_parts, cases_lt, eq-eqb, eqb-true, ltb-true, or_left}
use Rattle.std.proofs.lemmas.List.Quantifiers.{position-Some}
use Rattle.dom_tree.proofs.Callers.{child_in}
use Rattle.dom_tree.specs.Node.{children_at, has, is_document, kind_at, parent_at}
use Rattle.js_values.specs.declared.ids.NodeId.{NodeId}
use Rattle.js_values.specs.declared.ids.ObjId.{ObjId}
use Rattle.object_heap.specs.Chain.{object_at}
use Rattle.object_heap.specs.declared.object.Class.{Class}
use Rattle.object_heap.specs.declared.object.Class.TheVariants as class
use Rattle.object_heap.specs.declared.object.EventParts.{EventParts}
use Rattle.object_shapes.specs.Hosted.{is_node_if}
use Rattle.object_shapes.specs.Shapes.{HasShape}
use Rattle.page_host.specs.Host.{document_of, object_of_node}
use Rattle.page_meaning.specs.Classes.{class_at, is_node_class}
use Rattle.page_meaning.specs.Places.{built_in_count, document}
use Rattle.page_meaning.specs.Store.{Store}
use Rattle.heap_walker.specs.Still.{Still}
use Rattle.heap_walker.specs.Things.{IsWalk, calls_links, heard_at, host_links, is_in, links, nodes_links, parent_links}
use Rattle.heap_walker.proofs.Callers.{among_left, among_right, document_among, host_among, links_in_walk, roots_in_walk, thing_of}
use Rattle.object_shapes.specs.Links.{proto_links}
use Rattle.rebuild_plan.proofs.Callers.{built_in_is_no_node, node_linked, number_at}
use Rattle.rebuild_plan.specs.Moved.{first_thing, moved, moved_proto}
use Rattle.page_writer.proofs.Costs.{named}
use Rattle.page_writer.proofs.Spelled.{document_at_narrow, thing_at_narrow}

-- a target, if there is one, with a short name
abbrev pub IsNear : Option ObjId → Type 0
IsNear None = ⊤
IsNear (Some at) = named at ≤ 10

-- what is asked of an object of this class: a node is no document, and the target of an event has a short name
abbrev pub IsTargetNear : List ℕ → Class → Type 0
IsTargetNear things (class.Event parts) = IsNear (moved_proto things parts.target)
IsTargetNear things c = ⊤

abbrev pub IsNoDocument : Store → Class → Type 0
IsNoDocument s (class.Node k) = is_document (kind_at s.host.nodes k.0) ≡ false
IsNoDocument s c = ⊤

first_in : (j : ℕ) (ks : List ℕ) → is_in j (j ∷ ks) ≡ true
first_in j ks = or_left (nat_eq j j) (is_in j ks) (eq-eqb j j refl)

module _ (s : Store) (things : List ℕ) (still : Still s) (walk : IsWalk s things) (few : length things ≤ 75000) where
  -- the document, or a thing
  abbrev pub IsSaved : ℕ → Type 0
  IsSaved k = (k ≡ document.0) ⊎ (is_in k things ≡ true)

  abbrev IsKnown : ℕ → Type 0
  IsKnown j = (j < first_thing) ⊎ (is_in j things ≡ true)

  near_node : (j : ℕ) (c : NodeId) → IsKnown j → (object_at s.heap.objects j).class ≡ class.Node c → named (moved things (record { 0 = j })) ≤ 10
  near_node j c known is = by (position (nat_eq j) things) refl known
    where
      last : j < first_thing → (j < built_in_count) ⊎ (built_in_count ≤ j) → j ≡ document.0
      last low (inl built) = absurd (built_in_is_no_node s still j c built is)
      last low (inr after) = omega (arith, low, after)

      by : (o : Option ℕ) → position (nat_eq j) things ≡ o → IsKnown j → named (moved things (record { 0 = j })) ≤ 10
      by (Some i) e w = rw e (thing_at_narrow i (omega (arith, few, (position-Some (nat_eq j) things i 0 e).0)))
      by None e (inl low) =
          let same : j ≡ document.0 = last low (cases_lt j built_in_count) in
          rw e (subst (λ n. named (record { 0 = n }) ≤ 10) (sym same) document_at_narrow)
      by None e (inr found) = cc (sym e ∙ (number_at things j found).1)

  known_link : (k j : ℕ) → IsSaved k → is_in j (links s k) ≡ true → IsKnown j
  known_link k j (inl e) h = roots_in_walk s things still walk j (document_among s j (subst (λ n. is_in j (links s n) ≡ true) e h))
  known_link k j (inr there) h = links_in_walk s things still walk k there j h

  -- so is a child of a node that is saved
  pub near_child : (k : ℕ) (p : NodeId) (c : NodeId) → IsSaved k → (object_at s.heap.objects k).class ≡ class.Node p → has c.0 (children_at s.host.nodes p.0) ≡ true
      → named (moved things (object_of_node s.host.objects c)) ≤ 10
  near_child k p c saved is child =
      let at : ObjId = object_of_node s.host.objects c in
      let up : List ℕ = parent_links s.host.objects (parent_at s.host.nodes p.0) in
      let down : List ℕ = nodes_links s.host.objects (children_at s.host.nodes p.0) in
      let calls : List ℕ = calls_links (heard_at p.0 s.host.listeners) in
      let below : is_in at.0 down ≡ true = node_linked s.host.objects c (children_at s.host.nodes p.0) child in
      let here : is_in at.0 (host_links s.host (class.Node p)) ≡ true = among_right at.0 up (down ++ calls) (among_left at.0 down calls below) in
      let linked : is_in at.0 (links s k) ≡ true = host_among s k at.0 (ap (λ b. is_in at.0 (host_links s.host b)) is ∙ here) in
      near_node at.0 c (known_link k at.0 saved linked) (still.shaped.host.object_of c.0 (child_in s.host.nodes still.shaped.host.sound.nodes.trees p.0 c.0 child))

  shape_of : (k : ℕ) → IsSaved k → HasShape s (object_at s.heap.objects k) (object_at s.heap.objects k).class
  shape_of k (inl e) = subst (λ n. HasShape s (object_at s.heap.objects n) (object_at s.heap.objects n).class) (sym e) still.shaped.document
  shape_of k (inr there) = still.shaped.made k (thing_of s k (walk.sound k there))

  -- and the target of an event that is saved
  near_target : (k : ℕ) (parts : EventParts) → IsSaved k → (object_at s.heap.objects k).class ≡ class.Event parts → HasShape s (object_at s.heap.objects k) (class.Event parts)
      → IsNear (moved_proto things parts.target)
  near_target k parts saved is shape = by parts.target refl shape.2.target
    where
      by : (o : Option ObjId) → parts.target ≡ o → is_node_if s o ≡ true → IsNear (moved_proto things o)
      by None e h = tt
      by (Some at) e h = of (class_at s at) refl h
        where
          linked : is_in at.0 (links s k) ≡ true
          linked = host_among s k at.0 (ap (λ b. is_in at.0 (host_links s.host b)) is ∙ ap (λ o. is_in at.0 (proto_links o)) e ∙ first_in at.0 [])

          of : (b : Class) → class_at s at ≡ b → is_node_class s.host.nodes b ≡ true → named (moved things at) ≤ 10
          of (class.Node c) same g = near_node at.0 c (known_link k at.0 saved linked) same
          of b same g = cc g

  pub target_near : (k : ℕ) → IsSaved k → IsTargetNear things (object_at s.heap.objects k).class
  target_near k saved = by (object_at s.heap.objects k).class refl (shape_of k saved)
    where
      by : (b : Class) → (object_at s.heap.objects k).class ≡ b → HasShape s (object_at s.heap.objects k) b → IsTargetNear things b
      by (class.Event parts) is shape = near_target k parts saved is shape
      by b is shape = tt

  -- a thing is not the document
  pub no_document : (k : ℕ) → is_in k things ≡ true → IsNoDocument s (object_at s.heap.objects k).class
  no_document k there = by (object_at s.heap.objects k).class refl
    where
      younger : document.0 < k
      younger = ltb-true built_in_count k (and_parts (nat_lt built_in_count k) (nat_lt k (length s.heap.objects)) (thing_of s k (walk.sound k there))).0

      by : (b : Class) → (object_at s.heap.objects k).class ≡ b → IsNoDocument s b
      by (class.Node p) is = still.shaped.host.sound.nodes.document p.0 ∙ later (nat_eq p.0 0) refl
        where
          later : (b : Bool) → nat_eq p.0 0 ≡ b → b ≡ false
          later true e =
              let own : object_of_node s.host.objects (record { 0 = p.0 }) ≡ record { 0 = k } = (still.shaped.host.node_of k p.0 is).1 in
              let first : document_of s.host.objects ≡ record { 0 = k } = ap (λ n. object_of_node s.host.objects (record { 0 = n })) (sym (eqb-true p.0 0 e)) ∙ own in
              let same : document.0 ≡ k = ap (λ (o : ObjId). o.0) (sym still.shaped.host.document ∙ first) in
              absurd (omega (arith, younger, same))
          later false e = refl
      by b is = tt
