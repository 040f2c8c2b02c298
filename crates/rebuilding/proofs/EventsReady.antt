-- Events as their makers leave them can be initialised and dispatched as they were.
use Rattle.std.proofs.Common.{◌≡◌, ◌⊎◌, inl, inr, refl, sym, ap, subst, ◌∙◌, ℕ, ◌<◌, ◌≤◌, Bool, true, false, nat_eq, List, [], Option, Some, None, length, codes, arith}
use Rattle.std.proofs.lemmas.Bool.{cases_lt, eq-eqb, or_left}
use Rattle.std.specs.Option.{is_some}
use Rattle.heap_walker.proofs.Callers.{host_among, links_in_walk}
use Rattle.heap_walker.specs.Still.{Still}
use Rattle.heap_walker.specs.Things.{IsWalk, host_links, is_in}
use Rattle.dom_tree.specs.Node.{Nodes}
use Rattle.js_values.specs.declared.ids.NodeId.{NodeId}
use Rattle.js_values.specs.declared.ids.ObjId.{ObjId}
use Rattle.object_heap.specs.Chain.{object_at}
use Rattle.object_heap.specs.Environment.{Environment}
use Rattle.object_heap.specs.Heap.{Contents}
use Rattle.object_heap.specs.Object.{Object}
use Rattle.object_heap.specs.declared.object.Class.{Class}
use Rattle.object_heap.specs.declared.object.Class.TheVariants as class
use Rattle.object_heap.specs.declared.object.EventParts.{EventParts}
use Rattle.object_shapes.specs.Hosted.{HasParts, is_node_if}
use Rattle.object_shapes.specs.Links.{proto_links}
use Rattle.object_shapes.specs.Shapes.{HasShape}
use Rattle.page_host.specs.Host.{Host}
use Rattle.page_meaning.specs.Classes.{class_at, is_node_class}
use Rattle.page_meaning.specs.Places.{built_in_count, document, event_prototype}
use Rattle.page_meaning.specs.Store.{Store}
use Rattle.page_writer.specs.Frame.{nth_node}
use Rattle.rebuild_plan.proofs.Callers.{built_in_is_no_node}
use Rattle.rebuild_plan.specs.Compact.{moved, moved_proto}
use Rattle.rebuild_plan.specs.Events.{SavedEvent, event_as, event_of}
use Rattle.rebuild_plan.specs.Plan as plan
use Rattle.rebuilding.specs.Rebuilt.{ClassIsRebuilt, bound, event, fault, list, node, nth, page, plain}
use Rattle.rebuilding.specs.Running.{Lacks, object_here}
use Rattle.rebuilding.specs.Scene.{Scene}
use Rattle.rebuilding.specs.Sites.{sited_proto}
use Rattle.rebuilding.proofs.Basics.{nothing}
use Rattle.rebuilding.proofs.Known.{IsKnown}
use Rattle.rebuilding.proofs.EventPhase.{AreReady, IsInOrder, IsReached}
use Rattle.rebuilding.proofs.ListenPhase.{bare_lacks}
use Rattle.rebuilding.proofs.NodesAt.{NodesStand, document_here, document_node, thing_here, thing_node}
use Rattle.rebuilding.proofs.OwnObjects.{OwnObjects}
use Rattle.rebuilding.proofs.Placed.{event_low, is_thing_at, number_at, place_in, place_low, proto_built_in, young_walk}
use Rattle.rebuilding.proofs.Stages.{Made, MadeHost, MadeProps}

-- ---- events of the saved page

pub record WasEvent (things : List ℕ) (C : Class) (e : SavedEvent) : Type 0 where
  pub parts : EventParts
  pub class : C ≡ class.Event parts
  pub saved : e ≡ event_of things parts

pub was_event : (things : List ℕ) (C : Class) (e : SavedEvent) → event_as things C ≡ Some e → WasEvent things C e
was_event things (class.Event parts) e is = record { parts = parts; class = refl; saved = cc (sym is) }
was_event things (class.Node k) e is = absurd (cc is)
was_event things class.Plain e is = absurd (cc is)
was_event things class.List e is = absurd (cc is)
was_event things class.Fault e is = absurd (cc is)
was_event things (class.Page body env) e is = absurd (cc is)
was_event things (class.Bound target this args) e is = absurd (cc is)
was_event things (class.Native which) e is = absurd (cc is)
was_event things class.Math e is = absurd (cc is)
was_event things class.Window e is = absurd (cc is)

-- what is a node of the saved page
record IsNode (C : Class) : Type 0 where
  node : NodeId
  class : C ≡ class.Node node

is_node : (t : Nodes) (C : Class) → is_node_class t C ≡ true → IsNode C
is_node t (class.Node k) h = record { node = k; class = refl }
is_node t (class.Event parts) h = absurd (cc h)
is_node t class.Plain h = absurd (cc h)
is_node t class.List h = absurd (cc h)
is_node t class.Fault h = absurd (cc h)
is_node t (class.Page body env) h = absurd (cc h)
is_node t (class.Bound target this args) h = absurd (cc h)
is_node t (class.Native which) h = absurd (cc h)
is_node t class.Math h = absurd (cc h)
is_node t class.Window h = absurd (cc h)

-- its object is that of a node when it is rebuilt
node_again : {c : Scene} {es : List Environment} {s : Store} {things sites : List ℕ} {k : ℕ} {C D : Class} (a : NodeId) → ClassIsRebuilt c es s things sites k C D
    → C ≡ class.Node a → (b : ℕ) × (D ≡ class.Node (nth_node b))
node_again a plain e = absurd (cc e)
node_again a list e = absurd (cc e)
node_again a fault e = absurd (cc e)
node_again a (page round) e = absurd (cc e)
node_again a bound e = absurd (cc e)
node_again a (node {b = b}) e = (b.0, refl)
node_again a event e = absurd (cc e)

-- an event that was not initialised has no target
no_target : (s : Store) (parts : EventParts) → HasParts s parts → parts.begun ≡ false → parts.target ≡ None
no_target s parts has fresh = nothing parts.target (by (is_some parts.target) refl)
  where
    by : (b : Bool) → is_some parts.target ≡ b → b ≡ false
    by false e = refl
    by true e = let both : true ≡ false = sym (has.begun (has.sent ∙ e)) ∙ fresh in cc both

in_order : (s : Store) (things : List ℕ) (parts : EventParts) → HasParts s parts → parts.begun ≡ false
    → (parts.kind ≡ []) × (parts.bubbles ≡ false) × (parts.cancelable ≡ false) × (moved_proto things parts.target ≡ None)
in_order s things parts has fresh =
    let was = has.fresh fresh in (was.0, was.1, was.2, ap (moved_proto things) (no_target s parts has fresh))

-- ----

module _ (c : Scene) (End : Contents → Host → List ℕ → Type 0) (s : Store) (things sites : List ℕ) (h : Contents) (first g : Host) (still : Still s) (walk : IsWalk s things)
    (made : Made c s things h first sites) (nodes : NodesStand h sites) (own : OwnObjects h g sites) (silent : g.listeners ≡ [])
    (root : (object_at s.heap.objects document.0).class ≡ class.Node (nth_node 0)) where
  within : (n : ℕ) → n < length things → n < length sites
  within n inside = omega (arith, inside, made.count)

  -- where a node that can be reached stands
  reached_node : (at : ObjId) → IsKnown things at.0 → is_node_class s.host.nodes (class_at s at) ≡ true → IsReached c End sites h g (Some (moved things at))
  reached_node at (inr among) is =
      let i = number_at things at.0 among in
      let a = is_node s.host.nodes (class_at s at) is in
      let b = node_again a.node (made.each i.0 i.2).class (ap (λ k. (object_at s.heap.objects k).class) i.3 ∙ a.class) in
      let here = thing_node c h g sites made.running own nodes i.0 b.0 (within i.0 i.2) b.1 in
      let lacks : Lacks (object_here h sites (plan.thing_place i.0)) (codes "dispatchEvent") = bare_lacks (object_here h sites (plan.thing_place i.0)) (codes "dispatchEvent")
      (ap (λ (o : Object). o.props) (thing_here h sites i.0) ∙ nodes.props i.0 b.0 (within i.0 i.2) b.1)
      in
      subst (λ t. IsReached c End sites h g (Some t)) (ap place (sym i.1)) (here.1, lacks)
    where
      place : ℕ → ObjId
      place k = record { 0 = k }
  reached_node at (inl low) is = by (cases_lt at.0 built_in_count)
    where
      place : ℕ → ObjId
      place k = record { 0 = k }

      by : (at.0 < built_in_count) ⊎ (built_in_count ≤ at.0) → IsReached c End sites h g (Some (moved things at))
      by (inl built) = let a = is_node s.host.nodes (class_at s at) is in absurd (built_in_is_no_node s still at.0 a.node built a.class)
      by (inr past) =
          let last : at.0 ≡ document.0 = omega (arith, low, past) in
          let same : moved things at ≡ document = ap place (place_low things at.0 (young_walk s things walk) low ∙ last) in
          let lacks : Lacks (object_here h sites document) (codes "dispatchEvent") = bare_lacks (object_here h sites document) (codes "dispatchEvent")
          (ap (λ (o : Object). o.props) (document_here h sites) ∙ nodes.document_props)
          in
          subst (λ t. IsReached c End sites h g (Some t)) (sym same) ((document_node c h g sites made.running own).1, lacks)

  reached : (n : ℕ) → n < length things → (parts : EventParts) → (object_at s.heap.objects (nth things n)).class ≡ class.Event parts → HasParts s parts
      → IsReached c End sites h g (moved_proto things parts.target)
  reached n inside parts is has = by parts.target refl
    where
      by : (t : Option ObjId) → parts.target ≡ t → IsReached c End sites h g (moved_proto things t)
      by None e = tt
      by (Some at) e =
          let linked : is_in at.0 (host_links s.host (object_at s.heap.objects (nth things n)).class) ≡ true =
          ap (λ C. is_in at.0 (host_links s.host C)) is ∙ ap (λ t. is_in at.0 (proto_links t)) e ∙ or_left (nat_eq at.0 at.0) false (eq-eqb at.0 at.0 refl)
          in
          reached_node at
          (links_in_walk s things still walk (nth things n) (place_in things n inside) at.0 (host_among s (nth things n) at.0 linked))
          (sym (ap (is_node_if s) e) ∙ has.target)

  pub events_ready : AreReady c End s things sites h g made.count silent
  events_ready n inside e is =
      let thing : Object = object_at s.heap.objects (nth things n) in
      let was : WasEvent things thing.class e = was_event things thing.class e is in
      let shape : HasShape s thing (class.Event was.parts) = subst (HasShape s thing) was.class (still.shaped.made (nth things n) (is_thing_at s things n walk inside)) in
      let fresh = made.each n inside in
      record {
        made = subst (λ C. MadeHost s first C (object_at h.objects (nth sites n)).class) was.class (made.hosted n inside);
        proto = fresh.proto ∙ ap (λ p. sited_proto sites (moved_proto things p)) shape.0 ∙ proto_built_in s things sites event_prototype.0 walk event_low;
        bare = subst (λ C. MadeProps C thing.props (object_at h.objects (nth sites n)).props) was.class fresh.props;
        order = subst (IsInOrder c End sites h g) (sym was.saved) (record { fresh = in_order s things was.parts shape.2 });
        reached = subst (λ (d : SavedEvent). IsReached c End sites h g d.target) (sym was.saved) (reached n inside was.parts was.class shape.2);
      }
