-- A page that was rebuilt is saved as the one that it was rebuilt from.
use Rattle.std.specs.Option.{option_map}
use Rattle.std.proofs.Common.{◌≡◌, refl, sym, ap, subst, ◌∙◌, ℕ, zero, suc, ◌<◌, true, List, [], ◌∷◌, ◌++◌, Option, Some, length, arith}
use Rattle.dom_tree.specs.Node.{children_at, node_at, parent_at}
use Rattle.dom_tree.specs.declared.content.Kind.{Kind}
use Rattle.dom_tree.specs.declared.content.Kind.TheVariants as kind
use Rattle.js_values.specs.declared.ids.NodeId.{NodeId}
use Rattle.js_values.specs.declared.ids.ObjId.{ObjId}
use Rattle.object_heap.specs.Chain.{object_at}
use Rattle.object_heap.specs.Heap.{Contents}
use Rattle.object_heap.specs.Object.{Object}
use Rattle.object_heap.specs.declared.object.Class.{Class}
use Rattle.object_heap.specs.declared.object.Class.TheVariants as class
use Rattle.object_heap.specs.declared.object.EventParts.{EventParts}
use Rattle.object_shapes.specs.Links.{proto_links}
use Rattle.object_shapes.specs.Shapes.{HasShape}
use Rattle.page_meaning.specs.Laws.{LoadsSound}
use Rattle.page_meaning.specs.Places.{document, error_prototype, node_prototype}
use Rattle.page_host.specs.Host.{Host}
use Rattle.page_meaning.specs.Store.{Store}
use Rattle.heap_walker.specs.Still.{Still}
use Rattle.heap_walker.specs.Things.{IsWalk, calls_links, class_links, globals_of, heard_at, host_links, is_in, links, needs_of, node_links, nodes_links, parent_links}
use Rattle.heap_walker.proofs.Callers.{among_left, among_right, document_among, global_among, host_among, links_in_walk, made_among, props_among, roots_in_walk, timers_among, walks_are_same}
use Rattle.rebuild_plan.specs.Compact.{compact, kind_of, maker_as, moved_needs, moved_props, moved_proto, thing_of, things_at}
use Rattle.rebuild_plan.specs.Events.{event_as, event_of}
use Rattle.rebuild_plan.specs.Nodes.{node_as, node_maker, node_of}
use Rattle.rebuild_plan.specs.Timers.{moved_timers}
use Rattle.rebuild_plan.proofs.Callers.{document_class}
use Rattle.page_writer.specs.Frame.{nth_node}
use Rattle.rebuild_plan.specs.declared.statement.Maker.TheVariants as made
use Rattle.rebuilding.specs.Again.{SavedAgain}
use Rattle.rebuilding.specs.Rebuilt as rebuilt
use Rattle.rebuilding.specs.Rebuilt.{ClassIsRebuilt, IsRebuilt, IsRebuiltAs, PlansRebuild, kind_as, nth, sited_event, sited_node}
use Rattle.rebuilding.specs.Running.{StatementsRun}
use Rattle.rebuilding.specs.Scene.{Scene, page_with}
use Rattle.rebuilding.specs.Sites.{sited_proto}
use Rattle.rebuilding.proofs.Agreeing.{shape_proto}
use Rattle.rebuilding.proofs.Carried.{bound_back, listeners_back, needs_back, nodes_back, proto_back, props_back, target_back, timers_back}
use Rattle.rebuilding.proofs.Known.{IsKnown}
use Rattle.rebuilding.proofs.Held.{needs_same}
use Rattle.rebuilding.proofs.Loading.{script_rebuilt}
use Rattle.rebuilding.proofs.Placed.{AreYoung, error_low, is_thing_at, node_low, place_in, proto_built_in, young_walk}
use Rattle.rebuilding.proofs.Scripts.{scene}
use Rattle.rebuilding.proofs.BuiltIns.{changes_same}
use Rattle.rebuilding.proofs.Globals.{globals_same}
use Rattle.rebuilding.proofs.WalkedAgain.{walked_again}
use Rattle.rebuilding.proofs.OneToOne.{young_sites}

things_same : (s t : Store) (things sites ks js : List ℕ) → length js ≡ length ks
    → ((n : ℕ) → n < length ks → thing_of t sites (object_at t.heap.objects (nth js n)) ≡ thing_of s things (object_at s.heap.objects (nth ks n)))
    → things_at t sites js ≡ things_at s things ks
things_same s t things sites [] [] count each = refl
things_same s t things sites [] (j ∷ js) count each = absurd (omega (arith, count))
things_same s t things sites (k ∷ ks) [] count each = absurd (omega (arith, count))
things_same s t things sites (k ∷ ks) (j ∷ js) count each =
    let one = each zero (omega arith) in
    let others = things_same s t things sites ks js (omega (arith, count)) (λ n below. each (suc n) (omega (arith, below))) in
    (λ i. one i ∷ others i)

module _ (c : Scene) (s : Store) (things : List ℕ) (h : Contents) (g : Host) (sites : List ℕ) (still : Still s) (walk : IsWalk s things)
    (is : IsRebuilt c s things h g sites) where
  abbrev t : Store
  t = page_with h g

  old : AreYoung things
  old = young_walk s things walk

  young : AreYoung sites
  young = young_sites c s things h g sites walk is

  -- ---- nodes and events

  node_maker_same : (p q : Option ObjId) (k l : Kind) → l ≡ k → moved_proto sites q ≡ moved_proto things p → node_maker sites q l ≡ node_maker things p k
  node_maker_same p q k l same above = ap (node_maker sites q) same ∙ by k
    where
      by : (m : Kind) → node_maker sites q m ≡ node_maker things p m
      by kind.Document = ap made.Plain above
      by (kind.Element x) = refl
      by (kind.Text x) = refl
      by (kind.Comment x) = refl

  node_back : (a b : NodeId) → ((j : ℕ) → is_in j (node_links s.host a) ≡ true → IsKnown things j)
      → node_of g [] b ≡ sited_node sites (node_of s.host things a) → node_of g sites b ≡ node_of s.host things a
  node_back a b known e =
      let up = parent_links s.host.objects (parent_at s.host.nodes a.0) in
      let down = nodes_links s.host.objects (children_at s.host.nodes a.0) in
      let calls = calls_links (heard_at a.0 s.host.listeners) in
      let attributes : (node_of g sites b).attributes ≡ (node_of s.host things a).attributes = ap (λ n. n.attributes) e in
      let value : (node_of g sites b).value ≡ (node_of s.host things a).value = ap (λ n. n.value) e in
      let children =
      nodes_back things sites is.running.place.rising is.count old young s.host.objects g.objects (children_at s.host.nodes a.0) (children_at g.nodes b.0)
      (λ j i. known j (among_right j up (down ++ calls) (among_left j down calls i))) (ap (λ n. n.children) e)
      in
      let listeners =
      listeners_back things sites is.running.place.rising is.count old young (heard_at a.0 s.host.listeners) (heard_at b.0 g.listeners)
      (λ j i. known j (among_right j up (down ++ calls) (among_right j down calls i))) (ap (λ n. n.listeners) e)
      in
      (λ i. record { attributes = attributes i; value = value i; children = children i; listeners = listeners i })

  event_back : (p q : EventParts) → ((j : ℕ) → is_in j (proto_links p.target) ≡ true → IsKnown things j) → event_of [] q ≡ sited_event sites (event_of things p)
      → event_of sites q ≡ event_of things p
  event_back p q known e =
      let kind : q.kind ≡ p.kind = ap (λ x. x.kind) e in
      let bubbles : q.bubbles ≡ p.bubbles = ap (λ x. x.bubbles) e in
      let cancelable : q.cancelable ≡ p.cancelable = ap (λ x. x.cancelable) e in
      let begun : q.begun ≡ p.begun = ap (λ x. x.begun) e in
      let target = target_back things sites is.running.place.rising is.count old young p.target q.target known (ap (λ x. x.target) e) in
      (λ i. record { kind = kind i; bubbles = bubbles i; cancelable = cancelable i; begun = begun i; target = target i })

  -- what is saved of an object of this class as a node and an event
  hosted_back : (k : ℕ) (a b : Class) → ClassIsRebuilt c h.environments s things sites k a b → ((j : ℕ) → is_in j (host_links s.host a) ≡ true → IsKnown things j)
      → node_as g [] b ≡ sited_node sites (node_as s.host things a) → event_as [] b ≡ option_map (sited_event sites) (event_as things a)
      → (node_as g sites b ≡ node_as s.host things a) × (event_as sites b ≡ event_as things a)
  hosted_back k a b rebuilt.plain known e f = (refl, refl)
  hosted_back k a b rebuilt.list known e f = (refl, refl)
  hosted_back k a b rebuilt.fault known e f = (refl, refl)
  hosted_back k a b (rebuilt.page r) known e f = (refl, refl)
  hosted_back k a b rebuilt.bound known e f = (refl, refl)
  hosted_back k a b (rebuilt.node {a = p} {b = q}) known e f = (node_back p q known e, refl)
  hosted_back k a b (rebuilt.event {a = p} {b = q}) known e f =
      let same : event_of [] q ≡ sited_event sites (event_of things p) = cc f in (refl, ap Some (event_back p q known same))

  -- ---- makers

  proto_moved : (p q : Option ObjId) → q ≡ sited_proto sites (moved_proto things p) → ((j : ℕ) → is_in j (proto_links p) ≡ true → IsKnown things j)
      → moved_proto sites q ≡ moved_proto things p
  proto_moved p q above known = ap (moved_proto sites) above ∙ proto_back things sites is.running.place.rising is.count old young p known

  -- an error keeps its kind, since its prototype is built in
  kind_same : (p q : Option ObjId) → (o : Object) → HasShape s o class.Fault → p ≡ o.proto
      → q ≡ sited_proto sites (moved_proto things p) → kind_of q ≡ kind_of p
  kind_same p q o shape own other =
      let built : p ≡ Some (error_prototype shape.kind) = own ∙ shape.is in
      let stays : q ≡ Some (error_prototype shape.kind) =
      other ∙ ap (λ r. sited_proto sites (moved_proto things r)) built
      ∙ proto_built_in s things sites (error_prototype shape.kind).0 walk (error_low shape.kind)
      in
      ap kind_of (stays ∙ sym built)

  maker_same : (k : ℕ) (p q : Option ObjId) (a b : Class) → ClassIsRebuilt c h.environments s things sites k a b
      → q ≡ sited_proto sites (moved_proto things p)
      → (a ≡ class.Fault → kind_of q ≡ kind_of p)
      → ((j : ℕ) → is_in j (proto_links p) ≡ true → IsKnown things j) → ((j : ℕ) → is_in j (class_links s a) ≡ true → IsKnown things j)
      → kind_as g b ≡ kind_as s.host a
      → maker_as t sites q b ≡ maker_as s things p a
  maker_same k p q a b rebuilt.plain above kinds known parts same = ap made.Plain (proto_moved p q above known)
  maker_same k p q a b rebuilt.list above kinds known parts same = refl
  maker_same k p q a b rebuilt.fault above kinds known parts same = ap made.Fault (kinds refl)
  maker_same k p q a b (rebuilt.page {code = source} {env = env} {round = round} r) above kinds known parts same =
      ap (made.Func source)
      (ap (moved_needs sites) (needs_same c s t things sites is.running.place.sound.environments k source env round r)
      ∙ needs_back things sites is.running.place.rising is.count old young (needs_of s env source) parts)
  maker_same k p q a b (rebuilt.bound {target = target} {this = this} {args = args}) above kinds known parts same =
      let back = bound_back things sites is.running.place.rising is.count old young target this args parts in
      let one = back.0 in
      let two = back.1 in
      let three = back.2 in
      (λ i. made.Bind (record { 0 = one i }) (two i) (three i))
  maker_same k p q a b (rebuilt.node {a = m} {b = n}) above kinds known parts same =
      let equal : (node_at g.nodes n.0).content.kind ≡ (node_at s.host.nodes m.0).content.kind = cc same in
      node_maker_same p q (node_at s.host.nodes m.0).content.kind (node_at g.nodes n.0).content.kind equal (proto_moved p q above known)
  maker_same k p q a b rebuilt.event above kinds known parts same = refl

  thing_same : (n : ℕ) → n < length things
      → thing_of t sites (object_at h.objects (nth sites n)) ≡ thing_of s things (object_at s.heap.objects (nth things n))
  thing_same n below =
      let k : ℕ = nth things n in
      let o : Object = object_at s.heap.objects k in
      let p : Object = object_at h.objects (nth sites n) in
      let made_as : IsRebuiltAs c h.environments s things sites (nth sites n) o p = is.each n below in
      let linked : (j : ℕ) → is_in j (links s k) ≡ true → IsKnown things j = links_in_walk s things still walk k (place_in things n below) in
      let shape : HasShape s o o.class = still.shaped.made k (is_thing_at s things n walk below) in
      let hosted = is.hosted n below in
      let maker : maker_as t sites p.proto p.class ≡ maker_as s things o.proto o.class =
      maker_same (nth sites n) o.proto p.proto o.class p.class made_as.class made_as.proto
      (λ e. kind_same o.proto p.proto o (subst (HasShape s o) e shape) refl made_as.proto)
      (λ j i. linked j (made_among s k j (among_left j (proto_links o.proto) (class_links s o.class) i)))
      (λ j i. linked j (made_among s k j (among_right j (proto_links o.proto) (class_links s o.class) i)))
      hosted.kind
      in
      let beside = hosted_back (nth sites n) o.class p.class made_as.class (λ j i. linked j (host_among s k j i)) hosted.node hosted.event in
      let node : node_as g sites p.class ≡ node_as s.host things o.class = beside.0 in
      let event : event_as sites p.class ≡ event_as things o.class = beside.1 in
      let props : moved_props sites p.props ≡ moved_props things o.props =
      ap (moved_props sites) made_as.props
      ∙ props_back things sites is.running.place.rising is.count old young o.props (λ j i. linked j (props_among s k j i))
      in
      let extensible = made_as.extensible in
      (λ i. record { maker = maker i; node = node i; event = event i; props = props i; extensible = extensible i })

  -- ---- the document

  document_known : (j : ℕ) → is_in j (links s document.0) ≡ true → IsKnown things j
  document_known j i = roots_in_walk s things still walk j (document_among s j i)

  document_maker : maker_as t sites (object_at h.objects document.0).proto (object_at h.objects document.0).class
      ≡ maker_as s things (object_at s.heap.objects document.0).proto (object_at s.heap.objects document.0).class
  document_maker =
      let o : Object = object_at s.heap.objects document.0 in
      let p : Object = object_at h.objects document.0 in
      let left : o.class ≡ class.Node (nth_node 0) = document_class s still in
      let right : p.class ≡ class.Node (nth_node 0) = is.running.own.document.class in
      let inherited : o.proto ≡ Some node_prototype = shape_proto s o o.class (nth_node 0) left still.shaped.document in
      let above : moved_proto sites p.proto ≡ moved_proto things o.proto =
      proto_moved o.proto p.proto
      (is.running.own.document.proto ∙ sym (proto_built_in s things sites node_prototype.0 walk node_low) ∙ ap (λ q. sited_proto sites (moved_proto things q)) (sym inherited))
      (λ j i. document_known j (made_among s document.0 j (among_left j (proto_links o.proto) (class_links s o.class) i)))
      in
      let kinds : kind_as g (class.Node (nth_node 0)) ≡ kind_as s.host (class.Node (nth_node 0)) =
      sym (ap (λ d. kind_as g d) right) ∙ is.document.host.kind ∙ ap (λ d. kind_as s.host d) left
      in
      let equal : (node_at g.nodes 0).content.kind ≡ (node_at s.host.nodes 0).content.kind = cc kinds in
      ap (maker_as t sites p.proto) right
      ∙ node_maker_same o.proto p.proto (node_at s.host.nodes 0).content.kind (node_at g.nodes 0).content.kind equal above
      ∙ sym (ap (maker_as s things o.proto) left)

  document_same : thing_of t sites (object_at h.objects document.0) ≡ thing_of s things (object_at s.heap.objects document.0)
  document_same =
      let o : Object = object_at s.heap.objects document.0 in
      let p : Object = object_at h.objects document.0 in
      let left : o.class ≡ class.Node (nth_node 0) = document_class s still in
      let right : p.class ≡ class.Node (nth_node 0) = is.running.own.document.class in
      let maker = document_maker in
      let told : node_of g [] (nth_node 0) ≡ sited_node sites (node_of s.host things (nth_node 0)) =
      sym (ap (λ d. node_as g [] d) right) ∙ is.document.host.node ∙ ap (λ d. sited_node sites (node_as s.host things d)) left
      in
      let known : (j : ℕ) → is_in j (node_links s.host (nth_node 0)) ≡ true → IsKnown things j =
      λ j i. document_known j (host_among s document.0 j (subst (λ d. is_in j (host_links s.host d) ≡ true) (sym left) i))
      in
      let node : node_as g sites p.class ≡ node_as s.host things o.class =
      ap (λ d. node_as g sites d) right ∙ node_back (nth_node 0) (nth_node 0) known told ∙ sym (ap (λ d. node_as s.host things d) left)
      in
      let event : event_as sites p.class ≡ event_as things o.class = ap (event_as sites) right ∙ sym (ap (event_as things) left) in
      let props : moved_props sites p.props ≡ moved_props things o.props =
      ap (moved_props sites) is.document.props
      ∙ props_back things sites is.running.place.rising is.count old young o.props (λ j i. document_known j (props_among s document.0 j i))
      in
      let extensible = is.document.extensible in
      (λ i. record { maker = maker i; node = node i; event = event i; props = props i; extensible = extensible i })

  -- ---- the page

  timers_same : moved_timers sites g.clock g.timers ≡ moved_timers things s.host.clock s.host.timers
  timers_same =
      ap (λ n. moved_timers sites n g.timers) is.hosting.clock ∙ ap (moved_timers sites 0) is.timers
      ∙ timers_back things sites is.running.place.rising is.count old young s.host.clock s.host.timers
      (λ j i. roots_in_walk s things still walk j (timers_among s j i))

  pub compact_same : (again : List ℕ) → IsWalk (page_with h g) again → compact (page_with h g) again ≡ compact s things
  compact_same again walked =
      let rebuilt_walk : IsWalk t sites = walked_again c s things h g sites still walk is in
      let globals =
      ap (moved_props sites) (globals_same c s things h g sites is)
      ∙ props_back things sites is.running.place.rising is.count old young (globals_of s) (λ j i. roots_in_walk s things still walk j (global_among s j i))
      in
      let each = things_same s t things sites things sites is.count thing_same in
      let document = document_same in
      let timers = timers_same in
      let changes = changes_same c s things h g sites still is.running in
      ap (compact t) (walks_are_same t again sites walked rebuilt_walk)
      ∙ (λ i. record { globals = globals i; document = document i; things = each i; timers = timers i; changes = λ k. changes k i })

-- ---- the page that is loaded

pub saved_again : LoadsSound → StatementsRun → PlansRebuild → SavedAgain
saved_again sound run plans s things again can =
    let out = script_rebuilt sound run plans s things can in
    subst (λ t. IsWalk t again → compact t again ≡ compact s things) (sym out.loaded)
    (compact_same scene s things out.after out.host out.sites can.still can.walk out.rebuilt again)
