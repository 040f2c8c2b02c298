-- The sites are what can be reached in the page that was rebuilt.
use Rattle.std.proofs.Common.{◌≡◌, inl, inr, refl, sym, ap, subst, ◌∙◌, ℕ, ◌<◌, true, nat_lt, map, List, [], ◌∷◌, ◌++◌, Option, length, arith}
use Rattle.std.proofs.lemmas.Bool.{and_from, and_parts, lt-ltb, ltb-true}
use Rattle.std.proofs.lemmas.List.{map-append}
use Rattle.object_heap.specs.Chain.{object_at}
use Rattle.object_heap.specs.Environment.{AreInside}
use Rattle.object_heap.specs.Heap.{Contents}
use Rattle.object_heap.specs.Object.{Object}
use Rattle.object_heap.specs.declared.object.Class.{Class}
use Rattle.object_heap.specs.declared.object.Class.TheVariants as class
use Rattle.page_meaning.specs.Places.{built_in_count}
use Rattle.object_shapes.specs.Links.{is_thing, props_links, proto_links, value_links, values_links}
use Rattle.page_meaning.specs.Places.{document}
use Rattle.page_host.specs.Host.{Host}
use Rattle.page_host.specs.declared.listener.Listener.{Listener}
use Rattle.timer_queue.specs.declared.timer.Live.{Live}
use Rattle.page_meaning.specs.Store.{Store}
use Rattle.agreement.specs.Acts.{StoreRel, clocks_of}
use Rattle.heap_relations.proofs.Callers as heap
use Rattle.heap_relations.specs.Naming.{Named, World, named}
use Rattle.heap_relations.specs.Related as related
use Rattle.heap_relations.specs.Related.{ClassRel, Each, Maybe, ObjectIds, each, no_more, none, some}
use Rattle.host_relations.specs.Hosts.{ListenerRel}
use Rattle.host_relations.specs.Linked.{Linked}
use Rattle.host_relations.specs.Nodes.{NodeIds, NodeRel}
use Rattle.host_relations.specs.Timers.{TimerRel}
use Rattle.dom_tree.specs.Node.{children_at, node_at}
use Rattle.js_values.specs.declared.ids.NodeId.{NodeId}
use Rattle.js_values.specs.declared.ids.ObjId.{ObjId}
use Rattle.page_writer.specs.Frame.{nth_node}
use Rattle.rebuild_plan.proofs.Callers.{document_class}
use Rattle.heap_walker.specs.Still.{Still}
use Rattle.heap_walker.specs.Things.{IsWalk, Reach, calls_links, class_links, globals_of, host_links, is_in, link, links, needs_links, needs_of, node_links, nodes_links, parent_links, root, roots, timers_links}
use Rattle.heap_walker.proofs.Callers.{links_in_walk, roots_in_walk}
use Rattle.rebuilding.specs.Rebuilt as rebuilt
use Rattle.rebuilding.specs.Rebuilt.{ClassIsRebuilt, IsRebuilt, IsRebuiltAs, nth}
use Rattle.rebuilding.specs.Scene.{Scene, page_with}
use Rattle.rebuilding.specs.Sites.{site}
use Rattle.rebuilding.proofs.Agreeing.{stores_rel}
use Rattle.rebuilding.proofs.OneToOne.{site_parts}
use Rattle.rebuilding.proofs.Carried.{IsMadeOf, carried, carried_at, from_mapped, in_mapped, needs_carried, props_carried, proto_carried, value_carried, values_carried}
use Rattle.rebuilding.proofs.Known.{IsKnown}
use Rattle.rebuilding.proofs.Globals.{globals_same}
use Rattle.rebuilding.proofs.Held.{needs_same}
use Rattle.rebuilding.proofs.Naming as naming
use Rattle.rebuilding.proofs.Naming.{IsPair, pair_is, rebuilt_world, site_of_built_in, thing_paired}
use Rattle.rebuilding.proofs.Placed.{number_at, place_in, site_thing, young_walk}

class_carried : (c : Scene) (s t : Store) (things sites : List ℕ) → AreInside t.heap.environments → (k : ℕ) (a b : Class)
    → ClassIsRebuilt c t.heap.environments s things sites k a b → class_links t b ≡ map (carried things sites) (class_links s a)
class_carried c s t things sites ages k a b rebuilt.plain = refl
class_carried c s t things sites ages k a b rebuilt.list = refl
class_carried c s t things sites ages k a b rebuilt.fault = refl
class_carried c s t things sites ages k a b rebuilt.node = refl
class_carried c s t things sites ages k a b rebuilt.event = refl
class_carried c s t things sites ages k a b (rebuilt.page {code = source} {env = env} {round = round} r) =
    ap needs_links (needs_same c s t things sites ages k source env round r) ∙ needs_carried things sites (needs_of s env source)
class_carried c s t things sites ages k a b (rebuilt.bound {target = target} {this = this} {args = args}) =
    let one = value_carried things sites this in
    let others = values_carried things sites args in
    ap (λ ks. carried things sites target.0 ∷ ks)
    ((λ i. one i ++ others i) ∙ sym (map-append (carried things sites) (value_links this) (values_links args)))

module _ (c : Scene) (s : Store) (things : List ℕ) (h : Contents) (g : Host) (sites : List ℕ) (still : Still s) (walk : IsWalk s things)
    (is : IsRebuilt c s things h g sites) where
  abbrev t : Store
  t = page_with h g

  abbrev to : ℕ → ℕ
  to = carried things sites

  -- ---- what nodes, events and timers refer to

  abbrev W : World
  W = rebuilt_world s h things sites

  stores : StoreRel W s t
  stores = stores_rel c s things h g sites still walk is

  pair_to : (k j : ℕ) → Named W k j → j ≡ to k
  pair_to k j n = by (pair_is things sites k j n.named)
    where
      by : IsPair things sites k j → j ≡ to k
      by (naming.built_in same low) = sym (site_of_built_in things sites k low (young_walk s things walk) ∙ same)
      by (naming.thing p) = p.two ∙ sym (ap to p.one ∙ carried_at things sites p.place walk.rising p.below)

  each_to : (ks js : List ℕ) → Each (Named W) ks js → js ≡ map to ks
  each_to _ _ no_more = refl
  each_to _ _ (each {a = k} {b = j} {xs = ks} {ys = js} n ns) =
      let first = pair_to k j n in
      let others = each_to ks js ns in
      (λ i. first i ∷ others i)

  nodes_named : (cs ds : List NodeId) → Each (NodeIds (Linked W)) cs ds → Each (Named W) (nodes_links s.host.objects cs) (nodes_links g.objects ds)
  nodes_named _ _ no_more = no_more
  nodes_named _ _ (each {a = k} {b = d} {xs = cs} {ys = ds} x xs) = each (stores.host.objects k d x.linked) (nodes_named cs ds xs)

  parent_named : {o p : Option NodeId} → Maybe (NodeIds (Linked W)) o p → Each (Named W) (parent_links s.host.objects o) (parent_links g.objects p)
  parent_named none = no_more
  parent_named (some {a = a} {b = b} x) = each (stores.host.objects a b x.linked) no_more

  calls_named : {ls ms : List Listener} → Each (ListenerRel W) ls ms → Each (Named W) (calls_links ls) (calls_links ms)
  calls_named no_more = no_more
  calls_named (each x xs) = each x.call (calls_named xs)

  timers_named : {ts us : List Live} → Each (TimerRel (Named W) (clocks_of W)) ts us → Each (Named W) (timers_links ts) (timers_links us)
  timers_named no_more = no_more
  timers_named (each x xs) = each x.call (timers_named xs)

  node_named : (a b : NodeId) → Linked W a.0 b.0 → Each (Named W) (node_links s.host a) (node_links g b)
  node_named a b l =
      let r : NodeRel (Linked W) (node_at s.host.nodes a.0) (node_at g.nodes b.0) = stores.host.nodes.at a.0 b.0 l in
      heap.each_append (parent_named r.parent)
      (heap.each_append (nodes_named (children_at s.host.nodes a.0) (children_at g.nodes b.0) r.children) (calls_named (stores.host.listeners a.0 b.0 l)))

  target_named : {o p : Option ObjId} → Maybe (ObjectIds (named W)) o p → Each (Named W) (proto_links o) (proto_links p)
  target_named none = no_more
  target_named (some x) = each x.linked no_more

  host_named : {d e : Class} → ClassRel (named W) d e → Each (Named W) (host_links s.host d) (host_links g e)
  host_named related.plain = no_more
  host_named related.array = no_more
  host_named (related.page x) = no_more
  host_named related.native = no_more
  host_named (related.bound n x xs) = no_more
  host_named related.fault = no_more
  host_named related.math = no_more
  host_named related.window = no_more
  host_named (related.node {m = a} {n = b} l) = node_named a b l
  host_named (related.event x) = target_named x.target

  host_same : (k j : ℕ) → Named W k j → host_links g (object_at h.objects j).class ≡ map to (host_links s.host (object_at s.heap.objects k).class)
  host_same k j n =
      each_to (host_links s.host (object_at s.heap.objects k).class) (host_links g (object_at h.objects j).class) (host_named (heap.class_read stores.heap n))

  -- ---- links

  links_joined : (as' bs cs ds es fs xs ys : List ℕ) → es ≡ map to as' → fs ≡ map to bs → xs ≡ map to cs → ys ≡ map to ds
      → es ++ (fs ++ (xs ++ ys)) ≡ map to (as' ++ (bs ++ (cs ++ ds)))
  links_joined as' bs cs ds es fs xs ys e f x y =
      (λ i. e i ++ (f i ++ (x i ++ y i)))
      ∙ ap (λ ks. map to as' ++ (map to bs ++ ks)) (sym (map-append to cs ds))
      ∙ ap (λ ks. map to as' ++ ks) (sym (map-append to bs (cs ++ ds)))
      ∙ sym (map-append to as' (bs ++ (cs ++ ds)))

  links_same : (n : ℕ) → n < length things → links t (nth sites n) ≡ map to (links s (nth things n))
  links_same n below =
      let o : Object = object_at s.heap.objects (nth things n) in
      let p : Object = object_at h.objects (nth sites n) in
      let made_as : IsRebuiltAs c h.environments s things sites (nth sites n) o p = is.each n below in
      let above : proto_links p.proto ≡ map to (proto_links o.proto) = ap proto_links made_as.proto ∙ proto_carried things sites o.proto in
      let parts : class_links t p.class ≡ map to (class_links s o.class) =
      class_carried c s t things sites is.running.place.sound.environments (nth sites n) o.class p.class made_as.class
      in
      let beside : host_links g p.class ≡ map to (host_links s.host o.class) =
      host_same (nth things n) (nth sites n) (record { named = thing_paired things sites is.count n below })
      in
      let held : props_links p.props ≡ map to (props_links o.props) = ap props_links made_as.props ∙ props_carried things sites o.props in
      links_joined (proto_links o.proto) (class_links s o.class) (host_links s.host o.class) (props_links o.props)
      (proto_links p.proto) (class_links t p.class) (host_links g p.class) (props_links p.props) above parts beside held

  node_class_links : (u : Store) (d : Class) → d ≡ class.Node (nth_node 0) → class_links u d ≡ []
  node_class_links u d e = ap (class_links u) e

  -- the document's prototype is built in
  document_links : links t document.0 ≡ map to (links s document.0)
  document_links =
      let o : Object = object_at s.heap.objects document.0 in
      let p : Object = object_at h.objects document.0 in
      let n : Named W document.0 document.0 = stores.built_ins document.0 (omega arith) in
      let above : proto_links p.proto ≡ map to (proto_links o.proto) = each_to (proto_links o.proto) (proto_links p.proto) (target_named (heap.proto_read stores.heap n)) in
      let left : class_links s o.class ≡ [] = node_class_links s o.class (document_class s still) in
      let right : class_links t p.class ≡ [] = node_class_links t p.class is.running.own.document.class in
      let parts : class_links t p.class ≡ map to (class_links s o.class) = right ∙ sym (ap (map to) left) in
      let held : props_links p.props ≡ map to (props_links o.props) = ap props_links is.document.props ∙ props_carried things sites o.props in
      links_joined (proto_links o.proto) (class_links s o.class) (host_links s.host o.class) (props_links o.props)
      (proto_links p.proto) (class_links t p.class) (host_links g p.class) (props_links p.props) above parts (host_same document.0 document.0 n) held

  roots_same : roots t ≡ map to (roots s)
  roots_same =
      let first : props_links (globals_of t) ≡ map to (props_links (globals_of s)) = ap props_links (globals_same c s things h g sites is) ∙ props_carried things sites (globals_of s) in
      let timers : timers_links g.timers ≡ map to (timers_links s.host.timers) =
      each_to (timers_links s.host.timers) (timers_links g.timers) (timers_named stores.host.timers)
      in
      (λ i. first i ++ (document_links i ++ timers i))
      ∙ ap (λ ks. map to (props_links (globals_of s)) ++ ks) (sym (map-append to (links s document.0) (timers_links s.host.timers)))
      ∙ sym (map-append to (props_links (globals_of s)) (links s document.0 ++ timers_links s.host.timers))

  -- ---- what can be reached

  at_site : (k : ℕ) → is_in k things ≡ true → (n : ℕ) × (n < length things) × (nth things n ≡ k) × (to k ≡ nth sites n)
  at_site k found =
      let m = number_at things k found in
      (m.0, m.2, m.3, ap (site sites) m.1 ∙ site_thing sites m.0)

  thing_at_site : (k : ℕ) → is_in k things ≡ true → is_thing t (to k) ≡ true
  thing_at_site k found =
      let m = at_site k found in
      let parts = site_parts c s things h g sites walk is m.0 m.1 in
      subst (λ j. is_thing t j ≡ true) (sym m.3)
      (and_from _ _ (lt-ltb built_in_count (nth sites m.0) (omega (arith, parts.0))) (lt-ltb (nth sites m.0) (length h.objects) parts.1))

  reached_again : (k : ℕ) → Reach s k → Reach t (to k)
  reached_again k (root thing found) =
      root (thing_at_site k (walk.complete k (root thing found)))
      (subst (λ ks. is_in (to k) ks ≡ true) (sym roots_same) (in_mapped to k (roots s) found))
  reached_again k (link {j = j} from thing found) =
      let m = at_site j (walk.complete j from) in
      let linked : is_in (to k) (map to (links s (nth things m.0))) ≡ true =
      in_mapped to k (links s (nth things m.0)) (subst (λ i. is_in k (links s i) ≡ true) (sym m.2) found)
      in
      let there : is_in (to k) (links t (to j)) ≡ true =
      subst (λ i. is_in (to k) (links t i) ≡ true) (sym m.3) (subst (λ ks. is_in (to k) ks ≡ true) (sym (links_same m.0 m.1)) linked)
      in
      link (reached_again j from) (thing_at_site k (walk.complete k (link from thing found))) there

  -- a thing that stands for something known is at a site
  thing_known : (j k : ℕ) → is_thing t j ≡ true → j ≡ to k → IsKnown things k → is_in j sites ≡ true
  thing_known j k thing is_to (inl low) =
      let high : built_in_count < j = ltb-true built_in_count j (and_parts (nat_lt built_in_count j) (nat_lt j (length h.objects)) thing).0 in
      absurd (omega (arith, high, low, is_to, site_of_built_in things sites k low (young_walk s things walk)))
  thing_known j k thing is_to (inr found) =
      let m = at_site k found in
      let inside : m.0 < length sites = omega (arith, m.1, is.count) in
      subst (λ i. is_in i sites ≡ true) (sym (is_to ∙ m.3)) (place_in sites m.0 inside)

  only_sites : (j : ℕ) → Reach t j → is_in j sites ≡ true
  only_sites j (root thing found) =
      let m : IsMadeOf to j (roots s) = from_mapped to j (roots s) (subst (λ ks. is_in j ks ≡ true) roots_same found) in
      thing_known j m.from thing m.is (roots_in_walk s things still walk m.from m.among)
  only_sites j (link {j = up} from thing found) =
      let n = number_at sites up (only_sites up from) in
      let inside : n.0 < length things = omega (arith, n.2, is.count) in
      let here : is_in j (links t (nth sites n.0)) ≡ true = subst (λ i. is_in j (links t i) ≡ true) (sym n.3) found in
      let m : IsMadeOf to j (links s (nth things n.0)) =
      from_mapped to j (links s (nth things n.0)) (subst (λ ks. is_in j ks ≡ true) (links_same n.0 inside) here)
      in
      thing_known j m.from thing m.is (links_in_walk s things still walk (nth things n.0) (place_in things n.0 inside) m.from m.among)

  site_reached : (k : ℕ) → is_in k sites ≡ true → Reach t k
  site_reached k found =
      let n = number_at sites k found in
      let inside : n.0 < length things = omega (arith, n.2, is.count) in
      let from : Reach t (to (nth things n.0)) = reached_again (nth things n.0) (walk.sound (nth things n.0) (place_in things n.0 inside)) in
      subst (λ j. Reach t j) (carried_at things sites n.0 walk.rising inside ∙ n.3) from

  pub walked_again : IsWalk (page_with h g) sites
  walked_again = record { rising = is.running.place.rising; sound = site_reached; complete = only_sites }
