-- What can be reached in a page that agrees with itself names itself, where no function was rebuilt.
use Rattle.std.proofs.Common.{◌≡◌, ◌⊎◌, inl, inr, refl, subst, ℕ, ◌≤◌, Bool, true, false, ◌||◌, nat_eq, List, [], ◌∷◌, ◌++◌, Option, Some, None, if◌then◌else◌, arith}
use Rattle.std.proofs.lemmas.Bool.Decides.{nat_tests}
use Rattle.std.specs.Option.{option_map}
use Rattle.std.specs.Prelude.{unwrap_or}
use Rattle.dom_tree.specs.Node.{children_at, node_at}
use Rattle.global_names.specs.Names.{names_global}
use Rattle.timer_queue.specs.declared.timer.Live.{Live}
use Rattle.agreement.proofs.Callers.{bound_read, linked_read}
use Rattle.agreement.specs.Acts.{StoreRel}
use Rattle.heap_relations.proofs.Callers as heap
use Rattle.heap_relations.specs.Naming.{In, Named, World, here, named, there}
use Rattle.heap_relations.specs.Related as related
use Rattle.heap_relations.specs.Related.{ClassRel, Each, EventRel, Maybe, ObjectIds, array, bound, each, event, fault, math, native, no_more, node, none, page, plain, some}
use Rattle.heap_walker.specs.Things.{Reach, bound_value, bound_values, calls_links, class_links, globals_of, host_links, is_in, link, links, made_globals, needs_links, node_links, nodes_links, parent_links, root, roots, timers_links}
use Rattle.host_relations.specs.Hosts.{ListenerRel}
use Rattle.host_relations.specs.Linked.{Linked}
use Rattle.host_relations.specs.Nodes.{NodeIds, NodeRel}
use Rattle.host_relations.specs.Timers.{Clocks, TimerRel}
use Rattle.js_core.specs.Tree as tree
use Rattle.js_values.specs.declared.ids.EnvId.{EnvId}
use Rattle.js_values.specs.declared.ids.NodeId.{NodeId}
use Rattle.js_values.specs.declared.ids.ObjId.{ObjId}
use Rattle.js_values.specs.declared.value.Value.{Value}
use Rattle.js_values.specs.declared.value.Value.TheVariants.{Undefined}
use Rattle.object_heap.specs.Chain.{object_at}
use Rattle.object_heap.specs.Heap.{look_in}
use Rattle.object_heap.specs.Object.{Object}
use Rattle.object_heap.specs.Property.{Props}
use Rattle.object_heap.specs.declared.object.Class.{Class}
use Rattle.object_heap.specs.declared.object.Class.TheVariants as class
use Rattle.object_heap.specs.declared.object.EventParts.{EventParts}
use Rattle.object_shapes.specs.Links.{event_links, made_links, parts_links, props_links, proto_links, value_links}
use Rattle.page_host.specs.Host.{object_of_node}
use Rattle.page_host.specs.declared.listener.Listener.{Listener}
use Rattle.page_meaning.specs.Places.{built_in_count, document, window}
use Rattle.page_meaning.specs.Store.{Store}
use Rattle.scope_analysis.specs.Needs.{needed_variables}

-- ---- lists of links

found_in : (k : ℕ) (ks : List ℕ) → is_in k ks ≡ true → In k ks
found_in k [] e = absurd (cc e)
found_in k (j ∷ ks) e = by_case (nat_eq k j) refl e (found_in k ks)
  where
    by_case : (b : Bool) → nat_eq k j ≡ b → (b || is_in k ks) ≡ true → (is_in k ks ≡ true → In k ks) → In k (j ∷ ks)
    by_case true same e up = let equal : k ≡ j = grind (arith, nat_tests) in subst (λ m. In k (m ∷ ks)) equal here
    by_case false same e up = there (up e)

in_rest : {k : ℕ} (xs ys : List ℕ) → In k ys → In k (xs ++ ys)
in_rest [] ys i = i
in_rest (x ∷ xs) ys i = there (in_rest xs ys i)

either : {k : ℕ} (xs ys : List ℕ) → In k (xs ++ ys) → In k xs ⊎ In k ys
either [] ys i = inr i
either (x ∷ xs) ys here = inl here
either (x ∷ xs) ys (there i) = later (either xs ys i)
  where
    later : {k : ℕ} → In k xs ⊎ In k ys → In k (x ∷ xs) ⊎ In k ys
    later (inl i) = inl (there i)
    later (inr i) = inr i

in_first : {k : ℕ} (xs ys : List ℕ) → In k xs → In k (xs ++ ys)
in_first _ ys here = here
in_first (x ∷ xs) ys (there i) = there (in_first xs ys i)

in_joined : {k : ℕ} (xs ys zs : List ℕ) → (In k ys → In k zs) → In k (xs ++ ys) → In k (xs ++ zs)
in_joined {k = k} xs ys zs up i = by (either xs ys i)
  where
    by : In k xs ⊎ In k ys → In k (xs ++ zs)
    by (inl h) = in_first xs zs h
    by (inr h) = in_rest xs zs (up h)

-- what the globals among properties refer to is among what all refer to
globals_in : {k : ℕ} (ps : Props) → In k (props_links (made_globals ps)) → In k (props_links ps)
globals_in [] i = i
globals_in {k = k} (p ∷ ps) i = by (names_global p.0) i (globals_in ps)
  where
    by : (b : Bool) → In k (props_links (if b then made_globals ps else (p ∷ made_globals ps)))
        → (In k (props_links (made_globals ps)) → In k (props_links ps)) → In k (props_links (p ∷ ps))
    by true h later = in_rest (value_links p.1.value) (props_links ps) (later h)
    by false h later = in_joined (value_links p.1.value) (props_links (made_globals ps)) (props_links ps) later h

-- the global object is built in
some_built_in : window.0 ≤ built_in_count
some_built_in = omega arith

-- ---- what nodes and timers refer to

nodes_named : {W : World} (objects : List ObjId) → ((a b : NodeId) → Linked W a.0 b.0 → Named W (object_of_node objects a).0 (object_of_node objects b).0)
    → (as' bs : List NodeId) → Each (NodeIds (Linked W)) as' bs → Each (Named W) (nodes_links objects as') (nodes_links objects bs)
nodes_named objects names _ _ no_more = no_more
nodes_named objects names (a ∷ as') (b ∷ bs) (each h hs) = each (names a b h.linked) (nodes_named objects names as' bs hs)

calls_named : {W : World} {ls ms : List Listener} → Each (ListenerRel W) ls ms → Each (Named W) (calls_links ls) (calls_links ms)
calls_named no_more = no_more
calls_named (each h hs) = each h.call (calls_named hs)

timers_named : {W : World} {c : Clocks} {ts us : List Live} → Each (TimerRel (Named W) c) ts us → Each (Named W) (timers_links ts) (timers_links us)
timers_named no_more = no_more
timers_named (each h hs) = each h.call (timers_named hs)

-- ---- what needed variables hold

module _ {W : World} {s : Store} (g : StoreRel W s s) (closed : W.opens ≡ false) (none_rebuilt : W.bases ≡ []) where
  needed_named : {c : tree.Code} {env : Option EnvId} (j : ℕ) → Named W j j → (object_at s.heap.objects j).class ≡ class.Page c env
      → (xs : List (List ℕ)) (k : ℕ) → In k (needs_links (bound_values s env xs)) → Named W k k
  needed_named j n is [] k i = elim i [ ]
  needed_named {env = env} j n is (x ∷ xs) k i =
      by (look_in s.heap.environments env x) refl (needed_named j n is xs k) (either (value_links (bound_value s env x)) (needs_links (bound_values s env xs)) i)
    where
      by : (o : Option (EnvId × Value)) → look_in s.heap.environments env x ≡ o
          → (In k (needs_links (bound_values s env xs)) → Named W k k)
          → In k (value_links (unwrap_or (option_map (λ found. found.1) o) Undefined)) ⊎ In k (needs_links (bound_values s env xs)) → Named W k k
      by o at later (inr h) = later h
      by None at later (inl h) = elim h [ ]
      by (Some found) at later (inl h) = bound_read g closed none_rebuilt n is x found at k h

  -- ---- what nodes refer to

  parent_named : {o p : Option NodeId} → Maybe (NodeIds (Linked W)) o p → Each (Named W) (parent_links s.host.objects o) (parent_links s.host.objects p)
  parent_named none = no_more
  parent_named (some {a = a} {b = b} h) = each (g.host.objects a b h.linked) no_more

  -- the objects of the parent and of the children, and the functions of listeners
  node_named : (a b : NodeId) → Linked W a.0 b.0 → Each (Named W) (node_links s.host a) (node_links s.host b)
  node_named a b l =
      let r : NodeRel (Linked W) (node_at s.host.nodes a.0) (node_at s.host.nodes b.0) = g.host.nodes.at a.0 b.0 l in
      heap.each_append (parent_named r.parent)
      (heap.each_append (nodes_named s.host.objects g.host.objects (children_at s.host.nodes a.0) (children_at s.host.nodes b.0) r.children) (calls_named (g.host.listeners a.0 b.0 l)))

  target_named : {p q : EventParts} → EventRel (named W) p q → Each (Named W) (proto_links p.target) (proto_links q.target)
  target_named h = by h.target
    where
      by : {o p : Option ObjId} → Maybe (ObjectIds (named W)) o p → Each (Named W) (proto_links o) (proto_links p)
      by none = no_more
      by (some x) = each x.linked no_more

  host_named : {c d : Class} → ClassRel (named W) c d → Each (Named W) (host_links s.host c) (host_links s.host d)
  host_named plain = no_more
  host_named array = no_more
  host_named (page h) = no_more
  host_named native = no_more
  host_named (bound n h hs) = no_more
  host_named fault = no_more
  host_named math = no_more
  host_named related.window = no_more
  host_named (node {m = a} {n = b} l) = node_named a b l
  host_named (event h) = target_named h

  with_itself : (ks : List ℕ) → Each (Named W) ks ks → (k : ℕ) → In k ks → Named W k k
  with_itself [] r k i = elim i [ ]
  with_itself (j ∷ ks) (each h hs) _ here = h
  with_itself (j ∷ ks) (each h hs) k (there i) = with_itself ks hs k i

  -- ---- what can be reached

  class_named : (j : ℕ) → Named W j j → (d : Class) → (object_at s.heap.objects j).class ≡ d → (k : ℕ) → In k (class_links s d)
      → (In k (parts_links d) → Named W k k) → Named W k k
  class_named j n (class.Page c env) is k i parts = needed_named j n is (needed_variables c) k i
  class_named j n (class.Bound target this args) is k i parts = parts i
  class_named j n d is k i parts = elim i [ ]

  link_named : (j : ℕ) → Named W j j → (k : ℕ) → In k (links s j) → Named W k k
  link_named j n k i =
      by_part (either (proto_links o.proto) (class_links s o.class ++ (host_links s.host o.class ++ props_links o.props)) i)
    where
      o : Object
      o = object_at s.heap.objects j

      made : In k (made_links o) → Named W k k
      made h = linked_read g n k (in_first (made_links o) (event_links o.class ++ props_links o.props) h)

      by_end : In k (host_links s.host o.class) ⊎ In k (props_links o.props) → Named W k k
      by_end (inl h) = with_itself (host_links s.host o.class) (host_named (heap.class_read g.heap n)) k h
      by_end (inr h) = linked_read g n k (in_rest (made_links o) (event_links o.class ++ props_links o.props) (in_rest (event_links o.class) (props_links o.props) h))

      by_rest : In k (class_links s o.class) ⊎ In k (host_links s.host o.class ++ props_links o.props) → Named W k k
      by_rest (inl h) = class_named j n o.class refl k h (λ p. made (in_rest (proto_links o.proto) (parts_links o.class) p))
      by_rest (inr h) = by_end (either (host_links s.host o.class) (props_links o.props) h)

      by_part : In k (proto_links o.proto) ⊎ In k (class_links s o.class ++ (host_links s.host o.class ++ props_links o.props)) → Named W k k
      by_part (inl h) = made (in_first (proto_links o.proto) (parts_links o.class) h)
      by_part (inr h) = by_rest (either (class_links s o.class) (host_links s.host o.class ++ props_links o.props) h)

  globals_named : (k : ℕ) → In k (props_links (globals_of s)) → Named W k k
  globals_named k i =
      let o = object_at s.heap.objects window.0 in
      let own : In k (props_links o.props) = globals_in o.props i in
      linked_read g (g.built_ins window.0 some_built_in) k (in_rest (made_links o) (event_links o.class ++ props_links o.props) (in_rest (event_links o.class) (props_links o.props) own))

  root_named : (k : ℕ) → In k (roots s) → Named W k k
  root_named k i = by_part (either (props_links (globals_of s)) (links s document.0 ++ timers_links s.host.timers) i)
    where
      by_rest : In k (links s document.0) ⊎ In k (timers_links s.host.timers) → Named W k k
      by_rest (inl h) = link_named document.0 (g.built_ins document.0 (omega arith)) k h
      by_rest (inr h) = with_itself (timers_links s.host.timers) (timers_named g.host.timers) k h

      by_part : In k (props_links (globals_of s)) ⊎ In k (links s document.0 ++ timers_links s.host.timers) → Named W k k
      by_part (inl h) = globals_named k h
      by_part (inr h) = by_rest (either (links s document.0) (timers_links s.host.timers) h)

  pub reached_named : (k : ℕ) → Reach s k → Named W k k
  reached_named k (root thing i) = root_named k (found_in k (roots s) i)
  reached_named k (link {j = j} r thing i) = link_named j (reached_named j r) k (found_in k (links s j) i)
