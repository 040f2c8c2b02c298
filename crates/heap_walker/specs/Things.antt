-- What a moved page has to bring along: what each thing refers to, and what can still be reached.
use Rattle.std.specs.Prelude.{ℕ, Bool, List, [], ◌∷◌, ◌++◌, Option, Some, None, filter, nat_eq, unwrap_or, IsTrue, if◌then◌else◌}
use Rattle.std.specs.List.{list_any}
use Rattle.std.specs.List.Sorted.{IsStrictlyIncreasing}
use Rattle.std.specs.Option.{option_map}
use Rattle.dom_tree.specs.Node.{children_at, parent_at}
use Rattle.global_names.specs.Names.{names_global}
use Rattle.js_core.specs.Tree as tree
use Rattle.js_values.specs.declared.ids.EnvId.{EnvId}
use Rattle.js_values.specs.declared.ids.NodeId.{NodeId}
use Rattle.js_values.specs.declared.ids.ObjId.{ObjId}
use Rattle.js_values.specs.declared.value.Value.{Value}
use Rattle.js_values.specs.declared.value.Value.TheVariants.{Undefined}
use Rattle.object_heap.specs.Chain.{object_at}
use Rattle.object_heap.specs.Heap.{look_in}
use Rattle.object_heap.specs.Object.{Object}
use Rattle.object_heap.specs.Property.{Props}
use Rattle.object_heap.specs.declared.object.Class.{Class}
use Rattle.object_heap.specs.declared.object.Class.TheVariants.{Bound, Event, Node, Page}
use Rattle.page_host.specs.Host.{Host, object_of_node}
use Rattle.page_host.specs.declared.listener.Listener.{Listener}
use Rattle.timer_queue.specs.declared.timer.Live.{Live}
use Rattle.object_shapes.specs.Links.{is_thing, props_links, proto_links, value_links, values_links}
use Rattle.page_meaning.specs.Places.{document, window}
use Rattle.page_meaning.specs.Store.{Store}
use Rattle.scope_analysis.specs.Needs.{needed_variables}

-- ---- what an object refers to

-- the value of a name in the environments of a function (10.2.2.1), undefined where none has it
abbrev pub bound_value : Store → Option EnvId → List ℕ → Value
bound_value s env x = unwrap_or (option_map (λ found. found.1) (look_in s.heap.environments env x)) Undefined

-- names with their values in the environments of a function
abbrev pub bound_values : Store → Option EnvId → List (List ℕ) → List (List ℕ × Value)
bound_values s env [] = []
bound_values s env (x ∷ xs) = (x, bound_value s env x) ∷ bound_values s env xs

-- the variables that a function needs from the scopes round it
abbrev pub needs_of : Store → Option EnvId → tree.Code → List (List ℕ × Value)
needs_of s env c = bound_values s env (needed_variables c)

abbrev pub needs_links : List (List ℕ × Value) → List ℕ
needs_links [] = []
needs_links (n ∷ ns) = value_links n.1 ++ needs_links ns

-- a function of a page refers to what its needed variables hold, a bound function to its target, its `this` and its arguments
abbrev pub class_links : Store → Class → List ℕ
class_links s (Page c env) = needs_links (needs_of s env c)
class_links s (Bound target this args) = target.0 ∷ (value_links this ++ values_links args)
class_links s c = []

-- ---- what nodes and events refer to

-- the objects of these nodes
abbrev pub nodes_links : List ObjId → List NodeId → List ℕ
nodes_links objects [] = []
nodes_links objects (k ∷ ks) = (object_of_node objects k).0 ∷ nodes_links objects ks

abbrev pub parent_links : List ObjId → Option NodeId → List ℕ
parent_links objects None = []
parent_links objects (Some p) = (object_of_node objects p).0 ∷ []

-- the listeners of the node at the place, in the order in which they were added
abbrev pub heard_at : ℕ → List Listener → List Listener
heard_at k ls = filter (λ l. nat_eq k l.node.0) ls

abbrev pub calls_links : List Listener → List ℕ
calls_links [] = []
calls_links (l ∷ ls) = l.call.0 ∷ calls_links ls

-- a node refers to its parent, its children and the functions of its listeners
abbrev pub node_links : Host → NodeId → List ℕ
node_links h k =
    parent_links h.objects (parent_at h.nodes k.0)
    ++ (nodes_links h.objects (children_at h.nodes k.0) ++ calls_links (heard_at k.0 h.listeners))

-- an event refers to its target. All of these may be younger
abbrev pub host_links : Host → Class → List ℕ
host_links h (Node k) = node_links h k
host_links h (Event parts) = proto_links parts.target
host_links h c = []

-- ---- what any object refers to

abbrev pub links_of : Store → Object → List ℕ
links_of s o = proto_links o.proto ++ (class_links s o.class ++ (host_links s.host o.class ++ props_links o.props))

abbrev pub links : Store → ℕ → List ℕ
links s k = links_of s (object_at s.heap.objects k)

-- those of these properties that have no built-in global name
abbrev pub made_globals : Props → Props
made_globals [] = []
made_globals (e ∷ es) = if names_global e.0 then made_globals es else (e ∷ made_globals es)

-- the own properties of the global object that scripts made, by name: a built-in name is none of them, whenever it came
abbrev pub globals_of : Store → Props
globals_of s = made_globals (object_at s.heap.objects window.0).props

-- the functions of timers
abbrev pub timers_links : List Live → List ℕ
timers_links [] = []
timers_links (t ∷ ts) = t.call.0 ∷ timers_links ts

-- the document, which is no thing, is there as globals are, and so are timers
abbrev pub roots : Store → List ℕ
roots s = props_links (globals_of s) ++ (links s document.0 ++ timers_links s.host.timers)

-- ---- what can be reached

abbrev pub is_in : ℕ → List ℕ → Bool
is_in k ks = list_any (nat_eq k) ks

-- the reachable things: those that globals, the document and timers refer to, and those that reachable things refer to
pub data Reach (s : Store) : ℕ → Type 0 where
  root : {k : ℕ} → IsTrue (is_thing s k) → IsTrue (is_in k (roots s)) → Reach s k
  link : {j k : ℕ} → Reach s j → IsTrue (is_thing s k) → IsTrue (is_in k (links s j)) → Reach s k

-- each reachable thing once, oldest first
pub record IsWalk (s : Store) (ks : List ℕ) : Type 0 where
  pub rising : IsStrictlyIncreasing ks
  pub sound : (k : ℕ) → IsTrue (is_in k ks) → Reach s k
  pub complete : (k : ℕ) → Reach s k → IsTrue (is_in k ks)
