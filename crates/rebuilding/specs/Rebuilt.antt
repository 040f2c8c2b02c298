-- That the statements of a plan can run one after another, and what they leave: the page that was saved, with its things at their sites.
use Rattle.std.specs.Prelude.{◌≡◌, ℕ, ◌<◌, true, false, List, [], ◌∷◌, ◌++◌, Option, Some, None, is_some, length, slice_index_or, ⊤}
use Rattle.std.specs.Option.{option_map}
use Rattle.code_table.specs.Declarations.{name_of}
use Rattle.heap_walker.specs.Still.{Still}
use Rattle.dom_tree.specs.Node.{node_at, parent_at}
use Rattle.dom_tree.specs.declared.content.Kind.{Kind}
use Rattle.heap_walker.specs.Things.{IsWalk, globals_of, is_in, needs_of}
use Rattle.js_core.specs.Tree.{Code}
use Rattle.js_values.specs.declared.ids.EnvId.{EnvId}
use Rattle.js_values.specs.declared.ids.NodeId.{NodeId}
use Rattle.js_values.specs.declared.ids.ObjId.{ObjId}
use Rattle.js_values.specs.declared.value.Value.{Value}
use Rattle.object_heap.specs.Chain.{object_at}
use Rattle.object_heap.specs.Environment.{Environment}
use Rattle.object_heap.specs.Heap.{Contents}
use Rattle.object_heap.specs.Object.{Object}
use Rattle.object_heap.specs.declared.object.Class.{Class}
use Rattle.object_heap.specs.declared.object.Class.TheVariants as class
use Rattle.object_heap.specs.declared.object.EventParts.{EventParts}
use Rattle.timer_queue.specs.declared.timer.Live.{Live}
use Rattle.page_host.specs.Host.{Host, object_of_node}
use Rattle.page_meaning.specs.Places.{at_place, document, window}
use Rattle.page_meaning.specs.Store.{Store}
use Rattle.page_writer.specs.Literals.{HaveLiterals}
use Rattle.rebuild_plan.specs.Compact.{compact, moved, moved_needs, moved_proto, moved_props, moved_value, moved_values}
use Rattle.rebuild_plan.specs.Events.{SavedEvent, event_as}
use Rattle.rebuild_plan.specs.Nodes.{SavedListener, SavedNode, node_as}
use Rattle.rebuild_plan.specs.Plan.{plan}
use Rattle.rebuild_plan.specs.Timers.{moved_timers}
use Rattle.rebuild_plan.specs.declared.statement.Rebuild.{Rebuild}
use Rattle.rebuilding.specs.Running.{CanRun, HasRun}
use Rattle.rebuilding.specs.Scene.{IsCleared, IsHosting, IsRoundOf, IsRunning, Scene}
use Rattle.rebuilding.specs.Sites.{sited, sited_needs, sited_proto, sited_props, sited_value, sited_values}
use Rattle.object_shapes.specs.Shapes.{built_in_at}

-- ---- one statement after another

-- each can run once those before it have, and they lead to this end
abbrev pub Succeeds : Scene → (Contents → Host → List ℕ → Type 0) → Contents → Host → List ℕ → List Rebuild → Type 0
Succeeds c End h g sites [] = End h g sites
Succeeds c End h g sites (r ∷ rs) =
    CanRun h g sites r
    × ((i : Contents) (j : Host) (after : List ℕ) → IsRunning c i after → IsHosting i j → HasRun c h g i j sites after r → Succeeds c End i j after rs)

-- ---- the page that they leave

-- the class of a thing. Functions stand in environments of their own, which bind what they need
pub data ClassIsRebuilt (c : Scene) (es : List Environment) (s : Store) (things sites : List ℕ) (k : ℕ) : Class → Class → Type 0 where
  plain : ClassIsRebuilt c es s things sites k class.Plain class.Plain
  list : ClassIsRebuilt c es s things sites k class.List class.List
  fault : ClassIsRebuilt c es s things sites k class.Fault class.Fault
  page : {code : Code} {env round : Option EnvId}
      → IsRoundOf c es k (sited_needs sites (moved_needs things (needs_of s env code))) (name_of code) round
      → ClassIsRebuilt c es s things sites k (class.Page code env) (class.Page code round)
  bound : {target : ObjId} {this : Value} {args : List Value}
      → ClassIsRebuilt c es s things sites k (class.Bound target this args)
      (class.Bound (sited sites (moved things target)) (sited_value sites (moved_value things this)) (sited_values sites (moved_values things args)))
  node : {a b : NodeId} → ClassIsRebuilt c es s things sites k (class.Node a) (class.Node b)
  event : {a b : EventParts} → ClassIsRebuilt c es s things sites k (class.Event a) (class.Event b)

-- what a plan names by these places stands there
abbrev pub sited_ids : List ℕ → List ObjId → List ObjId
sited_ids sites [] = []
sited_ids sites (k ∷ ks) = sited sites k ∷ sited_ids sites ks

abbrev pub sited_listeners : List ℕ → List SavedListener → List SavedListener
sited_listeners sites [] = []
sited_listeners sites (l ∷ ls) = record { kind = l.kind; call = sited sites l.call; capture = l.capture } ∷ sited_listeners sites ls

abbrev pub sited_node : List ℕ → SavedNode → SavedNode
sited_node sites n = record {
  attributes = n.attributes;
  value = n.value;
  children = sited_ids sites n.children;
  listeners = sited_listeners sites n.listeners;
}

abbrev pub sited_event : List ℕ → SavedEvent → SavedEvent
sited_event sites e = record { kind = e.kind; bubbles = e.bubbles; cancelable = e.cancelable; begun = e.begun; target = sited_proto sites e.target }

abbrev pub sited_timers : List ℕ → List Live → List Live
sited_timers sites [] = []
sited_timers sites (t ∷ ts) = record { id = t.id; due = t.due; period = t.period; call = sited sites t.call } ∷ sited_timers sites ts

-- of an object that is no node, none
abbrev pub kind_as : Host → Class → Option Kind
kind_as g (class.Node k) = Some (node_at g.nodes k.0).content.kind
kind_as g c = None

-- the object at the place is the node's own
abbrev pub IsOwned : Host → ℕ → Class → Type 0
IsOwned g k (class.Node n) = (n.0 < length g.nodes) × (object_of_node g.objects n ≡ at_place k)
IsOwned g k c = ⊤

-- an event was dispatched where it has a target, and is not under dispatch
abbrev pub IsRested : Class → Type 0
IsRested (class.Event parts) = (parts.sent ≡ is_some parts.target) × (parts.current ≡ None) × (parts.phase ≡ 0)
IsRested c = ⊤

-- a node has the kind, the children, the attributes, the value and the listeners of the thing; an event its parts. No list of things: no place moves
pub record HostIsRebuilt (s : Store) (things : List ℕ) (g : Host) (sites : List ℕ) (k : ℕ) (thing o : Object) : Type 0 where
  pub node : node_as g [] o.class ≡ sited_node sites (node_as s.host things thing.class)
  pub event : event_as [] o.class ≡ option_map (sited_event sites) (event_as things thing.class)
  pub kind : kind_as g o.class ≡ kind_as s.host thing.class
  pub own : IsOwned g k o.class
  pub rested : IsRested o.class

-- the object at the place is the thing, with the sites of what it refers to
pub record IsRebuiltAs (c : Scene) (es : List Environment) (s : Store) (things sites : List ℕ) (k : ℕ) (thing o : Object) : Type 0 where
  pub class : ClassIsRebuilt c es s things sites k thing.class o.class
  pub proto : o.proto ≡ sited_proto sites (moved_proto things thing.proto)
  pub extensible : o.extensible ≡ thing.extensible
  pub closed : o.closed ≡ false
  pub props : o.props ≡ sited_props sites (moved_props things thing.props)

-- the document has no built-in names of its own
pub record DocumentIsRebuilt (s : Store) (things : List ℕ) (g : Host) (sites : List ℕ) (thing o : Object) : Type 0 where
  pub host : HostIsRebuilt s things g sites document.0 thing o
  pub extensible : o.extensible ≡ thing.extensible
  pub closed : o.closed ≡ false
  pub props : o.props ≡ sited_props sites (moved_props things thing.props)

abbrev pub nth : List ℕ → ℕ → ℕ
nth ks n = slice_index_or ks n 0

pub record IsRebuilt (c : Scene) (s : Store) (things : List ℕ) (h : Contents) (g : Host) (sites : List ℕ) : Type 0 where
  pub running : IsRunning c h sites
  pub hosting : IsHosting h g
  pub count : length sites ≡ length things
  pub each : (n : ℕ) → n < length things
      → IsRebuiltAs c h.environments s things sites (nth sites n) (object_at s.heap.objects (nth things n)) (object_at h.objects (nth sites n))
  pub hosted : (n : ℕ) → n < length things
      → HostIsRebuilt s things g sites (nth sites n) (object_at s.heap.objects (nth things n)) (object_at h.objects (nth sites n))
  -- no node beside them has one of them for a child
  pub parents : (k p : NodeId) → is_in (object_of_node g.objects k).0 sites ≡ true → parent_at g.nodes k.0 ≡ Some p
      → is_in (object_of_node g.objects p).0 (document.0 ∷ sites) ≡ true
  pub document : DocumentIsRebuilt s things g sites (object_at s.heap.objects document.0) (object_at h.objects document.0)
  pub globals : (object_at h.objects window.0).props ≡ (built_in_at window.0).props ++ sited_props sites (moved_props things (globals_of s))
  -- the clock is at 0, so what is left of a timer's time is when it is due
  pub timers : g.timers ≡ sited_timers sites (moved_timers things s.host.clock s.host.timers)

-- ---- the law

-- what the second line leaves: neither the global object nor the document has properties of scripts
pub record IsFresh (c : Scene) (h : Contents) (g : Host) : Type 0 where
  pub running : IsRunning c h []
  pub cleared : IsCleared h g
  pub globals : (object_at h.objects window.0).props ≡ (built_in_at window.0).props
  pub document_props : (object_at h.objects document.0).props ≡ []
  pub document_extensible : (object_at h.objects document.0).extensible ≡ true
  pub document_open : (object_at h.objects document.0).closed ≡ false
  -- and its object is that of its node
  pub own : IsOwned g document.0 (object_at h.objects document.0).class

-- a page at rest is rebuilt by its plan
abbrev pub PlansRebuild : Type 0
PlansRebuild =
    (c : Scene) (s : Store) (things : List ℕ) (h : Contents) (g : Host) → Still s → IsWalk s things → HaveLiterals (plan (compact s things))
    → length things < 4294967295 → IsFresh c h g → Succeeds c (IsRebuilt c s things) h g [] (plan (compact s things))
