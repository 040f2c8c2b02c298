-- What running a statement of a saved page does, where it can run. Objects and environments that are made beside do not matter, nor do
-- nodes.
use Rattle.std.specs.Prelude.{◌≡◌, ℕ, ◌+◌, ◌<◌, ◌≤◌, Bool, true, false, ◌&&◌, bytes_eq, nat_eq, nat_le, List, [], ◌∷◌, ◌++◌, Option, Some, None, is_some, codes, length, IsTrue, ⊤}
use Rattle.std.specs.List.{All}
use Rattle.heap_walker.specs.Things.{is_in}
use Rattle.code_table.specs.Declarations.{name_of}
use Rattle.js_core.specs.Tree.{Code}
use Rattle.js_values.specs.declared.built_in.BuiltIn.TheVariants.{FunctionPrototypeBind, Object as ObjectConstructor}
use Rattle.js_values.specs.declared.ids.EnvId.{EnvId}
use Rattle.js_values.specs.declared.ids.NodeId.{NodeId}
use Rattle.js_values.specs.declared.ids.ObjId.{ObjId}
use Rattle.js_values.specs.declared.value.Value.{Value}
use Rattle.js_values.specs.declared.value.Value.TheVariants.{Object as Reference}
use Rattle.object_heap.specs.Chain.{get, object_at}
use Rattle.object_heap.specs.Define.{define_own, length_name, number, prevented}
use Rattle.object_heap.specs.Environment.{Bound, environment_at}
use Rattle.object_heap.specs.Function.{prototype_name}
use Rattle.object_heap.specs.Heap.{Contents, new_object}
use Rattle.object_heap.specs.Object.{Object, changed_event, is_list, whole_object, with_class}
use Rattle.object_heap.specs.Property.{own_property}
use Rattle.object_heap.specs.declared.object.Class.{Class}
use Rattle.object_heap.specs.declared.object.Class.TheVariants as class
use Rattle.object_heap.specs.declared.object.EventParts.{EventParts}
use Rattle.object_heap.specs.declared.property.Change.{Change}
use Rattle.object_heap.specs.declared.property.Prop.{Prop}
use Rattle.dom_tree.specs.Change.{insertion_error}
use Rattle.dom_tree.specs.Name.{folded, is_folded_name, is_name}
use Rattle.dom_tree.specs.Node.{is_element, kind_at}
use Rattle.dom_tree.specs.Steps.{inserts, is_there, sets_attribute, sets_value}
use Rattle.dom_tree.specs.declared.content.Kind.TheVariants as kind
use Rattle.page_host.specs.Host.{Host, object_of_node}
use Rattle.page_host.specs.HostNames.{has_at_node, is_handler}
use Rattle.page_host.specs.Steps.{HostStep, after_host, clears, in_nodes, is_period, listens, starts, time_limit, with_new_node}
use Rattle.page_host.specs.declared.host_name.HostName.TheVariants.{Value as HasValue}
use Rattle.timer_queue.specs.Timers.{timer_limit}
use Rattle.page_meaning.specs.Act.{Ended, Outcome, nothing}
use Rattle.page_meaning.specs.Classes.{is_callable_class}
use Rattle.page_meaning.specs.Events.{after_event, begins, initialises, may_begin, rests}
use Rattle.page_meaning.specs.HostNames.{is_kept}
use Rattle.page_meaning.specs.NodeRows.{listener_of}
use Rattle.page_meaning.specs.Calls.{calls_at}
use Rattle.page_meaning.specs.Elements.{length_of}
use Rattle.page_meaning.specs.FunctionRows.{bound_object}
use Rattle.page_meaning.specs.Functions.{function_object}
use Rattle.page_meaning.specs.Places.{array_prototype, at_place, document, error_prototype, event_prototype, function_at, node_prototype, window}
use Rattle.page_meaning.specs.Properties.{is_function}
use Rattle.page_meaning.specs.Statements.{exec}
use Rattle.page_meaning.specs.Steps.{event_object}
use Rattle.page_meaning.specs.Store.{Store, with_both}
use Rattle.page_meaning.specs.declared.signal.Signal.{Signal}
use Rattle.page_writer.specs.Literals.{IsLiteral, maker_values}
use Rattle.page_writer.specs.Statements.{statement}
use Rattle.rebuild_plan.specs.Stands.{maker_names}
use Rattle.rebuild_plan.specs.declared.statement.Maker.{Maker}
use Rattle.rebuild_plan.specs.declared.statement.Maker.TheVariants.{Plain, List as Array, Fault, Func, Bind, Element, Text, Comment, Event}
use Rattle.rebuild_plan.specs.declared.statement.Rebuild.{Rebuild}
use Rattle.rebuild_plan.specs.declared.statement.Rebuild.TheVariants.{Make, Append, Attribute, SetValue, Init, Dispatch, Listen, Define, DefinePrototype, DefineLength, Filler, Clear, Timeout, Interval, Prevent}
use Rattle.rebuild_plan.specs.Moved.{first_thing}
use Rattle.rebuilding.specs.Scene.{IsHosting, IsRoundOf, IsRunning, Scene, inside, page_with}
use Rattle.rebuilding.specs.Sites.{site, sited, sited_needs, sited_proto, sited_value, sited_values}
use Rattle.object_shapes.specs.Shapes.{built_in_at}
use Rattle.object_shapes.specs.Links.{value_links, all_below}

-- ---- what is asked for

abbrev pub whole_change : List ℕ → Prop → Change
whole_change sites p = record { value = Some (sited_value sites p.value); writable = Some p.writable; enumerable = Some p.enumerable; configurable = Some p.configurable }

abbrev pub short_change : List ℕ → Value → Bool → Change
short_change sites v writable = record { value = Some (sited_value sites v); writable = Some writable; enumerable = None; configurable = None }

-- ---- when a statement can run

-- the object, and what the value refers to, stand
abbrev pub Stand : List ℕ → List ℕ → Type 0
Stand sites ks = IsTrue (all_below (first_thing + length sites) ks)

-- the object of the plan's place
abbrev pub object_here : Contents → List ℕ → ObjId → Object
object_here h sites at = object_at h.objects (site sites at.0)

-- it has no property of its own by this name
abbrev pub Lacks : Object → List ℕ → Type 0
Lacks o x = own_property o.props x ≡ None

-- what is bound is a function, which has `bind`; an element has a name; the document has its methods
abbrev pub CanMake : Contents → List ℕ → Maker → Type 0
CanMake h sites (Bind target this args) =
    IsTrue (is_function (Some (object_at h.objects (site sites target.0)).class))
    × (get h.objects (site sites target.0) (codes "bind") ≡ Some (Reference (function_at FunctionPrototypeBind)))
CanMake h sites (Element x) = (is_folded_name x ≡ true) × (folded x ≡ x) × Lacks (object_at h.objects document.0) (codes "createElement")
CanMake h sites (Text x) = Lacks (object_at h.objects document.0) (codes "createTextNode")
CanMake h sites (Comment x) = Lacks (object_at h.objects document.0) (codes "createComment")
CanMake h sites Event = Lacks (object_at h.objects document.0) (codes "createEvent")
CanMake h sites m = ⊤

-- the property of the object is defined so, where it is no array's length and no property that the global object begins with
pub record CanDefine (h : Contents) (g : Host) (sites : List ℕ) (at : ObjId) (name : List ℕ) (v : Value) (change : Change) : Type 0 where
  pub stands : Stand sites (at.0 ∷ value_links v)
  pub in_range : IsLiteral v
  pub other : is_list (object_at h.objects (site sites at.0)).class && bytes_eq name length_name ≡ false
  -- nodes and events keep some names
  pub free : is_kept g.nodes (object_here h sites at).class name ≡ false
  pub own : nat_eq at.0 window.0 && is_some (own_property (built_in_at window.0).props name) ≡ false
  pub defined : (define_own (object_at h.objects (site sites at.0)) name change).thrown ≡ None

-- the length is, which is this number
pub record CanDefineLength (h : Contents) (g : Host) (sites : List ℕ) (at : ObjId) (v : Value) (change : Change) : Type 0 where
  pub stands : Stand sites (at.0 ∷ [])
  pub count : ℕ
  pub is : v ≡ number count
  pub in_range : IsLiteral v
  pub free : is_kept g.nodes (object_here h sites at).class length_name ≡ false
  pub defined : (define_own (object_at h.objects (site sites at.0)) length_name change).thrown ≡ None

pub record CanBeMade (h : Contents) (sites : List ℕ) (n : ℕ) (m : Maker) : Type 0 where
  pub next : n ≡ length sites
  pub index : n < 4294967295
  pub stands : Stand sites (maker_names m)
  pub able : CanMake h sites m
  pub in_range : All IsLiteral (maker_values m)

pub record CanPrevent (h : Contents) (sites : List ℕ) (at : ObjId) : Type 0 where
  pub stands : Stand sites (at.0 ∷ [])
  pub done : (prevented (object_at h.objects (site sites at.0))).thrown ≡ None

-- ---- nodes

abbrev pub node_of_class : Class → NodeId
node_of_class (class.Node k) = k
node_of_class c = record { 0 = 0 }

-- the node of the plan's place
abbrev pub node_here : Contents → List ℕ → ObjId → NodeId
node_here h sites at = node_of_class (object_here h sites at).class

-- the object of the plan's place is that of a node which is there, with the methods of nodes
pub record IsNodeHere (h : Contents) (g : Host) (sites : List ℕ) (at : ObjId) : Type 0 where
  pub stands : Stand sites (at.0 ∷ [])
  pub proto : (object_here h sites at).proto ≡ Some node_prototype
  pub class : (object_here h sites at).class ≡ class.Node (node_here h sites at)
  pub there : is_there g.nodes (node_here h sites at) ≡ true
  pub own : object_of_node g.objects (node_here h sites at) ≡ sited sites at

pub record CanAppend (h : Contents) (g : Host) (sites : List ℕ) (at to : ObjId) : Type 0 where
  pub parent : IsNodeHere h g sites at
  pub child : IsNodeHere h g sites to
  pub lacks : Lacks (object_here h sites at) (codes "appendChild")
  pub fits : insertion_error g.nodes (node_here h sites at) (node_here h sites to) None ≡ None

pub record CanSetAttribute (h : Contents) (g : Host) (sites : List ℕ) (at : ObjId) (x : List ℕ) : Type 0 where
  pub is : IsNodeHere h g sites at
  pub lacks : Lacks (object_here h sites at) (codes "setAttribute")
  pub element : is_element (kind_at g.nodes (node_here h sites at).0) ≡ true
  pub plain : is_handler (folded x) ≡ false
  pub named : is_name x ≡ true

pub record CanSetValue (h : Contents) (g : Host) (sites : List ℕ) (at : ObjId) : Type 0 where
  pub is : IsNodeHere h g sites at
  pub has : has_at_node g.nodes (node_here h sites at) HasValue ≡ true

pub record CanListen (h : Contents) (g : Host) (sites : List ℕ) (at f : ObjId) : Type 0 where
  pub is : IsNodeHere h g sites at
  pub lacks : Lacks (object_here h sites at) (codes "addEventListener")
  pub stands : Stand sites (f.0 ∷ [])
  pub callable : is_callable_class (object_here h sites f).class ≡ true

-- ---- events

pub record CanInit (h : Contents) (sites : List ℕ) (at : ObjId) : Type 0 where
  pub parts : EventParts
  pub stands : Stand sites (at.0 ∷ [])
  pub proto : (object_here h sites at).proto ≡ Some event_prototype
  pub lacks : Lacks (object_here h sites at) (codes "initEvent")
  pub class : (object_here h sites at).class ≡ class.Event parts

-- an event that was initialised and is not under dispatch, at a node, where nobody listens
pub record CanDispatch (h : Contents) (g : Host) (sites : List ℕ) (at event : ObjId) : Type 0 where
  pub parts : EventParts
  pub is : IsNodeHere h g sites at
  pub lacks : Lacks (object_here h sites at) (codes "dispatchEvent")
  pub stands : Stand sites (event.0 ∷ [])
  pub class : (object_here h sites event).class ≡ class.Event parts
  pub may : may_begin parts ≡ true
  pub inside : parts.phase ≤ 3
  pub silent : g.listeners ≡ []

-- ---- timers

pub record CanStart (h : Contents) (g : Host) (k rest : ℕ) (period : Option ℕ) : Type 0 where
  pub callable : is_callable_class (object_at h.objects k).class ≡ true
  pub room : nat_le timer_limit (length g.timers) ≡ false
  pub rest_fits : rest ≤ time_limit
  pub period_fits : is_period period ≡ true

-- ----

abbrev pub CanRun : Contents → Host → List ℕ → Rebuild → Type 0
CanRun h g sites (Make n m) = CanBeMade h sites n m
CanRun h g sites (Append at to) = CanAppend h g sites at to
CanRun h g sites (Attribute at x v) = CanSetAttribute h g sites at x
CanRun h g sites (SetValue at text) = CanSetValue h g sites at
CanRun h g sites (Init at kind bubbles cancelable) = CanInit h sites at
CanRun h g sites (Dispatch at event) = CanDispatch h g sites at event
CanRun h g sites (Listen at kind call capture) = CanListen h g sites at call
CanRun h g sites (Define at x p) = CanDefine h g sites at x p.value (whole_change sites p)
CanRun h g sites (DefinePrototype at v writable) = CanDefine h g sites at prototype_name v (short_change sites v writable)
CanRun h g sites (DefineLength at v writable) = CanDefineLength h g sites at v (short_change sites v writable)
CanRun h g sites Filler = CanStart h g (function_at ObjectConstructor).0 0 None
CanRun h g sites (Clear id) = ⊤
CanRun h g sites (Timeout call rest) = Stand sites (call.0 ∷ []) × CanStart h g (site sites call.0) rest None
CanRun h g sites (Interval call rest period) = Stand sites (call.0 ∷ []) × CanStart h g (site sites call.0) rest (Some period)
CanRun h g sites (Prevent at) = CanPrevent h sites at

-- ---- what it does

-- what was there stays, but for the objects at these places
pub record Stays (h i : Contents) (but : List ℕ) : Type 0 where
  pub more : length h.objects ≤ length i.objects
  pub objects : (k : ℕ) → k < length h.objects → is_in k but ≡ false → object_at i.objects k ≡ object_at h.objects k
  pub more_environments : length h.environments ≤ length i.environments
  pub environments : (k : ℕ) → k < length h.environments → environment_at i.environments k ≡ environment_at h.environments k

-- a function of a page at the place, in the environments that bind what it needs and its name; it has a `prototype` of its own
pub record IsFunction (c : Scene) (i : Contents) (k : ℕ) (code : Code) (needs : Bound) (o : Object) : Type 0 where
  pub round : Option EnvId
  pub prototype : ℕ
  pub object : o ≡ function_object code round prototype
  pub is_round : IsRoundOf c i.environments k needs (name_of code) round

-- the object of the node that is made next
abbrev pub next_node : Host → Object
next_node g = new_object (class.Node (record { 0 = length g.nodes })) (Some node_prototype)

-- the object is what a maker makes of the page, at the place
abbrev pub IsMade : Scene → Contents → Host → Contents → List ℕ → ℕ → Maker → Object → Type 0
IsMade c h g i sites k (Plain proto) o = o ≡ new_object class.Plain (sited_proto sites proto)
IsMade c h g i sites k Array o = o ≡ new_object class.List (Some array_prototype)
IsMade c h g i sites k (Fault kind) o = o ≡ whole_object class.Fault (Some (error_prototype kind)) []
IsMade c h g i sites k (Func body needs) o = IsFunction c i k body (sited_needs sites needs) o
IsMade c h g i sites k (Bind target this args) o =
    o ≡ bound_object (sited sites target) (sited_value sites this) (sited_values sites args) (length_of (sited sites target) (page_with h g))
IsMade c h g i sites k (Element x) o = o ≡ next_node g
IsMade c h g i sites k (Text x) o = o ≡ next_node g
IsMade c h g i sites k (Comment x) o = o ≡ next_node g
IsMade c h g i sites k Event o = o ≡ event_object

-- the host with what is made, whose object is at the place
abbrev pub made_host : Host → Maker → ℕ → Host
made_host g (Element x) k = with_new_node g (kind.Element x) (at_place k)
made_host g (Text x) k = with_new_node g (kind.Text x) (at_place k)
made_host g (Comment x) k = with_new_node g (kind.Comment x) (at_place k)
made_host g m k = g

pub record HasMade (c : Scene) (h : Contents) (g : Host) (i : Contents) (j : Host) (sites after : List ℕ) (m : Maker) : Type 0 where
  pub place : ℕ
  pub joins : after ≡ sites ++ place ∷ []
  pub young : length h.objects ≤ place
  pub there : place < length i.objects
  pub object : IsMade c h g i sites place m (object_at i.objects place)
  pub host : j ≡ made_host g m place
  pub stays : Stays h i (c.list ∷ [])

-- the object at the place becomes another
pub record HasChanged (h : Contents) (g : Host) (i : Contents) (j : Host) (sites after : List ℕ) (k : ℕ) (o : Object) : Type 0 where
  pub same : after ≡ sites
  pub host : j ≡ g
  pub object : object_at i.objects k ≡ o
  pub stays : Stays h i (k ∷ [])

abbrev pub HasDefined : Contents → Host → Contents → Host → List ℕ → List ℕ → ObjId → List ℕ → Change → Type 0
HasDefined h g i j sites after at name change = HasChanged h g i j sites after (site sites at.0) (define_own (object_here h sites at) name change).after

-- the event has these parts afterwards
abbrev pub with_parts : Object → (EventParts → EventParts) → Object
with_parts o f = with_class o (changed_event f o.class)

-- the host alone takes a step
pub record HasHosted (h : Contents) (g : Host) (i : Contents) (j : Host) (sites after : List ℕ) (step : HostStep) : Type 0 where
  pub same : after ≡ sites
  pub heap : i ≡ h
  pub host : j ≡ after_host g step

abbrev pub HasRun : Scene → Contents → Host → Contents → Host → List ℕ → List ℕ → Rebuild → Type 0
HasRun c h g i j sites after (Make n m) = HasMade c h g i j sites after m
HasRun c h g i j sites after (Append at to) = HasHosted h g i j sites after (in_nodes (inserts (node_here h sites at) (node_here h sites to) None))
HasRun c h g i j sites after (Attribute at x v) = HasHosted h g i j sites after (in_nodes (sets_attribute (node_here h sites at) x v))
HasRun c h g i j sites after (SetValue at text) = HasHosted h g i j sites after (in_nodes (sets_value (node_here h sites at) text))
HasRun c h g i j sites after (Init at kind bubbles cancelable) =
    HasChanged h g i j sites after (site sites at.0) (with_parts (object_here h sites at) (after_event (initialises kind bubbles cancelable)))
HasRun c h g i j sites after (Dispatch at event) =
    HasChanged h g i j sites after (site sites event.0)
    (with_parts (object_here h sites event) (λ parts. after_event rests (after_event (begins (sited sites at)) parts)))
HasRun c h g i j sites after (Listen at kind call capture) =
    HasHosted h g i j sites after (listens (listener_of (node_here h sites at) kind (sited sites call) capture))
HasRun c h g i j sites after (Define at x p) = HasDefined h g i j sites after at x (whole_change sites p)
HasRun c h g i j sites after (DefinePrototype at v writable) = HasDefined h g i j sites after at prototype_name (short_change sites v writable)
HasRun c h g i j sites after (DefineLength at v writable) = HasDefined h g i j sites after at length_name (short_change sites v writable)
HasRun c h g i j sites after Filler = HasHosted h g i j sites after (starts 0 None (function_at ObjectConstructor))
HasRun c h g i j sites after (Clear id) = HasHosted h g i j sites after (clears id)
HasRun c h g i j sites after (Timeout call rest) = HasHosted h g i j sites after (starts rest None (sited sites call))
HasRun c h g i j sites after (Interval call rest period) = HasHosted h g i j sites after (starts rest (Some period) (sited sites call))
HasRun c h g i j sites after (Prevent at) = HasChanged h g i j sites after (site sites at.0) (prevented (object_here h sites at)).after

-- ---- the run

-- it ends by itself, with at most one step fewer, and puts out nothing
pub record Runs (c : Scene) (s : Store) (sites : List ℕ) (r : Rebuild) (n : ℕ) (out : Outcome Signal) : Type 0 where
  pub after : Contents
  pub host : Host
  pub new_sites : List ℕ
  pub left : ℕ
  pub steps : n ≤ left + 1
  pub ends : out ≡ Ended nothing (with_both s after host) left
  pub has_run : HasRun c s.heap s.host after host sites new_sites r
  pub running : IsRunning c after new_sites
  pub hosting : IsHosting after host

-- each statement that can run does, with a level of depth and a step left
abbrev pub StatementsRun : Type 0
StatementsRun =
    (c : Scene) (s : Store) (sites : List ℕ) (r : Rebuild) (depth n : ℕ) → IsRunning c s.heap sites → IsHosting s.heap s.host
    → CanRun s.heap s.host sites r → Runs c s sites r (n + 1) ((exec (calls_at (depth + 1)) (inside c) (statement r)).run s (n + 1))
