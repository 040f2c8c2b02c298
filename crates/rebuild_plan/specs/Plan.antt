-- The statements that rebuild a page, phase by phase: the things are made in the order of their numbers; nodes get their children, then
-- their attributes and set values; events are initialised and dispatched; listeners are added; all properties are defined in their
-- order; timers are started; and last come those that get no new properties.
use Rattle.std.specs.Prelude.{ℕ, zero, suc, ◌+◌, Bool, true, false, ◌&&◌, List, [], ◌∷◌, ◌++◌, Option, Some, None, bytes_eq, if◌then◌else◌}
use Rattle.dom_tree.specs.Attributes.{Pairs}
use Rattle.js_values.specs.declared.ids.ObjId.{ObjId}
use Rattle.object_heap.specs.Define.{length_name}
use Rattle.object_heap.specs.Function.{prototype_name}
use Rattle.object_heap.specs.Property.{Props, own_property}
use Rattle.object_heap.specs.declared.property.Prop.{Prop}
use Rattle.heap_walker.specs.Weight.{greatest}
use Rattle.page_meaning.specs.Places.{document, window}
use Rattle.timer_queue.specs.Timers.{is_live}
use Rattle.timer_queue.specs.declared.timer.Live.{Live}
use Rattle.rebuild_plan.specs.Compact.{Compact, Thing, first_thing}
use Rattle.rebuild_plan.specs.Events.{SavedEvent}
use Rattle.rebuild_plan.specs.Nodes.{SavedListener}
use Rattle.rebuild_plan.specs.declared.phase.Phase.{Phase}
use Rattle.rebuild_plan.specs.declared.phase.Phase.TheVariants as phase
use Rattle.rebuild_plan.specs.declared.statement.Maker.{Maker}
use Rattle.rebuild_plan.specs.declared.statement.Maker.TheVariants.{List as Array, Func, Bind}
use Rattle.rebuild_plan.specs.declared.statement.Rebuild.{Rebuild}
use Rattle.rebuild_plan.specs.declared.statement.Rebuild.TheVariants.{Make, Append, Attribute, SetValue, Init, Dispatch, Listen, Define, DefinePrototype, DefineLength, Filler, Clear, Timeout, Interval, Prevent}

-- the place of a thing
abbrev pub thing_place : ℕ → ObjId
thing_place n = record { 0 = first_thing + n }

-- n: the first thing's number
abbrev pub makes : ℕ → List Thing → List Rebuild
makes n [] = []
makes n (t ∷ ts) = Make n t.maker ∷ makes (suc n) ts

-- ---- nodes

-- the children of the node at the place
abbrev pub appends : ObjId → List ObjId → List Rebuild
appends at [] = []
appends at (c ∷ cs) = Append at c ∷ appends at cs

abbrev pub attributes : ObjId → Pairs → List Rebuild
attributes at [] = []
attributes at (a ∷ as') = Attribute at a.0 a.1 ∷ attributes at as'

abbrev pub set_value : ObjId → Option (List ℕ) → List Rebuild
set_value at None = []
set_value at (Some text) = SetValue at text ∷ []

abbrev pub listens : ObjId → List SavedListener → List Rebuild
listens at [] = []
listens at (l ∷ ls) = Listen at l.kind l.call l.capture ∷ listens at ls

-- ---- events

abbrev pub init : ObjId → SavedEvent → List Rebuild
init at e = if e.begun then Init at e.kind e.bubbles e.cancelable ∷ [] else []

-- no listener is there yet
abbrev pub dispatch : ObjId → Option ObjId → List Rebuild
dispatch at None = []
dispatch at (Some target) = Dispatch target at ∷ []

abbrev pub event : ObjId → Option SavedEvent → List Rebuild
event at None = []
event at (Some e) = init at e ++ dispatch at e.target

-- ---- properties

-- it is made with a `length`, which is not defined in its place
abbrev pub has_length : Maker → Bool
has_length Array = true
has_length (Func c needs) = true
has_length (Bind target this args) = true
has_length m = false

-- it is made with a `prototype`, of which the value and whether it is writable may be others by now
abbrev pub has_prototype : Maker → Bool
has_prototype (Func c needs) = true
has_prototype m = false

-- how a property is defined of an object that is made with a `length` or not, and with a `prototype` or not
abbrev pub define : Bool → Bool → ObjId → List ℕ → Prop → List Rebuild
define length prototype at name p =
    if length && bytes_eq name length_name then []
    else (if prototype && bytes_eq name prototype_name then DefinePrototype at p.value p.writable ∷ [] else Define at name p ∷ [])

abbrev pub defines : Bool → Bool → ObjId → Props → List Rebuild
defines length prototype at [] = []
defines length prototype at (e ∷ es) = define length prototype at e.0 e.1 ++ defines length prototype at es

-- an array's length comes after its other properties
abbrev pub define_length : Maker → ObjId → Option Prop → List Rebuild
define_length Array at (Some p) = DefineLength at p.value p.writable ∷ []
define_length m at p = []

abbrev pub fill : ObjId → Thing → List Rebuild
fill at t = defines (has_length t.maker) (has_prototype t.maker) at t.props ++ define_length t.maker at (own_property t.props length_name)

abbrev pub prevent : ObjId → Thing → List Rebuild
prevent at t = if t.extensible then [] else Prevent at ∷ []

-- ---- timers

-- timers with the ids from 1 on, so many
abbrev pub fillers : ℕ → List Rebuild
fillers zero = []
fillers (suc n) = Filler ∷ fillers n

abbrev pub start : Live → Option ℕ → Rebuild
start t None = Timeout t.call t.due
start t (Some period) = Interval t.call t.due period

-- each in starting order gets its id, the only one of these that is not live then
abbrev pub starts : List Live → List Rebuild
starts [] = []
starts (t ∷ ts) = Clear t.id ∷ start t t.period ∷ starts ts

-- so many ids from this one on, as far as they are not live
abbrev pub clears : ℕ → ℕ → List Live → List Rebuild
clears zero id ts = []
clears (suc n) id ts = (if is_live ts id then [] else Clear id ∷ []) ++ clears n (id + 1) ts

abbrev pub timers : List Live → List Rebuild
timers ts = fillers (greatest ts) ++ (starts ts ++ clears (greatest ts) 1 ts)

-- ---- the plan

-- the statements of a phase for one object
abbrev pub statements_of : Phase → ObjId → Thing → List Rebuild
statements_of phase.Children at t = appends at t.node.children
statements_of phase.Contents at t = attributes at t.node.attributes ++ set_value at t.node.value
statements_of phase.Events at t = event at t.event
statements_of phase.Listeners at t = listens at t.node.listeners
statements_of phase.Properties at t = fill at t
statements_of phase.Ends at t = prevent at t

-- for each thing. n: the first one's number
abbrev pub each : Phase → ℕ → List Thing → List Rebuild
each p n [] = []
each p n (t ∷ ts) = statements_of p (thing_place n) t ++ each p (suc n) ts

-- the document comes first
abbrev pub whole : Phase → Compact → List Rebuild
whole p c = statements_of p document c.document ++ each p 0 c.things

abbrev pub plan : Compact → List Rebuild
plan c =
    makes 0 c.things
    ++ (whole phase.Children c
    ++ (whole phase.Contents c
    ++ (whole phase.Events c
    ++ (whole phase.Listeners c
    ++ (defines false false window c.globals
    ++ (whole phase.Properties c
    ++ (timers c.timers
    ++ whole phase.Ends c)))))))
