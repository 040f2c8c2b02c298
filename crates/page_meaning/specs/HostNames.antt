-- Meaning: the host names of objects (DOM Level 2 Core and Events), which nodes and events answer themselves, and what they read there.
use Rattle.std.specs.Prelude.{ℕ, pos, ◌%◌, Bool, false, ◌||◌, List, Option, Some, None, option_map, Result, Ok, if◌then◌else◌}
use Rattle.js_core.specs.Text.{Text}
use Rattle.js_values.specs.declared.ids.ObjId.{ObjId}
use Rattle.js_values.specs.declared.throw.Throw.{Throw}
use Rattle.js_values.specs.declared.value.Value.{Value}
use Rattle.js_values.specs.declared.value.Value.TheVariants as value
use Rattle.dom_tree.specs.Node.{Nodes}
use Rattle.object_heap.specs.declared.object.Class.{Class}
use Rattle.object_heap.specs.declared.object.Class.TheVariants.{Node, Event}
use Rattle.object_heap.specs.declared.object.EventParts.{EventParts}
use Rattle.object_heap.specs.declared.property.Prop.{Prop}
use Rattle.object_heap.specs.Chain.{found}
use Rattle.object_heap.specs.Object.{Object}
use Rattle.object_heap.specs.Property.{own_property}
use Rattle.page_host.specs.declared.host_name.HostName.{HostName}
use Rattle.page_host.specs.declared.host_name.HostName.TheVariants.{EventType, Target, CurrentTarget, EventPhase, Bubbles, Cancelable, TimeStamp}
use Rattle.page_host.specs.Host.{Host}
use Rattle.page_host.specs.HostNames.{event_has, has_at_node, host_name, is_handler, node_reads}

-- whether an object of the class has it
abbrev pub has_host_name : Nodes → Class → HostName → Bool
has_host_name t (Node k) n = has_at_node t k n
has_host_name t (Event parts) n = event_has n
has_host_name t class n = false

abbrev pub has_named_host : Nodes → Class → Option HostName → Bool
has_named_host t class None = false
has_named_host t class (Some n) = has_host_name t class n

-- nothing may be put or defined there: a host name of its own, and a handler of a node
abbrev pub is_kept : Nodes → Class → Text → Bool
is_kept t (Node k) x = is_handler x || has_named_host t (Node k) (host_name x)
is_kept t (Event parts) x = has_named_host t (Event parts) (host_name x)
is_kept t class x = false

-- what a chain of prototypes shows first of a host name: a property, or an object of the class that has it
pub data Seen : Type 0 where
  held : Prop → Seen
  hosted : Class → Seen

abbrev pub see : Nodes → Text → HostName → Object → Option Seen
see t x n o = if has_host_name t o.class n then Some (hosted o.class) else option_map held (own_property o.props x)

abbrev pub seen_from : Host → List Object → ℕ → Text → HostName → Option Seen
seen_from h objects k x n = found (see h.nodes x n) objects k

-- ---- what they read

abbrev pub object_or_null : Option ObjId → Value
object_or_null None = value.Null
object_or_null (Some at) = value.Object at

-- a phase is seen without the marks of stopped propagation and prevented default
abbrev pub event_reads : EventParts → HostName → Value
event_reads e EventType = value.Text e.kind
event_reads e Target = object_or_null e.target
event_reads e CurrentTarget = object_or_null e.current
event_reads e EventPhase = value.Num (Some (pos (e.phase % 4)))
event_reads e Bubbles = value.Bool e.bubbles
event_reads e Cancelable = value.Bool e.cancelable
event_reads e TimeStamp = value.Num (Some (pos 0))
event_reads e n = value.Undefined

abbrev pub host_reads : Host → Class → HostName → Result Value Throw
host_reads h (Node k) n = node_reads h k n
host_reads h (Event e) n = Ok (event_reads e n)
host_reads h class n = Ok value.Undefined
