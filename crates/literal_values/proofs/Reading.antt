-- What is read of a literal page is literal.
use Rattle.std.proofs.Common.{refl, ℕ, ◌<◌, Bool, true, false, [], ◌∷◌, Option, Some, None, IfSome, length, bytes_eq, option_map, slice_get, unwrap_or, if◌then◌else◌, arith}
use Rattle.std.specs.Option.{ForSome}
use Rattle.js_core.specs.Text.{Text}
use Rattle.js_values.specs.declared.ids.EnvId.{EnvId}
use Rattle.js_values.specs.declared.ids.ObjId.{ObjId}
use Rattle.js_values.specs.declared.value.Value.{Value}
use Rattle.js_values.specs.declared.value.Value.TheVariants.{Undefined, Null, Bool as Truth, Num, Text as Words, Object}
use Rattle.object_heap.specs.Define.{length_name, number}
use Rattle.object_heap.specs.declared.object.Class.{Class}
use Rattle.object_heap.specs.declared.object.Class.TheVariants as class
use Rattle.object_heap.specs.declared.object.EventParts.{EventParts}
use Rattle.object_heap.specs.declared.property.Prop.{Prop}
use Rattle.object_heap.specs.Chain.{object_at}
use Rattle.object_heap.specs.Heap.{look_in}
use Rattle.object_heap.specs.Index.{index_of}
use Rattle.object_heap.specs.Object as heap
use Rattle.object_heap.specs.Property.{own_property}
use Rattle.page_host.specs.declared.host_name.HostName.{HostName}
use Rattle.page_host.specs.declared.host_name.HostName.TheVariants.{NodeType, NodeName, NodeValue, ParentNode, FirstChild, LastChild, PreviousSibling, NextSibling, OwnerDocument, TextContent, TagName, Id, ClassName, Value as HasValue, Data, DocumentElement, Body, EventType, Target, CurrentTarget, EventPhase, Bubbles, Cancelable, TimeStamp}
use Rattle.page_host.specs.Host.{Host}
use Rattle.page_host.specs.HostNames.{host_name}
use Rattle.page_meaning.specs.HostNames.{Seen, event_reads, has_host_name, held, host_reads, hosted, object_or_null, see}
use Rattle.page_meaning.specs.Places.{boolean_prototype, number_prototype, string_prototype}
use Rattle.page_meaning.specs.Reading.{get_at, inherited, named_at, own_of_text, seen_at, seen_value, unit_at}
use Rattle.page_meaning.specs.Store.{Store}
use Rattle.literal_values.proofs.Define.{own_in}
use Rattle.literal_values.proofs.Heap.{found_in, get_or_in, look_in_in, object_in}
use Rattle.literal_values.proofs.Nodes.{reads_literal}
use Rattle.literal_values.proofs.Units.{unit_text, unit_there}
use Rattle.literal_values.specs.Laws.{ReadsAreLiteral}
use Rattle.literal_values.specs.Objects.{LiteralClass, LiteralObject, LiteralParts, MaybeFound, MaybeProp}
use Rattle.literal_values.specs.Stores.{LiteralHost, LiteralStore}
use Rattle.literal_values.specs.Values.{IsBounded, IsText, LiteralResult, MaybeBounded}

pub object_literal : (s : Store) (k : ℕ) → LiteralStore s → LiteralObject (object_at s.heap.objects k)
object_literal s k h = object_in s.heap.objects k h.heap.objects

pub get_at_bounded : (s : Store) (at : ObjId) (x : Text) → LiteralStore s → IsBounded (get_at s at x)
get_at_bounded s at x h = get_or_in s.heap.objects at.0 x h.heap.objects

pub found_bounded : (s : Store) (env : Option EnvId) (x : Text) → LiteralStore s → MaybeFound (look_in s.heap.environments env x)
found_bounded s env x h = look_in_in s.heap.environments env x h.heap.environments

-- ---- texts

unit_value : (o : Option ℕ) → ForSome o (λ u. u < 65536) → MaybeBounded (option_map (λ u. Words (u ∷ [])) o)
unit_value None h = tt
unit_value (Some u) h = unit_text u (h u refl)

pub unit_bounded : (t : Text) (i : Option ℕ) → IsText t → MaybeBounded (unit_at t i)
unit_bounded t None h = tt
unit_bounded t (Some i) h = unit_value (slice_get t i) (unit_there t i h.0)

pub own_text_bounded : (t x : Text) → IsText t → MaybeBounded (own_of_text t x)
own_text_bounded t x h = by_case (bytes_eq x length_name)
  where
    by_case : (b : Bool) → MaybeBounded (if b then Some (number (length t)) else unit_at t (index_of x))
    by_case true = h.1
    by_case false = unit_bounded t (index_of x) h

or_bounded : (o : Option Value) (v : Value) → MaybeBounded o → IsBounded v → IsBounded (unwrap_or o v)
or_bounded None v h k = k
or_bounded (Some w) v h k = h

-- ---- host names

null_or_object : (o : Option ObjId) → IsBounded (object_or_null o)
null_or_object None = tt
null_or_object (Some at) = tt

event_read : (e : EventParts) (n : HostName) → LiteralParts e → IsBounded (event_reads e n)
event_read e EventType h = h
event_read e Target h = null_or_object e.target
event_read e CurrentTarget h = null_or_object e.current
event_read e EventPhase h = omega arith
event_read e Bubbles h = tt
event_read e Cancelable h = tt
event_read e TimeStamp h = omega arith
event_read e NodeType h = tt
event_read e NodeName h = tt
event_read e NodeValue h = tt
event_read e ParentNode h = tt
event_read e FirstChild h = tt
event_read e LastChild h = tt
event_read e PreviousSibling h = tt
event_read e NextSibling h = tt
event_read e OwnerDocument h = tt
event_read e TextContent h = tt
event_read e TagName h = tt
event_read e Id h = tt
event_read e ClassName h = tt
event_read e HasValue h = tt
event_read e Data h = tt
event_read e DocumentElement h = tt
event_read e Body h = tt

pub host_read : (h : Host) (c : Class) (n : HostName) → LiteralHost h → LiteralClass c → LiteralResult (host_reads h c n)
host_read h (class.Node k) n r i = reads_literal h.nodes r.nodes k h.objects n
host_read h (class.Event e) n r i = event_read e n i
host_read h class.Plain n r i = tt
host_read h class.List n r i = tt
host_read h (class.Page c env) n r i = tt
host_read h (class.Native which) n r i = tt
host_read h (class.Bound target this args) n r i = tt
host_read h class.Fault n r i = tt
host_read h class.Math n r i = tt
host_read h class.Window n r i = tt

-- what was seen is a literal property, or of a literal class
abbrev pub LiteralSeen : Seen → Type 0
LiteralSeen (held p) = IsBounded p.value
LiteralSeen (hosted c) = LiteralClass c

held_seen : (o : Option Prop) → MaybeProp o → IfSome (option_map held o) LiteralSeen
held_seen None h = tt
held_seen (Some p) h = h

pub seen_literal : (s : Store) (at : ObjId) (x : Text) (n : HostName) → LiteralStore s → IfSome (seen_at s at x n) LiteralSeen
seen_literal s at x n h = found_in LiteralSeen (see s.host.nodes x n) s.heap.objects at.0 one h.heap.objects
  where
    one : (o : heap.Object) → LiteralObject o → IfSome (see s.host.nodes x n o) LiteralSeen
    one o i = by_case (has_host_name s.host.nodes o.class n)
      where
        by_case : (b : Bool) → IfSome (if b then Some (hosted o.class) else option_map held (own_property o.props x)) LiteralSeen
        by_case true = i.class
        by_case false = held_seen (own_property o.props x) (own_in o.props x i.props)

pub seen_value_literal : (s : Store) (n : HostName) (o : Option Seen) → LiteralStore s → IfSome o LiteralSeen → LiteralResult (seen_value s n o)
seen_value_literal s n None h i = tt
seen_value_literal s n (Some (held p)) h i = i
seen_value_literal s n (Some (hosted c)) h i = host_read s.host c n h.host i

named_literal : (s : Store) (at : ObjId) (x : Text) (o : Option HostName) → LiteralStore s → LiteralResult (named_at s at x o)
named_literal s at x None h = get_at_bounded s at x h
named_literal s at x (Some n) h = seen_value_literal s n (seen_at s at x n) h (seen_literal s at x n h)

-- ----

pub inherited_bounded : (s : Store) (at : Option ObjId) (x : Text) → LiteralStore s → IsBounded (inherited s at x)
inherited_bounded s None x h = tt
inherited_bounded s (Some at) x h = get_at_bounded s at x h

pub property_literal : ReadsAreLiteral
property_literal s (Object at) x h v = named_literal s at x (host_name x) h
property_literal s (Words t) x h v = or_bounded (own_of_text t x) (inherited s string_prototype x) (own_text_bounded t x v) (inherited_bounded s string_prototype x h)
property_literal s (Num n) x h v = inherited_bounded s number_prototype x h
property_literal s (Truth b) x h v = inherited_bounded s boolean_prototype x h
property_literal s Undefined x h v = tt
property_literal s Null x h v = tt
