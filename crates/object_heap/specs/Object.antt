-- Objects (ECMA-262 5.1 section 8.6). Outside this file an object is made by its makers alone.
use Rattle.std.specs.Prelude.{ℕ, Bool, true, false, [], Option, Some, None, nat_lt, if◌then◌else◌}
use Rattle.js_values.specs.declared.ids.ObjId.{ObjId}
use Rattle.object_heap.specs.declared.object.Class.{Class}
use Rattle.object_heap.specs.declared.object.Class.TheVariants.{Bound, Event, List as Array, Plain, Window}
use Rattle.object_heap.specs.declared.object.EventParts.{EventParts}
use Rattle.object_heap.specs.Property.{Props}

pub record Object : Type 0 where
  pub class : Class
  pub proto : Option ObjId
  pub extensible : Bool
  pub closed : Bool
  pub props : Props

abbrev pub is_list : Class → Bool
is_list Array = true
is_list c = false

abbrev pub is_window : Class → Bool
is_window Window = true
is_window c = false

abbrev pub is_event : Class → Bool
is_event (Event parts) = true
is_event c = false

-- the function that a bound function calls (15.3.4.5)
abbrev pub target_of : Class → Option ObjId
target_of (Bound target this args) = Some target
target_of c = None

-- stands for an object where there is none
abbrev pub no_object : Object
no_object = record { class = Plain; proto = None; extensible = false; closed = true; props = [] }

-- an object with these properties and no others
abbrev pub whole_object : Class → Option ObjId → Props → Object
whole_object class proto props = record { class = class; proto = proto; extensible = true; closed = false; props = props }

abbrev pub with_class : Object → Class → Object
with_class o class = record { class = class; proto = o.proto; extensible = o.extensible; closed = o.closed; props = o.props }

abbrev pub with_proto : Object → Option ObjId → Object
with_proto o proto = record { class = o.class; proto = proto; extensible = o.extensible; closed = o.closed; props = o.props }

-- the object with these properties
abbrev pub with_props : Object → Props → Object
with_props o props = record { class = o.class; proto = o.proto; extensible = o.extensible; closed = o.closed; props = props }

abbrev pub with_extensible : Object → Bool → Object
with_extensible o extensible = record { class = o.class; proto = o.proto; extensible = extensible; closed = o.closed; props = o.props }

-- the object, which gets no new properties any more
abbrev pub not_extensible : Object → Object
not_extensible o = with_extensible o false

-- the object, none of whose properties may be put, defined or deleted any more
abbrev pub with_closed : Object → Object
with_closed o = record { class = o.class; proto = o.proto; extensible = o.extensible; closed = true; props = o.props }

-- an event with changed parts; any other class stays
abbrev pub changed_event : (EventParts → EventParts) → Class → Class
changed_event f (Event parts) = Event (f parts)
changed_event f c = c

-- the event, with these parts; any other object stays
abbrev pub with_event : Object → EventParts → Object
with_event o parts = with_class o (changed_event (λ old. parts) o.class)

-- the parts, where a dispatch has begun or not, is for this target, is at this object and in this phase
abbrev pub dispatched : Bool → Option ObjId → Option ObjId → ℕ → EventParts → EventParts
dispatched sent target current phase parts = record {
  kind = parts.kind;
  bubbles = parts.bubbles;
  cancelable = parts.cancelable;
  begun = parts.begun;
  sent = sent;
  target = target;
  current = current;
  phase = phase;
}

-- the event, in this state of a dispatch; any other object stays
abbrev pub with_dispatch : Object → Bool → Option ObjId → Option ObjId → ℕ → Object
with_dispatch o sent target current phase = with_class o (changed_event (dispatched sent target current phase) o.class)

-- the object, where it is older than the place; else none
abbrev pub older : ℕ → Option ObjId → Option ObjId
older k None = None
older k (Some p) = if nat_lt p.0 k then Some p else None

-- a bound function whose target is not older than the place is none
abbrev pub class_at : ℕ → Class → Class
class_at k (Bound target this args) = if nat_lt target.0 k then Bound target this args else Plain
class_at k c = c

-- the object as it is at a place: a prototype or target that is not older counts as none
abbrev pub settled : ℕ → Object → Object
settled k o = record { class = class_at k o.class; proto = older k o.proto; extensible = o.extensible; closed = o.closed; props = o.props }
