-- An event as it is saved.
use Rattle.std.specs.Prelude.{ℕ, Bool, List, Option, Some, None}
use Rattle.js_values.specs.declared.ids.ObjId.{ObjId}
use Rattle.object_heap.specs.declared.object.Class.{Class}
use Rattle.object_heap.specs.declared.object.Class.TheVariants.{Event}
use Rattle.object_heap.specs.declared.object.EventParts.{EventParts}
use Rattle.rebuild_plan.specs.Moved.{moved_proto}

-- its target is there where it was dispatched. Under dispatch it is not: its phase is 0, and it is at no node
pub record SavedEvent : Type 0 where
  pub kind : List ℕ
  pub bubbles : Bool
  pub cancelable : Bool
  pub begun : Bool
  pub target : Option ObjId

abbrev pub event_of : List ℕ → EventParts → SavedEvent
event_of things e = record { kind = e.kind; bubbles = e.bubbles; cancelable = e.cancelable; begun = e.begun; target = moved_proto things e.target }

abbrev pub event_as : List ℕ → Class → Option SavedEvent
event_as things (Event parts) = Some (event_of things parts)
event_as things c = None
