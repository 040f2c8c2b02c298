-- Events that rest: no dispatch of theirs is under way.
use Rattle.std.specs.Prelude.{◌≡◌, ℕ, zero, suc, Bool, true, false, ◌&&◌, not, List, [], ◌∷◌, ◌++◌, Option, None, filter, map, nat_eq, slice_set}
use Rattle.std.specs.List.{list_any}
use Rattle.std.specs.Option.{is_none}
use Rattle.js_values.specs.declared.ids.ObjId.{ObjId}
use Rattle.object_heap.specs.declared.object.Class.{Class}
use Rattle.object_heap.specs.declared.object.Class.TheVariants.{Event}
use Rattle.object_heap.specs.declared.object.EventParts.{EventParts}
use Rattle.object_heap.specs.Chain.{object_at}
use Rattle.object_heap.specs.Heap.{Contents, IsSound, with_object, with_objects}
use Rattle.object_heap.specs.Object.{changed_event, dispatched, Object, with_class}

-- neither is it at an object nor has it a phase
abbrev pub rests_at : Option ObjId → ℕ → Bool
rests_at current phase = is_none current && nat_eq phase 0

-- what is no event rests
abbrev pub is_resting : Class → Bool
is_resting (Event parts) = rests_at parts.current parts.phase
is_resting c = true

-- an event as after a dispatch
abbrev pub rested_parts : EventParts → EventParts
rested_parts parts = dispatched parts.sent parts.target None 0 parts

abbrev pub rested : Object → Object
rested o = with_class o (changed_event rested_parts o.class)

abbrev pub rest_event : Contents → ℕ → Contents
rest_event h k = with_object h k (rested (object_at h.objects k))

-- all events are as after a dispatch
abbrev pub all_rested : Contents → Contents
all_rested h = with_objects h (map rested h.objects)

-- those at the places, one after another
abbrev pub rested_at : List ObjId → List Object → List Object
rested_at [] objects = objects
rested_at (at ∷ ats) objects = rested_at ats (slice_set objects at.0 (rested (object_at objects at.0)))

-- the first so many, from the youngest of them down
abbrev pub rest_down : ℕ → List Object → List Object
rest_down zero objects = objects
rest_down (suc n) objects = rest_down n (slice_set objects n (rested (object_at objects n)))

-- ---- the list of the events that do not rest

abbrev pub is_listed : ℕ → List ObjId → Bool
is_listed k listed = list_any (λ a. nat_eq a.0 k) listed

-- each event that does not rest is on the list
abbrev pub AreListed : List Object → List ObjId → Type 0
AreListed objects listed = (k : ℕ) → is_resting (object_at objects k).class ≡ false → is_listed k listed ≡ true

-- the list, with one more where it may not rest
abbrev pub noted : Bool → ObjId → List ObjId → List ObjId
noted true at listed = listed ++ at ∷ []
noted false at listed = listed

abbrev pub unlisted : ObjId → List ObjId → List ObjId
unlisted at listed = filter (λ a. not (nat_eq a.0 at.0)) listed

-- what holds of each heap in memory
pub record IsKept (h : Contents) (restless : List ObjId) : Type 0 where
  pub sound : IsSound h
  pub listed : AreListed h.objects restless
