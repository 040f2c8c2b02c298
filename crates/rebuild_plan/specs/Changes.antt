-- What scripts changed of the built-in objects. No script can change a built-in object yet, so there are no statements for them.
use Rattle.std.specs.Prelude.{ℕ, Bool, ◌&&◌, List, Option, Some, None, nat_lt, if◌then◌else◌}
use Rattle.object_heap.specs.Chain.{object_at}
use Rattle.object_heap.specs.Object.{Object}
use Rattle.object_heap.specs.Property.{Props}
use Rattle.page_meaning.specs.Places.{built_in_count, window}
use Rattle.page_meaning.specs.Store.{Store}
use Rattle.rebuild_plan.specs.Moved.{moved_props}

-- what a built-in object has now, with places in place of ids
pub record Changed : Type 0 where
  pub props : Props
  pub extensible : Bool

-- an object that is closed is as it was made
abbrev pub changed_as : List ℕ → Object → Option Changed
changed_as things o = if o.closed then None else Some (record { props = moved_props things o.props; extensible = o.extensible })

-- the place of a built-in object other than the global one, whose properties are saved by themselves
abbrev pub is_built_in_place : ℕ → Bool
is_built_in_place k = nat_lt window.0 k && nat_lt k built_in_count

-- the change of the object at each place
abbrev pub changes_of : Store → List ℕ → ℕ → Option Changed
changes_of s things k = if is_built_in_place k then changed_as things (object_at s.heap.objects k) else None
