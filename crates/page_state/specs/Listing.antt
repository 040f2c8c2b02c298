-- What is asked of the properties of an object while its names are listed.
use Rattle.std.specs.Prelude.{◌≡◌, ℕ, Bool, false, not, ◌&&◌, ◌||◌, List, [], ◌∷◌, ◌++◌, Option, Some, None, slice_get, bytes_eq, if◌then◌else◌}
use Rattle.std.specs.List.{list_any}
use Rattle.js_values.specs.declared.ids.ObjId.{ObjId}
use Rattle.object_heap.specs.declared.property.Prop.{Prop}
use Rattle.object_heap.specs.Chain.{object_at}
use Rattle.object_heap.specs.Property.{Props}
use Rattle.page_meaning.specs.Loops.{Listed}
use Rattle.page_meaning.specs.Store.{Store}

abbrev pub props_at : Store → ObjId → Props
props_at s at = (object_at s.heap.objects at.0).props

abbrev pub is_enumerable : Option (List ℕ × Prop) → Bool
is_enumerable None = false
is_enumerable (Some e) = e.1.enumerable

-- whether the property at the place in order of creation is enumerable
abbrev pub is_seen_at : Props → ℕ → Bool
is_seen_at props k = is_enumerable (slice_get props k)

-- whether that property, whose name this is, is listed
abbrev pub is_listed_at : Props → ℕ → List ℕ → List (List ℕ) → Bool
is_listed_at props k x seen = is_seen_at props k && not (list_any (bytes_eq x) seen)

-- the names, with this one of the object, if it is listed
abbrev pub with_listed : Bool → ObjId → List ℕ → Listed → Listed
with_listed listed at x names = if listed then names ++ (Some at, x) ∷ [] else names

-- these names were seen, too
abbrev pub AlsoSeen : List (List ℕ) → List (List ℕ) → List (List ℕ) → Type 0
AlsoSeen seen keys after = (x : List ℕ) → list_any (bytes_eq x) after ≡ (list_any (bytes_eq x) seen || list_any (bytes_eq x) keys)
