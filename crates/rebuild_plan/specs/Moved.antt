-- Places in place of ids: built-in objects and the document's keep theirs, and the things stand after them in the order of the walk.
use Rattle.std.specs.Prelude.{ℕ, suc, ◌+◌, List, [], ◌∷◌, Option, Some, None, nat_eq}
use Rattle.std.specs.List.{position}
use Rattle.js_values.specs.declared.ids.ObjId.{ObjId}
use Rattle.js_values.specs.declared.value.Value.{Value}
use Rattle.js_values.specs.declared.value.Value.TheVariants.{Object as Reference}
use Rattle.object_heap.specs.Define.{with_value}
use Rattle.object_heap.specs.Property.{Props}
use Rattle.object_heap.specs.declared.property.Prop.{Prop}
use Rattle.page_meaning.specs.Places.{built_in_count}

-- ---- places

-- the place of the first thing, after that of the document's object
abbrev pub first_thing : ℕ
first_thing = suc built_in_count

abbrev pub placed : ℕ → Option ℕ → ℕ
placed k None = k
placed k (Some n) = first_thing + n

-- the place of an object, where these are the things
abbrev pub place_of : List ℕ → ℕ → ℕ
place_of things k = placed k (position (nat_eq k) things)

abbrev pub moved : List ℕ → ObjId → ObjId
moved things at = record { 0 = place_of things at.0 }

abbrev pub moved_value : List ℕ → Value → Value
moved_value things (Reference at) = Reference (moved things at)
moved_value things v = v

-- ---- what holds ids

abbrev pub moved_values : List ℕ → List Value → List Value
moved_values things [] = []
moved_values things (v ∷ vs) = moved_value things v ∷ moved_values things vs

abbrev pub moved_needs : List ℕ → List (List ℕ × Value) → List (List ℕ × Value)
moved_needs things [] = []
moved_needs things (n ∷ ns) = (n.0, moved_value things n.1) ∷ moved_needs things ns

abbrev pub moved_proto : List ℕ → Option ObjId → Option ObjId
moved_proto things None = None
moved_proto things (Some at) = Some (moved things at)

abbrev pub moved_prop : List ℕ → Prop → Prop
moved_prop things p = with_value p (moved_value things p.value)

abbrev pub moved_props : List ℕ → Props → Props
moved_props things [] = []
moved_props things (e ∷ es) = (e.0, moved_prop things e.1) ∷ moved_props things es
