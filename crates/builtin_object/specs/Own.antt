-- What is asked of an object's own properties.
use Rattle.std.specs.Prelude.{ℕ, ◌&&◌, not, Bool, true, false, List, [], ◌∷◌, ◌++◌, Option, Some, None, Result, Ok, Err, if◌then◌else◌}
use Rattle.js_values.specs.declared.throw.Throw.{Throw}
use Rattle.object_heap.specs.declared.property.Prop.{Prop}
use Rattle.page_meaning.specs.ObjectRows.{Changes}

-- the property is sealed, or frozen too
abbrev pub is_fast : Bool → Prop → Bool
is_fast true p = not p.configurable && not p.writable
is_fast false p = not p.configurable

abbrev pub fast_or_none : Bool → Option (List ℕ × Prop) → Bool
fast_or_none frozen None = true
fast_or_none frozen (Some e) = is_fast frozen e.1

-- the name, where the property is enumerable
abbrev pub enumerable_name : Option (List ℕ × Prop) → List (List ℕ)
enumerable_name None = []
enumerable_name (Some e) = if e.1.enumerable then e.0 ∷ [] else []

-- changes behind others, or why there are none
abbrev pub prefixed : Changes → Result Changes Throw → Result Changes Throw
prefixed cs (Err t) = Err t
prefixed cs (Ok ds) = Ok (cs ++ ds)
