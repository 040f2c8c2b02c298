-- How the right keeps the names round a function that was rebuilt.
use Rattle.std.specs.Prelude.{ℕ, Bool, false, ◌||◌, List, Option, Some, None, bytes_eq, if◌then◌else◌}
use Rattle.code_table.specs.Declarations.{name_of}
use Rattle.heap_relations.specs.Naming.{Absent, Frame, Kept, Sealed, Unused}
use Rattle.heap_walker.specs.Still.{other_names}
use Rattle.js_core.specs.Tree.{Code}
use Rattle.scope_analysis.specs.Needs.{needed_variables}
use Rattle.scope_analysis.specs.Names.{is_among}

-- the name is the one that may be there
abbrev pub is_own : Option (List ℕ) → List ℕ → Bool
is_own None x = false
is_own (Some y) x = bytes_eq x y

-- the function's own name, or a variable that it needs from round it
abbrev pub is_sealed : Code → List ℕ → Bool
is_sealed c x = is_own (name_of c) x || is_among x (needed_variables c)

-- these are sealed; a name that it leaves to the scopes round it and that does not begin with `$$` is bound nowhere; others it does not use
abbrev pub keeps_round : Code → List ℕ → Kept
keeps_round c x = if is_sealed c x then Sealed else (if is_among x (other_names c) then Absent else Unused)

abbrev pub round_frame : Code → Frame
round_frame c = record { keeps = keeps_round c; scoped = false; number = 0 }
