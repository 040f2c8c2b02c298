-- Attributes in order of first setting.
use Rattle.std.specs.Prelude.{Bool, true, ◌&&◌, cond, List, [], ◌∷◌, Option, Some, None, bytes_eq, is_none}
use Rattle.js_core.specs.Text.{Text}

-- names with values
abbrev pub Pairs : Type 0
Pairs = List (Text × Text)

-- the value of the name, if there is one
abbrev pub value_of : Text → Pairs → Option Text
value_of name [] = None
value_of name (a ∷ as') = cond (bytes_eq a.0 name) (Some a.1) (value_of name as')

-- no name is there twice
abbrev pub has_distinct_names : Pairs → Bool
has_distinct_names [] = true
has_distinct_names (a ∷ as') = is_none (value_of a.0 as') && has_distinct_names as'

-- the name takes the value: where it is there it keeps its place, and else it is the last
abbrev pub with_value_of : Text → Text → Pairs → Pairs
with_value_of name v [] = (name, v) ∷ []
with_value_of name v (a ∷ as') = cond (bytes_eq a.0 name) ((a.0, v) ∷ as') (a ∷ with_value_of name v as')

-- the name is gone, and the others keep their order
abbrev pub without_value_of : Text → Pairs → Pairs
without_value_of name [] = []
without_value_of name (a ∷ as') = cond (bytes_eq a.0 name) as' (a ∷ without_value_of name as')
