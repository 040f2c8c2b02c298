-- The order of numbers and of texts (ECMA-262 5.1 section 11.8.5).
use Rattle.std.specs.Prelude.{ℕ, ℤ, int_lt, nat_eq, nat_lt, Bool, true, false, List, [], ◌∷◌, Option, Some, None, if◌then◌else◌}

-- whether a is less than b, where neither is NaN
abbrev pub whole_less : Option ℤ → Option ℤ → Option Bool
whole_less None b = None
whole_less (Some x) None = None
whole_less (Some x) (Some y) = Some (int_lt x y)

-- whether one text comes before another one, by their units (step 4): a beginning comes before what goes on
abbrev pub text_less : List ℕ → List ℕ → Bool
text_less t [] = false
text_less [] (d ∷ ds) = true
text_less (c ∷ cs) (d ∷ ds) = if nat_eq c d then text_less cs ds else nat_lt c d
