-- Numbers in the lines of commands.
use Rattle.std.specs.Prelude.{ℕ, List, ◌∷◌}
use Rattle.std.specs.Fmt.{decimal}

-- a blank, and the number
abbrev pub number_words : ℕ → List ℕ
number_words n = 32 ∷ decimal n
