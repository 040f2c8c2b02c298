-- The lexemes of a path that is gone over byte by byte.
use Rattle.std.specs.Prelude.{ℕ, List, [], ◌∷◌, ◌++◌, nat_eq, if◌then◌else◌}
use Rattle.built_in_paths.specs.Paths.{dot}
use Rattle.js_core.specs.declared.token.Punct.TheVariants as punct
use Rattle.js_print.specs.declared.lexeme.Lexeme.{Lexeme}
use Rattle.js_print.specs.declared.lexeme.Lexeme.TheVariants.{Name, Punct}

-- the names between the dots, the first of which begins with these units, and the dots
abbrev pub dotted : List ℕ → List ℕ → List Lexeme
dotted name [] = Name name ∷ []
dotted name (u ∷ us) = if nat_eq u dot then Name name ∷ Punct punct.Dot ∷ dotted [] us else dotted (name ++ u ∷ []) us
