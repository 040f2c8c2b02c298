-- The tokens that a cursor has before it.
use Rattle.std.specs.Prelude.{List, [], ◌∷◌, reverse, Option, Some, None}
use Rattle.js_core.specs.declared.token.Token.{Token}

-- the next token, and those behind it, of which the last stands first
abbrev pub upcoming : Option Token → List Token → List Token
upcoming None behind = []
upcoming (Some next) behind = next ∷ reverse behind
