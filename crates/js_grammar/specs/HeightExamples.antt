-- Scripts at the limit of height, and nesting that makes no height.
use Rattle.std.specs.Prelude.{ℕ, zero, suc, List, [], ◌∷◌}
use Rattle.js_core.specs.Tree as tree
use Rattle.js_core.specs.declared.token.Token.{Token}
use Rattle.js_core.specs.declared.token.Punct.TheVariants as p
use Rattle.js_core.specs.declared.operators.UnaryOp.TheVariants as un
use Rattle.js_grammar.specs.Examples.{mark, semicolon, a, A, Example, script, refused}

-- the token so often, and then the others
abbrev pub times : ℕ → Token → List Token → List Token
times zero t rest = rest
times (suc n) t rest = t ∷ times n t rest

abbrev pub complements : ℕ → tree.Expr
complements zero = A
complements (suc n) = tree.unary un.BitNot (complements n)

abbrev pub heights : List Example
heights =
    -- ~~ .. ~a; with 438 of them is 440 high
    (times 438 (mark p.Tilde) (a ∷ semicolon ∷ []), script (tree.expr (complements 438) ∷ []))
    -- with 439 it would be 441 high
    ∷ (times 439 (mark p.Tilde) (a ∷ semicolon ∷ []), refused)
    -- ((( .. a .. ))); with 500 parentheses is 2 high
    ∷ (times 500 (mark p.LeftParenthesis) (a ∷ times 500 (mark p.RightParenthesis) (semicolon ∷ [])), script (tree.expr A ∷ []))
    ∷ []
