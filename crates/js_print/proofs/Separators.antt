-- The comma after an element of an array literal.
use Rattle.std.proofs.Common.{◌≡◌, ◌≤◌, List, [], ◌∷◌, length, Option, Some, None, refl, arith}
use Rattle.js_core.specs.Tree as tree
use Rattle.js_core.specs.Tree.{maybe_expr, holes_of}
use Rattle.js_core.specs.declared.token.Punct.TheVariants as punct
use Rattle.js_print.specs.declared.lexeme.Lexeme.TheVariants.{Punct}
use Rattle.js_print.specs.Lexemes.{separator}

-- one stands before others
pub before_others : (e : Option tree.Expr) (es : List (Option tree.Expr)) → 1 ≤ length es → separator (maybe_expr e) (holes_of es) ≡ Punct punct.Comma ∷ []
before_others None es h = refl
before_others (Some e) [] h = absurd (omega arith)
before_others (Some e) (f ∷ es) h = refl
