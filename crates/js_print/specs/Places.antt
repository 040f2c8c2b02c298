-- Where an expression stands, and whether it needs parentheses there.
use Rattle.std.specs.Prelude.{Bool, true, false, not, ◌&&◌, List, [], ◌∷◌, ◌++◌, if◌then◌else◌}
use Rattle.js_core.specs.Tree as tree
use Rattle.js_core.specs.Tree.{name, num, text, bool, null, this, list, literal, func, member, index, call, binary, comma, then_expr}
use Rattle.js_core.specs.declared.operators.BinaryOp.TheVariants.{Within}
use Rattle.js_core.specs.declared.token.Punct.TheVariants as punct
use Rattle.js_print.specs.declared.lexeme.Lexeme.{Lexeme}
use Rattle.js_print.specs.declared.lexeme.Lexeme.TheVariants.{Punct}
use Rattle.js_print.specs.declared.place.Place.{Place}
use Rattle.js_print.specs.declared.place.Place.TheVariants.{Operand, Base, Constructor, Part, Whole, Statement}

-- one that needs no parentheses as an operand
abbrev pub is_simple : tree.Expr → Bool
is_simple (name x) = true
is_simple (num n) = true
is_simple (text x) = true
is_simple (bool b) = true
is_simple null = true
is_simple this = true
is_simple (list es) = true
is_simple (member e x) = true
is_simple (index a b) = true
is_simple (call f es) = true
is_simple e = false

abbrev pub is_number : tree.Expr → Bool
is_number (num n) = true
is_number e = false

abbrev pub is_name : tree.Expr → Bool
is_name (name x) = true
is_name e = false

abbrev pub is_comma : tree.Expr → Bool
is_comma (comma es) = true
is_comma e = false

-- a binary `in`
abbrev pub is_in_test : tree.Expr → Bool
is_in_test (binary Within a b) = true
is_in_test e = false

-- an object literal or a function, whose first token would begin another statement
abbrev pub is_braced : tree.Expr → Bool
is_braced (literal fs) = true
is_braced (func c) = true
is_braced e = false

-- one of these, or a comma expression whose first part is one
abbrev pub begins_as_statement : tree.Expr → Bool
begins_as_statement (comma (then_expr e es)) = is_braced e
begins_as_statement e = is_braced e

-- whether it stands there without parentheses
abbrev pub is_bare : Place → tree.Expr → Bool
is_bare Operand e = is_simple e
is_bare Base e = is_simple e && not (is_number e)
is_bare Constructor e = is_name e
is_bare Part e = not (is_in_test e) && not (is_comma e)
is_bare Whole e = not (is_in_test e)
is_bare Statement e = not (is_in_test e) && not (begins_as_statement e)

abbrev pub parenthesised : List Lexeme → List Lexeme
parenthesised lexemes = Punct punct.LeftParenthesis ∷ (lexemes ++ Punct punct.RightParenthesis ∷ [])

abbrev pub braced : List Lexeme → List Lexeme
braced lexemes = Punct punct.LeftBrace ∷ (lexemes ++ Punct punct.RightBrace ∷ [])

-- the lexemes of an expression in its place, from those of it alone
abbrev pub placed : Place → tree.Expr → List Lexeme → List Lexeme
placed place e lexemes = if is_bare place e then lexemes else parenthesised lexemes
