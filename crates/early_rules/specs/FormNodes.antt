-- What the rules of form pages ask of single nodes.
use Rattle.std.specs.Prelude.{ℕ, Bool, true, false, not, ◌&&◌, nat_lt, List, Option, Some, None, ◌+◌}
use Rattle.std.specs.List.{list_any, list_all}
use Rattle.js_core.specs.Tree as tree
use Rattle.js_core.specs.Tree.{func, function, return, one_expr, no_stmts, then_stmt}
use Rattle.js_core.specs.Height.{code_height}
use Rattle.early_rules.specs.Limits.{function_height_limit}
use Rattle.scope_analysis.specs.Names.{code_name, code_formals, code_body}
use Rattle.scope_analysis.specs.Nodes.{Node, expression, statement}
use Rattle.scope_analysis.specs.Identifiers.{identifiers, is_reserved}

abbrev pub is_declaration : Node → Bool
is_declaration (statement (function c)) = true
is_declaration n = false

-- an identifier of the node is a reserved name
abbrev pub has_reserved_identifier : Node → Bool
has_reserved_identifier n = list_any is_reserved (identifiers n)

abbrev pub is_function_expression : tree.Expr → Bool
is_function_expression (func c) = true
is_function_expression e = false

abbrev pub is_return_of_function : tree.Stmt → Bool
is_return_of_function (return (one_expr e)) = is_function_expression e
is_return_of_function s = false

-- one statement, a `return` of a function expression
abbrev pub returns_function : tree.Stmts → Bool
returns_function (then_stmt s no_stmts) = is_return_of_function s
returns_function ss = false

abbrev pub has_no_name : Option (List ℕ) → Bool
has_no_name None = true
has_no_name (Some x) = false

-- a function that a saved page calls at once to bind reserved formals round a function
abbrev pub is_factory : tree.Code → Bool
is_factory c = has_no_name (code_name c) && list_all is_reserved (code_formals c) && returns_function (code_body c)

-- a function that is higher, as an expression, than a form page may have it, and no factory
abbrev pub is_high_function : Node → Bool
is_high_function (expression is_callee (func c)) = not (is_callee && is_factory c) && nat_lt function_height_limit (code_height c + 1)
is_high_function (statement (function c)) = nat_lt function_height_limit (code_height c + 1)
is_high_function n = false
