-- The identifiers that a node has itself, and the names that are special.
use Rattle.std.specs.Prelude.{ℕ, Bool, false, ◌||◌, ◌&&◌, ◌==◌, List, [], ◌∷◌, ◌++◌, bytes_eq, codes}
use Rattle.js_core.specs.Tree as tree
use Rattle.js_core.specs.Tree.{name, num, text, bool, null, this, list, literal, func, member, index, call, construct, unary, update, binary, logical_and, logical_or, conditional, assign, comma, no_exprs, then_expr, no_expr, one_expr, no_holes, then_hole, no_fields, then_field, code, var, function, expr, empty, block, if_else, do_while, while, for, for_in, continue, break, return, throw, try, switch, no_stmts, then_stmt, no_body, one_body, no_declarators, then_declarator, no_init, init_var, init_expr, no_catch, one_catch, no_cases, then_case}
use Rattle.scope_analysis.specs.Names.{maybe_name, code_name, code_formals, declarator_names, init_names}
use Rattle.scope_analysis.specs.Nodes.{Node, expression, statement, clause}

-- its name and its formals
abbrev pub function_identifiers : tree.Code → List (List ℕ)
function_identifiers c = maybe_name (code_name c) ++ code_formals c

abbrev pub expression_identifiers : tree.Expr → List (List ℕ)
expression_identifiers (name x) = x ∷ []
expression_identifiers (func c) = function_identifiers c
expression_identifiers e = []

abbrev pub statement_identifiers : tree.Stmt → List (List ℕ)
statement_identifiers (var ds) = declarator_names ds
statement_identifiers (function c) = function_identifiers c
statement_identifiers (for i t s body) = init_names i
statement_identifiers s = []

-- the references, variables, function names, formals and catch parameters that stand in the node, but not inside its
-- parts; names of properties are none
abbrev pub identifiers : Node → List (List ℕ)
identifiers (expression is_callee e) = expression_identifiers e
identifiers (statement s) = statement_identifiers s
identifiers (clause x ss) = x ∷ []

-- `eval` or `arguments`
abbrev pub is_restricted : List ℕ → Bool
is_restricted x = bytes_eq x (codes "eval") || bytes_eq x (codes "arguments")

-- it begins with `$$`
abbrev pub is_reserved : List ℕ → Bool
is_reserved (a ∷ b ∷ x) = a == 36 && b == 36
is_reserved x = false
