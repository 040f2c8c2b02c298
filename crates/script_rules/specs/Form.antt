-- The rule of form: scripts whose captured variables stand in objects that a saved page can rebuild.
use Rattle.std.specs.Prelude.{ℕ, pos, Bool, true, false, not, ◌||◌, ◌&&◌, List, [], ◌∷◌, Option, Some, None, bytes_eq, if◌then◌else◌}
use Rattle.std.specs.List.{list_any, list_all}
use Rattle.std.specs.Ordering.{int_eq}
use Rattle.js_core.specs.Tree as tree
use Rattle.js_core.specs.Tree.{name, num, text, bool, null, this, list, literal, func, member, index, call, construct, unary, update, binary, logical_and, logical_or, conditional, assign, comma, no_exprs, then_expr, no_expr, one_expr, no_holes, then_hole, no_fields, then_field, code, var, function, expr, empty, block, if_else, do_while, while, for, for_in, continue, break, return, throw, try, switch, no_stmts, then_stmt, no_body, one_body, no_declarators, then_declarator, no_init, init_var, init_expr, no_catch, one_catch, no_cases, then_case}
use Rattle.js_core.specs.declared.operators.UnaryOp.TheVariants.{Void}
use Rattle.early_rules.specs.FormNodes.{has_reserved_identifier, is_declaration, is_high_function}
use Rattle.scope_analysis.specs.Names.{is_among, code_formals, code_body, declared_names, bound_names, own_name}
use Rattle.scope_analysis.specs.Nodes.{Node, of_scopes, code_any, stmt_any, stmts_any}
use Rattle.scope_analysis.specs.Identifiers.{is_reserved}
use Rattle.scope_analysis.specs.Uses.{Use, stmts_uses, is_captured, is_assigned, is_assigned_once}

-- the name stands in the list once
abbrev pub is_once : List ℕ → List (List ℕ) → Bool
is_once x [] = false
is_once x (y ∷ ys) = if bytes_eq x y then not (is_among x ys) else is_once x ys

abbrev pub is_name_of : List ℕ → tree.Expr → Bool
is_name_of x (name y) = bytes_eq y x
is_name_of x e = false

abbrev pub is_zero : tree.Expr → Bool
is_zero (num (Some z)) = int_eq z (pos 0)
is_zero e = false

-- an identifier, or `void 0`
abbrev pub is_plain_value : tree.Expr → Bool
is_plain_value (name x) = true
is_plain_value (unary Void e) = is_zero e
is_plain_value e = false

abbrev pub are_plain_fields : tree.Fields → Bool
are_plain_fields no_fields = true
are_plain_fields (then_field x e fs) = is_plain_value e && are_plain_fields fs

-- an object literal with such values
abbrev pub is_plain_literal : tree.Expr → Bool
is_plain_literal (literal fs) = are_plain_fields fs
is_plain_literal e = false

abbrev pub is_plain_initialiser : tree.MaybeExpr → Bool
is_plain_initialiser no_expr = false
is_plain_initialiser (one_expr e) = is_plain_literal e

-- one declarator, `x={..}` with such values
abbrev pub is_opening_declarator : List ℕ → tree.Declarators → Bool
is_opening_declarator x (then_declarator y e no_declarators) = bytes_eq y x && is_plain_initialiser e
is_opening_declarator x ds = false

-- `var x={..};`
abbrev pub is_opening : List ℕ → tree.Stmt → Bool
is_opening x (var ds) = is_opening_declarator x ds
is_opening x s = false

-- the first statement is that
abbrev pub opens_with : List ℕ → tree.Stmts → Bool
opens_with x no_stmts = false
opens_with x (then_stmt s ss) = is_opening x s

-- one field, with the value `x`
abbrev pub is_field_of : List ℕ → tree.Fields → Bool
is_field_of x (then_field f e no_fields) = is_name_of x e
is_field_of x fs = false

-- `{"f":x}`
abbrev pub is_box_of : List ℕ → tree.Expr → Bool
is_box_of x (literal fs) = is_field_of x fs
is_box_of x e = false

-- `x={"f":x}`
abbrev pub is_boxing_assignment : List ℕ → tree.Expr → Bool
is_boxing_assignment x (assign None a b) = is_name_of x a && is_box_of x b
is_boxing_assignment x e = false

-- that as a statement
abbrev pub is_boxing : List ℕ → tree.Stmt → Bool
is_boxing x (expr e) = is_boxing_assignment x e
is_boxing x s = false

-- the first statement is that
abbrev pub boxes : List ℕ → tree.Stmts → Bool
boxes x no_stmts = false
boxes x (then_stmt s ss) = is_boxing x s

-- never assigned to, and not among the other declared names
abbrev pub is_constant : List (List ℕ) → List Use → List ℕ → Bool
is_constant declared uses x = not (is_assigned x uses) && not (is_among x declared)

-- declared by the first statement of the body and nowhere else, and assigned to there alone
abbrev pub is_opened : List (List ℕ) → tree.Stmts → List Use → List ℕ → Bool
is_opened declared body uses x = opens_with x body && (is_once x declared && is_assigned_once x uses)

-- a variable of a function with these formals, other declared names and this body, whose uses are these: a saved page can
-- rebuild it where a function inside uses it
abbrev pub can_be_rebuilt : List (List ℕ) → List (List ℕ) → tree.Stmts → List Use → List ℕ → Bool
can_be_rebuilt formals declared body uses x = is_reserved x && (if is_among x formals then is_constant declared uses x else is_opened declared body uses x)

-- no function inside uses such a variable, or one may
abbrev pub may_be_captured : List (List ℕ) → List (List ℕ) → tree.Stmts → List Use → List ℕ → Bool
may_be_captured formals declared body uses x = not (is_captured x uses) || can_be_rebuilt formals declared body uses x

-- each variable of the function but its own name is one of these, where these are the uses of its body
abbrev pub are_variables_in_form : tree.Code → List Use → Bool
are_variables_in_form c uses = list_all (may_be_captured (code_formals c) (declared_names (code_body c)) (code_body c) uses) (bound_names c)

-- no function inside uses the name that may be there
abbrev pub is_not_captured : Option (List ℕ) → List Use → Bool
is_not_captured None uses = true
is_not_captured (Some x) uses = not (is_captured x uses)

-- a function declaration has a captured variable which may not be
abbrev pub is_declaration_out_of_form : tree.Code → Bool
is_declaration_out_of_form c = not (are_variables_in_form c (stmts_uses (code_body c)))

-- a function expression has one, or its own name is captured
abbrev pub is_expression_out_of_form : tree.Code → Bool
is_expression_out_of_form c = not (are_variables_in_form c (stmts_uses (code_body c)) && is_not_captured (own_name c) (stmts_uses (code_body c)))

-- the parameter of a catch clause with this block, whose uses are these, is not captured, or may be
abbrev pub is_parameter_in_form : List ℕ → tree.Stmts → List Use → Bool
is_parameter_in_form x ss uses = not (is_captured x uses) || (is_reserved x && (boxes x ss && is_assigned_once x uses))

abbrev pub is_clause_out_of_form : List ℕ → tree.Stmts → Bool
is_clause_out_of_form x ss = not (is_parameter_in_form x ss (stmts_uses ss))

-- a function or a catch clause that has a captured variable which may not be
abbrev pub scope_out_of_form : Node → Bool
scope_out_of_form n = of_scopes is_expression_out_of_form is_declaration_out_of_form is_clause_out_of_form n

-- a function declaration stands in the statement, which may be one itself
abbrev pub declares_inside : tree.Stmt → Bool
declares_inside (function c) = code_any is_declaration c
declares_inside s = stmt_any is_declaration s

-- a function declaration stands elsewhere than at the top of the script
abbrev pub has_inner_declaration : tree.Stmts → Bool
has_inner_declaration no_stmts = false
has_inner_declaration (then_stmt s ss) = declares_inside s || has_inner_declaration ss

abbrev pub any_use_is_reserved : List Use → Bool
any_use_is_reserved uses = list_any (λ u. is_reserved u.name) uses

abbrev pub any_is_reserved : List (List ℕ) → Bool
any_is_reserved names = list_any is_reserved names

-- a use of a reserved name that is no variable, formal or parameter of a function or catch clause round it, or a reserved
-- name that the script declares at its top
abbrev pub has_open_reserved : tree.Stmts → Bool
has_open_reserved script = any_use_is_reserved (stmts_uses script) || any_is_reserved (declared_names script)

-- the script is in form
abbrev pub in_form : tree.Stmts → Bool
in_form script = not (has_open_reserved script) && not (has_inner_declaration script) && not (stmts_any scope_out_of_form script)

-- the script has an identifier that is a reserved name
abbrev pub has_reserved_name : tree.Stmts → Bool
has_reserved_name script = stmts_any has_reserved_identifier script

-- the script has such a function
abbrev pub has_high_function : tree.Stmts → Bool
has_high_function script = stmts_any is_high_function script
