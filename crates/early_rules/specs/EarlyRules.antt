-- The early rules: what a script may not have (ECMA-262 5.1 section 16, in strict code, and rules of this program).
use Rattle.std.specs.Prelude.{ℕ, Bool, true, false, not, ◌||◌, List, [], ◌∷◌, Option, Some, None}
use Rattle.std.specs.List.{list_any, find}
use Rattle.js_core.specs.Tree as tree
use Rattle.js_core.specs.Tree.{name, num, text, bool, null, this, list, literal, func, member, index, call, construct, unary, update, binary, logical_and, logical_or, conditional, assign, comma, no_exprs, then_expr, no_expr, one_expr, no_holes, then_hole, no_fields, then_field, code, var, function, expr, empty, block, if_else, do_while, while, for, for_in, continue, break, return, throw, try, switch, no_stmts, then_stmt, no_body, one_body, no_declarators, then_declarator, no_init, init_var, init_expr, no_catch, one_catch, no_cases, then_case}
use Rattle.global_names.specs.Names.{names_global}
use Rattle.js_core.specs.declared.operators.UnaryOp.TheVariants.{Delete}
use Rattle.early_rules.specs.declared.early_rule.EarlyRule.{EarlyRule}
use Rattle.early_rules.specs.declared.early_rule.EarlyRule.TheVariants as rule
use Rattle.early_rules.specs.declared.jump.Jump.TheVariants as jump
use Rattle.scope_analysis.specs.Names.{has_repeat, code_name, code_formals, code_body, own_name}
use Rattle.scope_analysis.specs.Nodes.{Node, of_scopes, expression, statement, stmts_any}
use Rattle.scope_analysis.specs.Identifiers.{identifiers, is_restricted}
use Rattle.early_rules.specs.Jumps.{leaves, strays}
use Rattle.scope_analysis.specs.Uses.{Use, stmts_uses, is_assigned}

-- the node is a function, and it passes the test
abbrev pub is_function : (tree.Code → Bool) → Node → Bool
is_function test (expression is_callee (func c)) = test c
is_function test (statement (function c)) = test c
is_function test n = false

-- 1: two formals of a function have one name (13.1)
abbrev pub repeats_formal : Node → Bool
repeats_formal n = is_function (λ c. has_repeat (code_formals c)) n

abbrev pub field_names : tree.Fields → List (List ℕ)
field_names no_fields = []
field_names (then_field x e fs) = x ∷ field_names fs

abbrev pub repeats_name : tree.Fields → Bool
repeats_name fs = has_repeat (field_names fs)

-- 2: two properties of an object literal have one name (11.1.5)
abbrev pub repeats_field : Node → Bool
repeats_field (expression is_callee (literal fs)) = repeats_name fs
repeats_field n = false

abbrev pub is_name : tree.Expr → Bool
is_name (name x) = true
is_name e = false

-- 3: `delete` of a name, in parentheses or not (11.4.1)
abbrev pub deletes_name : Node → Bool
deletes_name (expression is_callee (unary Delete a)) = is_name a
deletes_name n = false

-- 4: `eval` or `arguments` where it is no name of a property
abbrev pub has_restricted_name : Node → Bool
has_restricted_name n = list_any is_restricted (identifiers n)

-- 6: a `break` or `continue` of this function without a loop or `switch` for it (12.7, 12.8)
abbrev pub has_stray_jump : Node → Bool
has_stray_jump n = is_function (λ c. strays (code_body c)) n

abbrev pub is_target : tree.Expr → Bool
is_target (name x) = true
is_target (member e x) = true
is_target (index a b) = true
is_target e = false

-- 7: an assignment to what is neither a name nor a property (8.7.2)
abbrev pub has_bad_target : Node → Bool
has_bad_target (expression is_callee (update up prefix a)) = not (is_target a)
has_bad_target (expression is_callee (assign op a b)) = not (is_target a)
has_bad_target (statement (for_in declared t e body)) = not (is_target t)
has_bad_target n = false

-- among these uses the name that may be there is assigned to
abbrev pub assigns_maybe : Option (List ℕ) → List Use → Bool
assigns_maybe None uses = false
assigns_maybe (Some x) uses = is_assigned x uses

-- 8: the own name of a function expression is assigned to
abbrev pub assigns_own : tree.Code → Bool
assigns_own c = assigns_maybe (own_name c) (stmts_uses (code_body c))

abbrev pub assigns_own_name : Node → Bool
assigns_own_name n = of_scopes assigns_own (λ c. false) (λ x ss. false) n

abbrev pub is_global : Option (List ℕ) → Bool
is_global None = false
is_global (Some x) = names_global x

-- a function declaration with a built-in global name
abbrev pub declares_global : tree.Stmt → Bool
declares_global (function c) = is_global (code_name c)
declares_global s = false

-- 9: one at the top of the script
abbrev pub redeclares_global : tree.Stmts → Bool
redeclares_global no_stmts = false
redeclares_global (then_stmt s ss) = declares_global s || redeclares_global ss

abbrev pub breaks : EarlyRule → tree.Stmts → Bool
breaks rule.RepeatedFormal script = stmts_any repeats_formal script
breaks rule.RepeatedField script = stmts_any repeats_field script
breaks rule.DeletedName script = stmts_any deletes_name script
breaks rule.RestrictedName script = stmts_any has_restricted_name script
-- 5: `return` outside a function (12.9)
breaks rule.StrayReturn script = leaves jump.Return script
breaks rule.StrayJump script = strays script || stmts_any has_stray_jump script
breaks rule.BadTarget script = stmts_any has_bad_target script
breaks rule.AssignedOwnName script = stmts_any assigns_own_name script
breaks rule.RedeclaredGlobal script = redeclares_global script

-- in the order of their numbers
unfoldable pub early_rules : List EarlyRule
early_rules =
    rule.RepeatedFormal ∷ rule.RepeatedField ∷ rule.DeletedName ∷ rule.RestrictedName ∷ rule.StrayReturn
    ∷ rule.StrayJump ∷ rule.BadTarget ∷ rule.AssignedOwnName ∷ rule.RedeclaredGlobal ∷ []

-- the first of these rules that the script breaks
abbrev pub first_broken : List EarlyRule → tree.Stmts → Option EarlyRule
first_broken rules script = find (λ r. breaks r script) rules

-- the early rule with the lowest number that the script breaks, wherever it does
abbrev pub early_rule : tree.Stmts → Option EarlyRule
early_rule script = first_broken early_rules script

abbrev pub rule_number : EarlyRule → ℕ
rule_number rule.RepeatedFormal = 1
rule_number rule.RepeatedField = 2
rule_number rule.DeletedName = 3
rule_number rule.RestrictedName = 4
rule_number rule.StrayReturn = 5
rule_number rule.StrayJump = 6
rule_number rule.BadTarget = 7
rule_number rule.AssignedOwnName = 8
rule_number rule.RedeclaredGlobal = 9
