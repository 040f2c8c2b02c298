-- The recursion of opening: each function's measure is four times the size of what it opens, and how many calls come before the
-- next smaller part.
use Rattle.std.proofs.Common.{◌≡◌, ◌≤◌, ◌+◌, ◌*◌, ◌++◌, length, map, option_map}
use Rattle.std.specs.Rc.{rc_value}
use Rattle.js_core.specs.Height.{cases_height, declarators_height, exprs_height, fields_height, holes_height, stmts_height}
use Rattle.js_core.specs.Sizes.{expr_size, exprs_size, maybe_expr_size, holes_size, fields_size, code_size, stmt_size, stmts_size, maybe_stmts_size, declarators_size, for_init_size, maybe_catch_size, cases_size}
use Rattle.js_core.specs.Tree.{exprs_of, maybe_expr, holes_of, fields_of, stmts_of, maybe_stmts}
use Rattle.js_core.specs.Views.{declarators_of, init_of, catch_of, cases_of}
use Rattle.early_rules.specs.Limits.{plain_height_limit}
use Rattle.instrumenter.specs.Around.{append, as_statements, assignments}
use Rattle.instrumenter.specs.Counting.{cases_scopes, declarators_scopes, exprs_scopes, fields_scopes, holes_scopes, stmts_scopes}
use Rattle.instrumenter.specs.Levels.{around_of}
use Rattle.instrumenter.specs.Opening.{open_cases, open_declarations, open_declarators, open_stmts}
use Rattle.instrumenter.proofs.Appended.{after_cases, assigned_list, declarator_list, expr_list, field_list, hole_list}
use Rattle.instrumenter.proofs.+opening.Given as goal

abbrev pub decreases-expressions::open_expression : goal.decreases-expressions::open_expression
decreases-expressions::open_expression l = 4 * (expr_size l.expression.now)

abbrev pub decreases-expressions::open_list : goal.decreases-expressions::open_list
decreases-expressions::open_list l = 4 * (holes_size (holes_of l.elements.now)) + 1

abbrev pub decreases-expressions::open_literal : goal.decreases-expressions::open_literal
decreases-expressions::open_literal l = 4 * (fields_size (fields_of l.fields.now)) + 1

abbrev pub decreases-expressions::open_member : goal.decreases-expressions::open_member
decreases-expressions::open_member l = 4 * (expr_size l.object.now) + 1

abbrev pub decreases-expressions::open_unary : goal.decreases-expressions::open_unary
decreases-expressions::open_unary l = 4 * (expr_size l.operand.now) + 1

abbrev pub decreases-expressions::open_update : goal.decreases-expressions::open_update
decreases-expressions::open_update l = 4 * (expr_size l.target.now) + 1

abbrev pub decreases-expressions::open_both : goal.decreases-expressions::open_both
decreases-expressions::open_both l = 4 * (expr_size l.left.now + expr_size l.right.now) + 1

abbrev pub decreases-expressions::open_index : goal.decreases-expressions::open_index
decreases-expressions::open_index l = 4 * (expr_size l.left.now + expr_size l.right.now) + 2

abbrev pub decreases-expressions::open_binary : goal.decreases-expressions::open_binary
decreases-expressions::open_binary l = 4 * (expr_size l.left.now + expr_size l.right.now) + 2

abbrev pub decreases-expressions::open_and : goal.decreases-expressions::open_and
decreases-expressions::open_and l = 4 * (expr_size l.left.now + expr_size l.right.now) + 2

abbrev pub decreases-expressions::open_or : goal.decreases-expressions::open_or
decreases-expressions::open_or l = 4 * (expr_size l.left.now + expr_size l.right.now) + 2

abbrev pub decreases-expressions::open_assign : goal.decreases-expressions::open_assign
decreases-expressions::open_assign l = 4 * (expr_size l.left.now + expr_size l.right.now) + 2

abbrev pub decreases-expressions::open_conditional : goal.decreases-expressions::open_conditional
decreases-expressions::open_conditional l = 4 * (expr_size l.test.now + expr_size l.first.now + expr_size l.second.now) + 1

abbrev pub decreases-expressions::open_call : goal.decreases-expressions::open_call
decreases-expressions::open_call l = 4 * (expr_size l.callee.now + exprs_size (exprs_of l.values.now)) + 1

abbrev pub decreases-expressions::open_new : goal.decreases-expressions::open_new
decreases-expressions::open_new l = 4 * (expr_size l.callee.now + exprs_size (exprs_of l.values.now)) + 1

abbrev pub decreases-expressions::open_comma : goal.decreases-expressions::open_comma
decreases-expressions::open_comma l = 4 * (exprs_size (exprs_of l.parts.now)) + 1

abbrev pub decreases-expressions::open_expressions : goal.decreases-expressions::open_expressions
decreases-expressions::open_expressions l = 4 * (exprs_size (exprs_of l.expressions.now))

abbrev pub decreases-expressions::open_elements : goal.decreases-expressions::open_elements
decreases-expressions::open_elements l = 4 * (holes_size (holes_of l.elements.now))

abbrev pub decreases-expressions::open_fields : goal.decreases-expressions::open_fields
decreases-expressions::open_fields l = 4 * (fields_size (fields_of l.fields.now))

abbrev pub decreases-expressions::open_maybe_expression : goal.decreases-expressions::open_maybe_expression
decreases-expressions::open_maybe_expression l = 4 * (maybe_expr_size (maybe_expr l.expression.now))

abbrev pub decreases-functions::open_function_expression : goal.decreases-functions::open_function_expression
decreases-functions::open_function_expression l = 4 * (code_size l.code.now) + 2

abbrev pub decreases-functions::open_declared : goal.decreases-functions::open_declared
decreases-functions::open_declared l = 4 * (code_size l.code.now) + 2

abbrev pub decreases-functions::open_function : goal.decreases-functions::open_function
decreases-functions::open_function l = 4 * (code_size l.code.now) + 1

abbrev pub decreases-functions::push_body : goal.decreases-functions::push_body
decreases-functions::push_body l = 4 * (stmts_size (stmts_of l.body.now))

abbrev pub decreases-functions::push_part : goal.decreases-functions::push_part
decreases-functions::push_part l = 4 * (stmt_size l.statement.now) + 2

abbrev pub decreases-functions::push_declaration : goal.decreases-functions::push_declaration
decreases-functions::push_declaration l = 4 * (code_size l.code.now) + 3

abbrev pub decreases-statements::push_statement : goal.decreases-statements::push_statement
decreases-statements::push_statement l = 4 * (stmt_size l.statement.now) + 1

abbrev pub decreases-statements::leave_out : goal.decreases-statements::leave_out
decreases-statements::leave_out l = 4 * (code_size l.code.now) + 3

abbrev pub decreases-statements::push_expression : goal.decreases-statements::push_expression
decreases-statements::push_expression l = 4 * (expr_size l.value.now) + 2

abbrev pub decreases-statements::push_block : goal.decreases-statements::push_block
decreases-statements::push_block l = 4 * (stmts_size (stmts_of l.body.now)) + 2

abbrev pub decreases-statements::push_if : goal.decreases-statements::push_if
decreases-statements::push_if l = 4 * (expr_size l.test.now + stmts_size (stmts_of l.first.now) + maybe_stmts_size (maybe_stmts (option_map (λ v. v.items) l.second.now))) + 3

abbrev pub decreases-statements::push_return : goal.decreases-statements::push_return
decreases-statements::push_return l = 4 * (maybe_expr_size (maybe_expr l.value.now)) + 2

abbrev pub decreases-statements::push_throw : goal.decreases-statements::push_throw
decreases-statements::push_throw l = 4 * (expr_size l.value.now) + 2

abbrev pub decreases-statements::push_try : goal.decreases-statements::push_try
decreases-statements::push_try l = 4 * (stmts_size (stmts_of l.block.now) + maybe_catch_size (catch_of l.catch.now) + maybe_stmts_size (maybe_stmts (option_map (λ v. v.items) l.last.now))) + 3

abbrev pub decreases-statements::push_switch : goal.decreases-statements::push_switch
decreases-statements::push_switch l = 4 * (expr_size l.value.now + cases_size (cases_of l.cases.now)) + 3

abbrev pub decreases-statements::open_maybe_body : goal.decreases-statements::open_maybe_body
decreases-statements::open_maybe_body l = 4 * (maybe_stmts_size (maybe_stmts (option_map (λ v. v.items) l.body.now)))

abbrev pub decreases-statements::open_cases : goal.decreases-statements::open_cases
decreases-statements::open_cases l = 4 * (cases_size (cases_of l.cases.now))

abbrev pub decreases-statements::open_statements : goal.decreases-statements::open_statements
decreases-statements::open_statements l = 4 * (stmts_size (stmts_of l.statements.now)) + 1

abbrev pub decreases-statements::push_statements : goal.decreases-statements::push_statements
decreases-statements::push_statements l = 4 * (stmts_size (stmts_of l.statements.now))

abbrev pub decreases-loops::push_do : goal.decreases-loops::push_do
decreases-loops::push_do l = 4 * (stmts_size (stmts_of l.body.now) + expr_size l.test.now) + 3

abbrev pub decreases-loops::push_while : goal.decreases-loops::push_while
decreases-loops::push_while l = 4 * (expr_size l.test.now + stmts_size (stmts_of l.body.now)) + 3

abbrev pub decreases-loops::push_for : goal.decreases-loops::push_for
decreases-loops::push_for l = 4 * (for_init_size (init_of l.init.now) + maybe_expr_size (maybe_expr l.test.now) + maybe_expr_size (maybe_expr l.step.now) + stmts_size (stmts_of l.body.now)) + 3

abbrev pub decreases-loops::push_for_in : goal.decreases-loops::push_for_in
decreases-loops::push_for_in l = 4 * (expr_size l.target.now + expr_size l.object.now + stmts_size (stmts_of l.body.now)) + 3

abbrev pub decreases-loops::open_init : goal.decreases-loops::open_init
decreases-loops::open_init l = 4 * (for_init_size (init_of l.init.now))

abbrev pub decreases-variables::push_variables : goal.decreases-variables::push_variables
decreases-variables::push_variables l = 4 * (declarators_size (declarators_of l.declarators.now)) + 3

abbrev pub decreases-variables::push_assignments : goal.decreases-variables::push_assignments
decreases-variables::push_assignments l = 4 * (declarators_size (declarators_of l.declarators.now)) + 1

abbrev pub decreases-variables::open_initialiser : goal.decreases-variables::open_initialiser
decreases-variables::open_initialiser l = 4 * (expr_size l.value.now) + 1

abbrev pub decreases-variables::open_header : goal.decreases-variables::open_header
decreases-variables::open_header l = 4 * (declarators_size (declarators_of l.declarators.now)) + 2

abbrev pub decreases-variables::open_initialisers : goal.decreases-variables::open_initialisers
decreases-variables::open_initialisers l = 4 * (declarators_size (declarators_of l.declarators.now)) + 1

abbrev pub decreases-variables::open_declarators : goal.decreases-variables::open_declarators
decreases-variables::open_declarators l = 4 * (declarators_size (declarators_of l.declarators.now)) + 1

abbrev pub decreases-catches::open_catch : goal.decreases-catches::open_catch
decreases-catches::open_catch l = 4 * (maybe_catch_size (catch_of l.catch.now))

abbrev pub decreases-catches::open_clause : goal.decreases-catches::open_clause
decreases-catches::open_clause l = 4 * (stmts_size (stmts_of l.clause.now.body.items)) + 2

abbrev pub invariant-expressions::open_expressions-loop-rest : goal.invariant-expressions::open_expressions-loop-rest
invariant-expressions::open_expressions-loop-rest l = record {
  opened : l.opened.items ++ expr_list (around_of (map rc_value l.levels)) l.next l.rest ≡ expr_list (around_of (map rc_value l.levels)) l.initial.next l.expressions;
  counted : l.next + exprs_scopes (exprs_of l.rest) ≡ l.initial.next + exprs_scopes (exprs_of l.expressions);
  low : exprs_height (exprs_of l.rest) ≤ plain_height_limit;
  inside : exprs_size (exprs_of l.rest) ≤ exprs_size (exprs_of l.expressions);
}

abbrev pub decreases-expressions::open_expressions-loop-rest : goal.decreases-expressions::open_expressions-loop-rest
decreases-expressions::open_expressions-loop-rest l = length l.rest

abbrev pub invariant-expressions::open_elements-loop-rest : goal.invariant-expressions::open_elements-loop-rest
invariant-expressions::open_elements-loop-rest l = record {
  opened : l.opened.items ++ hole_list (around_of (map rc_value l.levels)) l.next l.rest ≡ hole_list (around_of (map rc_value l.levels)) l.initial.next l.elements;
  counted : l.next + holes_scopes (holes_of l.rest) ≡ l.initial.next + holes_scopes (holes_of l.elements);
  low : holes_height (holes_of l.rest) ≤ plain_height_limit;
  inside : holes_size (holes_of l.rest) ≤ holes_size (holes_of l.elements);
}

abbrev pub decreases-expressions::open_elements-loop-rest : goal.decreases-expressions::open_elements-loop-rest
decreases-expressions::open_elements-loop-rest l = length l.rest

abbrev pub invariant-expressions::open_fields-loop-rest : goal.invariant-expressions::open_fields-loop-rest
invariant-expressions::open_fields-loop-rest l = record {
  opened : l.opened.items ++ field_list (around_of (map rc_value l.levels)) l.next l.rest ≡ field_list (around_of (map rc_value l.levels)) l.initial.next l.fields;
  counted : l.next + fields_scopes (fields_of l.rest) ≡ l.initial.next + fields_scopes (fields_of l.fields);
  low : fields_height (fields_of l.rest) ≤ plain_height_limit;
  inside : fields_size (fields_of l.rest) ≤ fields_size (fields_of l.fields);
}

abbrev pub decreases-expressions::open_fields-loop-rest : goal.decreases-expressions::open_fields-loop-rest
decreases-expressions::open_fields-loop-rest l = length l.rest

abbrev pub invariant-variables::open_declarators-loop-rest : goal.invariant-variables::open_declarators-loop-rest
invariant-variables::open_declarators-loop-rest l = record {
  opened : l.opened.items ++ declarator_list (around_of (map rc_value l.levels)) l.next l.rest ≡ declarator_list (around_of (map rc_value l.levels)) l.initial.next l.declarators;
  counted : l.next + declarators_scopes (declarators_of l.rest) ≡ l.initial.next + declarators_scopes (declarators_of l.declarators);
  low : declarators_height (declarators_of l.rest) ≤ plain_height_limit;
  inside : declarators_size (declarators_of l.rest) ≤ declarators_size (declarators_of l.declarators);
}

abbrev pub decreases-variables::open_declarators-loop-rest : goal.decreases-variables::open_declarators-loop-rest
decreases-variables::open_declarators-loop-rest l = length l.rest

abbrev pub invariant-variables::open_initialisers-loop-rest : goal.invariant-variables::open_initialisers-loop-rest
invariant-variables::open_initialisers-loop-rest l = record {
  opened : l.assignments.items ++ assigned_list (around_of (map rc_value l.levels)) l.next l.rest ≡ assigned_list (around_of (map rc_value l.levels)) l.initial.next l.declarators;
  counted : l.next + declarators_scopes (declarators_of l.rest) ≡ l.initial.next + declarators_scopes (declarators_of l.declarators);
  low : declarators_height (declarators_of l.rest) ≤ plain_height_limit;
  inside : declarators_size (declarators_of l.rest) ≤ declarators_size (declarators_of l.declarators);
}

abbrev pub decreases-variables::open_initialisers-loop-rest : goal.decreases-variables::open_initialisers-loop-rest
decreases-variables::open_initialisers-loop-rest l = length l.rest

abbrev pub invariant-statements::push_statements-loop-rest : goal.invariant-statements::push_statements-loop-rest
invariant-statements::push_statements-loop-rest l = record {
  opened : append (stmts_of l.out.items) (open_stmts (around_of (map rc_value l.levels)) l.next (stmts_of l.rest)) ≡ append (stmts_of l.initial.out.items) (open_stmts (around_of (map rc_value l.levels)) l.initial.next (stmts_of l.statements));
  counted : l.next + stmts_scopes (stmts_of l.rest) ≡ l.initial.next + stmts_scopes (stmts_of l.statements);
  low : stmts_height (stmts_of l.rest) ≤ plain_height_limit;
  inside : stmts_size (stmts_of l.rest) ≤ stmts_size (stmts_of l.statements);
}

abbrev pub decreases-statements::push_statements-loop-rest : goal.decreases-statements::push_statements-loop-rest
decreases-statements::push_statements-loop-rest l = length l.rest

abbrev pub invariant-functions::push_body-loop-rest : goal.invariant-functions::push_body-loop-rest
invariant-functions::push_body-loop-rest l = record {
  declared : append (stmts_of l.declared.items) (open_declarations (around_of (map rc_value l.levels)) l.next (stmts_of l.rest)) ≡ append (stmts_of l.initial.declared.items) (open_declarations (around_of (map rc_value l.levels)) l.initial.next (stmts_of l.body));
  others : append (stmts_of l.others.items) (open_stmts (around_of (map rc_value l.levels)) l.next (stmts_of l.rest)) ≡ append (stmts_of l.initial.others.items) (open_stmts (around_of (map rc_value l.levels)) l.initial.next (stmts_of l.body));
  counted : l.next + stmts_scopes (stmts_of l.rest) ≡ l.initial.next + stmts_scopes (stmts_of l.body);
  low : stmts_height (stmts_of l.rest) ≤ plain_height_limit;
  inside : stmts_size (stmts_of l.rest) ≤ stmts_size (stmts_of l.body);
}

abbrev pub decreases-functions::push_body-loop-rest : goal.decreases-functions::push_body-loop-rest
decreases-functions::push_body-loop-rest l = length l.rest

abbrev pub invariant-variables::push_assignments-loop-rest : goal.invariant-variables::push_assignments-loop-rest
invariant-variables::push_assignments-loop-rest l = record {
  opened : append (stmts_of l.out.items) (as_statements (assignments (around_of (map rc_value l.levels)) (open_declarators (around_of (map rc_value l.levels)) l.next (declarators_of l.rest)))) ≡ append (stmts_of l.initial.out.items) (as_statements (assignments (around_of (map rc_value l.levels)) (open_declarators (around_of (map rc_value l.levels)) l.initial.next (declarators_of l.declarators))));
  counted : l.next + declarators_scopes (declarators_of l.rest) ≡ l.initial.next + declarators_scopes (declarators_of l.declarators);
  low : declarators_height (declarators_of l.rest) ≤ plain_height_limit;
  inside : declarators_size (declarators_of l.rest) ≤ declarators_size (declarators_of l.declarators);
}

abbrev pub decreases-variables::push_assignments-loop-rest : goal.decreases-variables::push_assignments-loop-rest
decreases-variables::push_assignments-loop-rest l = length l.rest

abbrev pub invariant-statements::open_cases-loop-rest : goal.invariant-statements::open_cases-loop-rest
invariant-statements::open_cases-loop-rest l = record {
  opened : after_cases (cases_of l.opened.items) (open_cases (around_of (map rc_value l.levels)) l.next (cases_of l.rest)) ≡ open_cases (around_of (map rc_value l.levels)) l.initial.next (cases_of l.cases);
  counted : l.next + cases_scopes (cases_of l.rest) ≡ l.initial.next + cases_scopes (cases_of l.cases);
  low : cases_height (cases_of l.rest) ≤ plain_height_limit;
  inside : cases_size (cases_of l.rest) ≤ cases_size (cases_of l.cases);
}

abbrev pub decreases-statements::open_cases-loop-rest : goal.decreases-statements::open_cases-loop-rest
decreases-statements::open_cases-loop-rest l = length l.rest

abbrev pub decreases-variables::push_initialiser : goal.decreases-variables::push_initialiser
decreases-variables::push_initialiser l = 4 * (maybe_expr_size (maybe_expr l.value.now))
