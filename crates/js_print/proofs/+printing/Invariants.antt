-- The recursion of the printing: each function's measure is four times the size of what it prints, and how many calls
-- come before the next smaller part.
use Rattle.std.proofs.Common.{◌≡◌, ◌≤◌, ◌+◌, ◌*◌, ◌++◌, length, option_map}
use Rattle.js_core.specs.Tree.{exprs_of, maybe_expr, holes_of, fields_of, stmts_of, maybe_stmts}
use Rattle.js_core.specs.Views.{declarators_of, init_of, catch_of, cases_of}
use Rattle.js_core.specs.Sizes.{expr_size, exprs_size, maybe_expr_size, holes_size, fields_size, code_size, stmt_size, stmts_size, maybe_stmts_size, declarators_size, for_init_size, maybe_catch_size, cases_size}
use Rattle.js_print.specs.Lexemes as spec
use Rattle.js_print.proofs.+printing.Given as goal

abbrev pub decreases-expressions::push_placed : goal.decreases-expressions::push_placed
decreases-expressions::push_placed l = 4 * (expr_size l.expression.now) + 1

abbrev pub decreases-expressions::push_expression : goal.decreases-expressions::push_expression
decreases-expressions::push_expression l = 4 * (expr_size l.expression.now)

abbrev pub decreases-expressions::push_infix : goal.decreases-expressions::push_infix
decreases-expressions::push_infix l = 4 * (expr_size l.left.now + expr_size l.right.now) + 2

abbrev pub decreases-expressions::push_conditional : goal.decreases-expressions::push_conditional
decreases-expressions::push_conditional l = 4 * (expr_size l.test.now + expr_size l.first.now + expr_size l.second.now) + 2

abbrev pub decreases-expressions::push_update : goal.decreases-expressions::push_update
decreases-expressions::push_update l = 4 * (expr_size l.target.now) + 2

abbrev pub decreases-expressions::push_member : goal.decreases-expressions::push_member
decreases-expressions::push_member l = 4 * (expr_size l.object.now) + 2

abbrev pub decreases-expressions::push_index : goal.decreases-expressions::push_index
decreases-expressions::push_index l = 4 * (expr_size l.object.now + expr_size l.index.now) + 2

abbrev pub decreases-expressions::push_call : goal.decreases-expressions::push_call
decreases-expressions::push_call l = 4 * (expr_size l.callee.now + exprs_size (exprs_of l.arguments.now)) + 3

abbrev pub decreases-expressions::push_new : goal.decreases-expressions::push_new
decreases-expressions::push_new l = 4 * (expr_size l.callee.now + exprs_size (exprs_of l.arguments.now)) + 3

abbrev pub decreases-expressions::push_arguments : goal.decreases-expressions::push_arguments
decreases-expressions::push_arguments l = 4 * (exprs_size (exprs_of l.arguments.now)) + 2

abbrev pub decreases-expressions::push_parts : goal.decreases-expressions::push_parts
decreases-expressions::push_parts l = 4 * (exprs_size (exprs_of l.parts.now)) + 1

abbrev pub decreases-expressions::push_more_parts : goal.decreases-expressions::push_more_parts
decreases-expressions::push_more_parts l = 4 * (exprs_size (exprs_of l.parts.now))

abbrev pub decreases-expressions::push_list : goal.decreases-expressions::push_list
decreases-expressions::push_list l = 4 * (holes_size (holes_of l.elements.now)) + 1

abbrev pub decreases-expressions::push_elements : goal.decreases-expressions::push_elements
decreases-expressions::push_elements l = 4 * (holes_size (holes_of l.elements.now))

abbrev pub decreases-expressions::push_element : goal.decreases-expressions::push_element
decreases-expressions::push_element l = 4 * (maybe_expr_size (maybe_expr l.element.now))

abbrev pub decreases-expressions::push_literal : goal.decreases-expressions::push_literal
decreases-expressions::push_literal l = 4 * (fields_size (fields_of l.fields.now)) + 2

abbrev pub decreases-expressions::push_fields : goal.decreases-expressions::push_fields
decreases-expressions::push_fields l = 4 * (fields_size (fields_of l.fields.now)) + 1

abbrev pub decreases-expressions::push_more_fields : goal.decreases-expressions::push_more_fields
decreases-expressions::push_more_fields l = 4 * (fields_size (fields_of l.fields.now))

abbrev pub decreases-expressions::push_field : goal.decreases-expressions::push_field
decreases-expressions::push_field l = 4 * (expr_size l.value.now) + 2

abbrev pub decreases-expressions::push_code : goal.decreases-expressions::push_code
decreases-expressions::push_code l = 4 * (code_size l.code.now)

abbrev pub decreases-statements::push_statements : goal.decreases-statements::push_statements
decreases-statements::push_statements l = 4 * (stmts_size (stmts_of l.statements.now))

abbrev pub decreases-statements::push_body : goal.decreases-statements::push_body
decreases-statements::push_body l = 4 * (stmts_size (stmts_of l.statements.now)) + 1

abbrev pub decreases-statements::push_statement : goal.decreases-statements::push_statement
decreases-statements::push_statement l = 4 * (stmt_size l.statement.now)

abbrev pub decreases-statements::push_variables : goal.decreases-statements::push_variables
decreases-statements::push_variables l = 4 * (declarators_size (declarators_of l.declarators.now)) + 2

abbrev pub decreases-statements::push_declarators : goal.decreases-statements::push_declarators
decreases-statements::push_declarators l = 4 * (declarators_size (declarators_of l.declarators.now)) + 1

abbrev pub decreases-statements::push_more_declarators : goal.decreases-statements::push_more_declarators
decreases-statements::push_more_declarators l = 4 * (declarators_size (declarators_of l.declarators.now))

abbrev pub decreases-statements::push_initialiser : goal.decreases-statements::push_initialiser
decreases-statements::push_initialiser l = 4 * (maybe_expr_size (maybe_expr l.value.now))

abbrev pub decreases-statements::push_header : goal.decreases-statements::push_header
decreases-statements::push_header l = 4 * (expr_size l.expression.now) + 2

abbrev pub decreases-statements::push_maybe_whole : goal.decreases-statements::push_maybe_whole
decreases-statements::push_maybe_whole l = 4 * (maybe_expr_size (maybe_expr l.expression.now))

abbrev pub decreases-statements::push_if : goal.decreases-statements::push_if
decreases-statements::push_if l = 4 * (expr_size l.test.now + stmts_size (stmts_of l.first.now) + maybe_stmts_size (maybe_stmts (option_map (λ v. v.items) l.second.now))) + 3

abbrev pub decreases-statements::push_maybe_body : goal.decreases-statements::push_maybe_body
decreases-statements::push_maybe_body l = 4 * (maybe_stmts_size (maybe_stmts (option_map (λ v. v.items) l.body.now)))

abbrev pub decreases-statements::push_do : goal.decreases-statements::push_do
decreases-statements::push_do l = 4 * (stmts_size (stmts_of l.body.now) + expr_size l.test.now) + 3

abbrev pub decreases-statements::push_while : goal.decreases-statements::push_while
decreases-statements::push_while l = 4 * (expr_size l.test.now + stmts_size (stmts_of l.body.now)) + 3

abbrev pub decreases-statements::push_return : goal.decreases-statements::push_return
decreases-statements::push_return l = 4 * (maybe_expr_size (maybe_expr l.value.now)) + 2

abbrev pub decreases-statements::push_throw : goal.decreases-statements::push_throw
decreases-statements::push_throw l = 4 * (expr_size l.value.now) + 2

abbrev pub decreases-statements::push_for : goal.decreases-statements::push_for
decreases-statements::push_for l = 4 * (for_init_size (init_of l.init.now) + maybe_expr_size (maybe_expr l.test.now) + maybe_expr_size (maybe_expr l.step.now) + stmts_size (stmts_of l.body.now)) + 3

abbrev pub decreases-statements::push_init : goal.decreases-statements::push_init
decreases-statements::push_init l = 4 * (for_init_size (init_of l.init.now))

abbrev pub decreases-statements::push_for_in : goal.decreases-statements::push_for_in
decreases-statements::push_for_in l = 4 * (expr_size l.target.now + expr_size l.object.now + stmts_size (stmts_of l.body.now)) + 3

abbrev pub decreases-statements::push_for_header : goal.decreases-statements::push_for_header
decreases-statements::push_for_header l = 4 * (for_init_size (init_of l.init.now) + maybe_expr_size (maybe_expr l.test.now) + maybe_expr_size (maybe_expr l.step.now)) + 2

abbrev pub decreases-statements::push_for_in_header : goal.decreases-statements::push_for_in_header
decreases-statements::push_for_in_header l = 4 * (expr_size l.target.now + expr_size l.object.now) + 2

abbrev pub decreases-statements::push_try : goal.decreases-statements::push_try
decreases-statements::push_try l = 4 * (stmts_size (stmts_of l.block.now) + maybe_catch_size (catch_of l.catch.now) + maybe_stmts_size (maybe_stmts (option_map (λ v. v.items) l.last.now))) + 3

abbrev pub decreases-statements::push_maybe_catch : goal.decreases-statements::push_maybe_catch
decreases-statements::push_maybe_catch l = 4 * (maybe_catch_size (catch_of l.catch.now))

abbrev pub decreases-statements::push_switch : goal.decreases-statements::push_switch
decreases-statements::push_switch l = 4 * (expr_size l.value.now + cases_size (cases_of l.cases.now)) + 3

abbrev pub decreases-statements::push_cases : goal.decreases-statements::push_cases
decreases-statements::push_cases l = 4 * (cases_size (cases_of l.cases.now))

abbrev pub decreases-statements::push_label : goal.decreases-statements::push_label
decreases-statements::push_label l = 4 * (maybe_expr_size (maybe_expr l.test.now))

abbrev pub invariant-expressions::push_more_parts-loop-rest : goal.invariant-expressions::push_more_parts-loop-rest
invariant-expressions::push_more_parts-loop-rest l = record {
  printed : l.out.items ++ spec.more_parts_lexemes (exprs_of l.rest) ≡ l.initial.out.items ++ spec.more_parts_lexemes (exprs_of l.parts);
  inside : exprs_size (exprs_of l.rest) ≤ exprs_size (exprs_of l.parts);
}

abbrev pub decreases-expressions::push_more_parts-loop-rest : goal.decreases-expressions::push_more_parts-loop-rest
decreases-expressions::push_more_parts-loop-rest l = length l.rest

abbrev pub invariant-expressions::push_elements-loop-rest : goal.invariant-expressions::push_elements-loop-rest
invariant-expressions::push_elements-loop-rest l = record {
  printed : l.out.items ++ spec.holes_lexemes (holes_of l.rest) ≡ l.initial.out.items ++ spec.holes_lexemes (holes_of l.elements);
  inside : holes_size (holes_of l.rest) ≤ holes_size (holes_of l.elements);
}

abbrev pub decreases-expressions::push_elements-loop-rest : goal.decreases-expressions::push_elements-loop-rest
decreases-expressions::push_elements-loop-rest l = length l.rest

abbrev pub invariant-expressions::push_more_fields-loop-rest : goal.invariant-expressions::push_more_fields-loop-rest
invariant-expressions::push_more_fields-loop-rest l = record {
  printed : l.out.items ++ spec.more_fields_lexemes (fields_of l.rest) ≡ l.initial.out.items ++ spec.more_fields_lexemes (fields_of l.fields);
  inside : fields_size (fields_of l.rest) ≤ fields_size (fields_of l.fields);
}

abbrev pub decreases-expressions::push_more_fields-loop-rest : goal.decreases-expressions::push_more_fields-loop-rest
decreases-expressions::push_more_fields-loop-rest l = length l.rest

abbrev pub invariant-statements::push_statements-loop-rest : goal.invariant-statements::push_statements-loop-rest
invariant-statements::push_statements-loop-rest l = record {
  printed : l.out.items ++ spec.stmts_lexemes (stmts_of l.rest) ≡ l.initial.out.items ++ spec.stmts_lexemes (stmts_of l.statements);
  inside : stmts_size (stmts_of l.rest) ≤ stmts_size (stmts_of l.statements);
}

abbrev pub decreases-statements::push_statements-loop-rest : goal.decreases-statements::push_statements-loop-rest
decreases-statements::push_statements-loop-rest l = length l.rest

abbrev pub invariant-statements::push_more_declarators-loop-rest : goal.invariant-statements::push_more_declarators-loop-rest
invariant-statements::push_more_declarators-loop-rest l = record {
  printed : l.out.items ++ spec.more_declarators_lexemes (declarators_of l.rest) ≡ l.initial.out.items ++ spec.more_declarators_lexemes (declarators_of l.declarators);
  inside : declarators_size (declarators_of l.rest) ≤ declarators_size (declarators_of l.declarators);
}

abbrev pub decreases-statements::push_more_declarators-loop-rest : goal.decreases-statements::push_more_declarators-loop-rest
decreases-statements::push_more_declarators-loop-rest l = length l.rest

abbrev pub invariant-statements::push_cases-loop-rest : goal.invariant-statements::push_cases-loop-rest
invariant-statements::push_cases-loop-rest l = record {
  printed : l.out.items ++ spec.cases_lexemes (cases_of l.rest) ≡ l.initial.out.items ++ spec.cases_lexemes (cases_of l.cases);
  inside : cases_size (cases_of l.rest) ≤ cases_size (cases_of l.cases);
}

abbrev pub decreases-statements::push_cases-loop-rest : goal.decreases-statements::push_cases-loop-rest
decreases-statements::push_cases-loop-rest l = length l.rest
