-- The recursion of finding uses: each function's measure is three times the size of what it looks at, and 1 or 2 more where it comes
-- before another function at the same parts.
use Rattle.std.proofs.Common.{◌≡◌, ◌≤◌, ◌+◌, ◌*◌, ◌||◌, length, option_map}
use Rattle.js_core.specs.Tree.{exprs_of, maybe_expr, holes_of, fields_of, stmts_of, maybe_stmts}
use Rattle.js_core.specs.Views.{declarators_of, init_of, catch_of, cases_of}
use Rattle.js_core.specs.Sizes.{expr_size, exprs_size, maybe_expr_size, holes_size, fields_size, code_size, stmt_size, stmts_size, maybe_stmts_size, declarators_size, for_init_size, maybe_catch_size, cases_size}
use Rattle.script_rules.specs.ScopeTests.{scope_passes}
use Rattle.scope_analysis.specs.Nodes as nodes
use Rattle.scope_analysis.specs.UseTables.{noted}
use Rattle.scope_analysis.specs.Uses as spec
use Rattle.script_rules.proofs.uses.+using_names.Given as goal

abbrev pub decreases-note_statements : goal.decreases-note_statements
decreases-note_statements l = 3 * stmts_size (stmts_of l.statements.now)

abbrev pub decreases-note_statement : goal.decreases-note_statement
decreases-note_statement l = 3 * stmt_size l.statement.now

abbrev pub decreases-note_if : goal.decreases-note_if
decreases-note_if l = 3 * (expr_size l.parts.now.test + stmts_size (stmts_of l.parts.now.first.items) + maybe_stmts_size (maybe_stmts (option_map (λ v. v.items) l.parts.now.second))) + 1

abbrev pub decreases-note_for : goal.decreases-note_for
decreases-note_for l = 3 * (for_init_size (init_of l.parts.now.init) + maybe_expr_size (maybe_expr l.parts.now.test) + maybe_expr_size (maybe_expr l.parts.now.step) + stmts_size (stmts_of l.parts.now.body.items)) + 1

abbrev pub decreases-note_for_in : goal.decreases-note_for_in
decreases-note_for_in l = 3 * (expr_size l.target.now + expr_size l.object.now + stmts_size (stmts_of l.body.now)) + 2

abbrev pub decreases-note_try : goal.decreases-note_try
decreases-note_try l = 3 * (stmts_size (stmts_of l.parts.now.block.items) + maybe_catch_size (catch_of l.parts.now.catch) + maybe_stmts_size (maybe_stmts (option_map (λ v. v.items) l.parts.now.last))) + 1

abbrev pub decreases-note_maybe_body : goal.decreases-note_maybe_body
decreases-note_maybe_body l = 3 * maybe_stmts_size (maybe_stmts (option_map (λ v. v.items) l.body.now))

abbrev pub decreases-note_catch : goal.decreases-note_catch
decreases-note_catch l = 3 * maybe_catch_size (catch_of l.catch.now)

abbrev pub decreases-note_clause : goal.decreases-note_clause
decreases-note_clause l = 3 * stmts_size (stmts_of l.clause.now.body.items) + 1

abbrev pub decreases-note_cases : goal.decreases-note_cases
decreases-note_cases l = 3 * cases_size (cases_of l.cases.now)

abbrev pub decreases-note_declarators : goal.decreases-note_declarators
decreases-note_declarators l = 3 * declarators_size (declarators_of l.declarators.now)

abbrev pub decreases-note_declarator : goal.decreases-note_declarator
decreases-note_declarator l = 3 * maybe_expr_size (maybe_expr l.value.now)

abbrev pub decreases-note_init : goal.decreases-note_init
decreases-note_init l = 3 * for_init_size (init_of l.init.now)

abbrev pub decreases-note_declaration : goal.decreases-note_declaration
decreases-note_declaration l = 3 * code_size l.code.now

abbrev pub decreases-note_function : goal.decreases-note_function
decreases-note_function l = 3 * code_size l.code.now

abbrev pub decreases-note_expression : goal.decreases-note_expression
decreases-note_expression l = 3 * expr_size l.expression.now

abbrev pub decreases-note_both : goal.decreases-note_both
decreases-note_both l = 3 * (expr_size l.left.now + expr_size l.right.now) + 1

abbrev pub decreases-note_call : goal.decreases-note_call
decreases-note_call l = 3 * (expr_size l.callee.now + exprs_size (exprs_of l.arguments.now)) + 1

abbrev pub decreases-note_target : goal.decreases-note_target
decreases-note_target l = 3 * expr_size l.target.now + 1

abbrev pub decreases-note_expressions : goal.decreases-note_expressions
decreases-note_expressions l = 3 * exprs_size (exprs_of l.expressions.now)

abbrev pub decreases-note_maybe_expression : goal.decreases-note_maybe_expression
decreases-note_maybe_expression l = 3 * maybe_expr_size (maybe_expr l.expression.now)

abbrev pub decreases-note_elements : goal.decreases-note_elements
decreases-note_elements l = 3 * holes_size (holes_of l.elements.now)

abbrev pub decreases-note_fields : goal.decreases-note_fields
decreases-note_fields l = 3 * fields_size (fields_of l.fields.now)

abbrev pub invariant-note_statements-loop-rest : goal.invariant-note_statements-loop-rest
invariant-note_statements-loop-rest l = record {
  uses : noted l.out (spec.stmts_uses (stmts_of l.rest)) ≡ noted l.initial.out (spec.stmts_uses (stmts_of l.statements));
  left : (l.found || nodes.stmts_any (scope_passes l.test) (stmts_of l.rest)) ≡ nodes.stmts_any (scope_passes l.test) (stmts_of l.statements);
  inside : stmts_size (stmts_of l.rest) ≤ stmts_size (stmts_of l.statements);
}

abbrev pub decreases-note_statements-loop-rest : goal.decreases-note_statements-loop-rest
decreases-note_statements-loop-rest l = length l.rest

abbrev pub invariant-note_cases-loop-rest : goal.invariant-note_cases-loop-rest
invariant-note_cases-loop-rest l = record {
  uses : noted l.out (spec.cases_uses (cases_of l.rest)) ≡ noted l.initial.out (spec.cases_uses (cases_of l.cases));
  left : (l.found || nodes.cases_any (scope_passes l.test) (cases_of l.rest)) ≡ nodes.cases_any (scope_passes l.test) (cases_of l.cases);
  inside : cases_size (cases_of l.rest) ≤ cases_size (cases_of l.cases);
}

abbrev pub decreases-note_cases-loop-rest : goal.decreases-note_cases-loop-rest
decreases-note_cases-loop-rest l = length l.rest

abbrev pub invariant-note_declarators-loop-rest : goal.invariant-note_declarators-loop-rest
invariant-note_declarators-loop-rest l = record {
  uses : noted l.out (spec.declarators_uses (declarators_of l.rest)) ≡ noted l.initial.out (spec.declarators_uses (declarators_of l.declarators));
  left : (l.found || nodes.declarators_any (scope_passes l.test) (declarators_of l.rest)) ≡ nodes.declarators_any (scope_passes l.test) (declarators_of l.declarators);
  inside : declarators_size (declarators_of l.rest) ≤ declarators_size (declarators_of l.declarators);
}

abbrev pub decreases-note_declarators-loop-rest : goal.decreases-note_declarators-loop-rest
decreases-note_declarators-loop-rest l = length l.rest

abbrev pub invariant-note_expressions-loop-rest : goal.invariant-note_expressions-loop-rest
invariant-note_expressions-loop-rest l = record {
  uses : noted l.out (spec.exprs_uses (exprs_of l.rest)) ≡ noted l.initial.out (spec.exprs_uses (exprs_of l.expressions));
  left : (l.found || nodes.exprs_any (scope_passes l.test) (exprs_of l.rest)) ≡ nodes.exprs_any (scope_passes l.test) (exprs_of l.expressions);
  inside : exprs_size (exprs_of l.rest) ≤ exprs_size (exprs_of l.expressions);
}

abbrev pub decreases-note_expressions-loop-rest : goal.decreases-note_expressions-loop-rest
decreases-note_expressions-loop-rest l = length l.rest

abbrev pub invariant-note_elements-loop-rest : goal.invariant-note_elements-loop-rest
invariant-note_elements-loop-rest l = record {
  uses : noted l.out (spec.holes_uses (holes_of l.rest)) ≡ noted l.initial.out (spec.holes_uses (holes_of l.elements));
  left : (l.found || nodes.holes_any (scope_passes l.test) (holes_of l.rest)) ≡ nodes.holes_any (scope_passes l.test) (holes_of l.elements);
  inside : holes_size (holes_of l.rest) ≤ holes_size (holes_of l.elements);
}

abbrev pub decreases-note_elements-loop-rest : goal.decreases-note_elements-loop-rest
decreases-note_elements-loop-rest l = length l.rest

abbrev pub invariant-note_fields-loop-rest : goal.invariant-note_fields-loop-rest
invariant-note_fields-loop-rest l = record {
  uses : noted l.out (spec.fields_uses (fields_of l.rest)) ≡ noted l.initial.out (spec.fields_uses (fields_of l.fields));
  left : (l.found || nodes.fields_any (scope_passes l.test) (fields_of l.rest)) ≡ nodes.fields_any (scope_passes l.test) (fields_of l.fields);
  inside : fields_size (fields_of l.rest) ≤ fields_size (fields_of l.fields);
}

abbrev pub decreases-note_fields-loop-rest : goal.decreases-note_fields-loop-rest
decreases-note_fields-loop-rest l = length l.rest
