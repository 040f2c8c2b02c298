-- The recursion of visiting: each function's measure is the size of what it looks at.
use Rattle.std.proofs.Common.{◌≡◌, ◌≤◌, length, option_map}
use Rattle.js_core.specs.Tree.{exprs_of, maybe_expr, holes_of, fields_of, stmts_of, maybe_stmts}
use Rattle.js_core.specs.Views.{declarators_of, init_of, catch_of, cases_of}
use Rattle.js_core.specs.Sizes.{expr_size, exprs_size, maybe_expr_size, holes_size, fields_size, code_size, stmt_size, stmts_size, maybe_stmts_size, declarators_size, for_init_size, maybe_catch_size, cases_size}
use Rattle.early_rules.specs.NodeTests.{passes}
use Rattle.scope_analysis.specs.Nodes as spec
use Rattle.early_rules.proofs.nodes.+visiting.Given as goal

abbrev pub decreases-any_in_code : goal.decreases-any_in_code
decreases-any_in_code l = code_size l.code.now

abbrev pub decreases-any_in_statement : goal.decreases-any_in_statement
decreases-any_in_statement l = stmt_size l.statement.now

abbrev pub decreases-any_in_statements : goal.decreases-any_in_statements
decreases-any_in_statements l = stmts_size (stmts_of l.statements.now)

abbrev pub decreases-any_in_maybe_body : goal.decreases-any_in_maybe_body
decreases-any_in_maybe_body l = maybe_stmts_size (maybe_stmts (option_map (λ v. v.items) l.body.now))

abbrev pub decreases-any_in_catch : goal.decreases-any_in_catch
decreases-any_in_catch l = maybe_catch_size (catch_of l.catch.now)

abbrev pub decreases-any_in_cases : goal.decreases-any_in_cases
decreases-any_in_cases l = cases_size (cases_of l.cases.now)

abbrev pub decreases-any_in_declarators : goal.decreases-any_in_declarators
decreases-any_in_declarators l = declarators_size (declarators_of l.declarators.now)

abbrev pub decreases-any_in_init : goal.decreases-any_in_init
decreases-any_in_init l = for_init_size (init_of l.init.now)

abbrev pub decreases-any_in_expression : goal.decreases-any_in_expression
decreases-any_in_expression l = expr_size l.expression.now

abbrev pub decreases-any_in_expressions : goal.decreases-any_in_expressions
decreases-any_in_expressions l = exprs_size (exprs_of l.expressions.now)

abbrev pub decreases-any_in_maybe_expression : goal.decreases-any_in_maybe_expression
decreases-any_in_maybe_expression l = maybe_expr_size (maybe_expr l.expression.now)

abbrev pub decreases-any_in_elements : goal.decreases-any_in_elements
decreases-any_in_elements l = holes_size (holes_of l.elements.now)

abbrev pub decreases-any_in_fields : goal.decreases-any_in_fields
decreases-any_in_fields l = fields_size (fields_of l.fields.now)

abbrev pub invariant-any_in_statements-loop-rest : goal.invariant-any_in_statements-loop-rest
invariant-any_in_statements-loop-rest l = record {
  left : spec.stmts_any (passes l.test) (stmts_of l.rest) ≡ spec.stmts_any (passes l.test) (stmts_of l.statements);
  inside : stmts_size (stmts_of l.rest) ≤ stmts_size (stmts_of l.statements);
}

abbrev pub decreases-any_in_statements-loop-rest : goal.decreases-any_in_statements-loop-rest
decreases-any_in_statements-loop-rest l = length l.rest

abbrev pub invariant-any_in_cases-loop-rest : goal.invariant-any_in_cases-loop-rest
invariant-any_in_cases-loop-rest l = record {
  left : spec.cases_any (passes l.test) (cases_of l.rest) ≡ spec.cases_any (passes l.test) (cases_of l.cases);
  inside : cases_size (cases_of l.rest) ≤ cases_size (cases_of l.cases);
}

abbrev pub decreases-any_in_cases-loop-rest : goal.decreases-any_in_cases-loop-rest
decreases-any_in_cases-loop-rest l = length l.rest

abbrev pub invariant-any_in_declarators-loop-rest : goal.invariant-any_in_declarators-loop-rest
invariant-any_in_declarators-loop-rest l = record {
  left : spec.declarators_any (passes l.test) (declarators_of l.rest) ≡ spec.declarators_any (passes l.test) (declarators_of l.declarators);
  inside : declarators_size (declarators_of l.rest) ≤ declarators_size (declarators_of l.declarators);
}

abbrev pub decreases-any_in_declarators-loop-rest : goal.decreases-any_in_declarators-loop-rest
decreases-any_in_declarators-loop-rest l = length l.rest

abbrev pub invariant-any_in_expressions-loop-rest : goal.invariant-any_in_expressions-loop-rest
invariant-any_in_expressions-loop-rest l = record {
  left : spec.exprs_any (passes l.test) (exprs_of l.rest) ≡ spec.exprs_any (passes l.test) (exprs_of l.expressions);
  inside : exprs_size (exprs_of l.rest) ≤ exprs_size (exprs_of l.expressions);
}

abbrev pub decreases-any_in_expressions-loop-rest : goal.decreases-any_in_expressions-loop-rest
decreases-any_in_expressions-loop-rest l = length l.rest

abbrev pub invariant-any_in_elements-loop-rest : goal.invariant-any_in_elements-loop-rest
invariant-any_in_elements-loop-rest l = record {
  left : spec.holes_any (passes l.test) (holes_of l.rest) ≡ spec.holes_any (passes l.test) (holes_of l.elements);
  inside : holes_size (holes_of l.rest) ≤ holes_size (holes_of l.elements);
}

abbrev pub decreases-any_in_elements-loop-rest : goal.decreases-any_in_elements-loop-rest
decreases-any_in_elements-loop-rest l = length l.rest

abbrev pub invariant-any_in_fields-loop-rest : goal.invariant-any_in_fields-loop-rest
invariant-any_in_fields-loop-rest l = record {
  left : spec.fields_any (passes l.test) (fields_of l.rest) ≡ spec.fields_any (passes l.test) (fields_of l.fields);
  inside : fields_size (fields_of l.rest) ≤ fields_size (fields_of l.fields);
}

abbrev pub decreases-any_in_fields-loop-rest : goal.decreases-any_in_fields-loop-rest
decreases-any_in_fields-loop-rest l = length l.rest
