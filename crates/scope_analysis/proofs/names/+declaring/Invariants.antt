-- The recursion of declaring: each function's measure is the size of what it looks at.
use Rattle.std.proofs.Common.{◌≡◌, ◌≤◌, ◌++◌, length, option_map}
use Rattle.js_core.specs.Tree.{stmts_of, maybe_stmts}
use Rattle.js_core.specs.Views.{catch_of, cases_of}
use Rattle.js_core.specs.Sizes.{stmt_size, stmts_size, maybe_stmts_size, maybe_catch_size, cases_size}
use Rattle.scope_analysis.specs.Names as spec
use Rattle.scope_analysis.proofs.names.+declaring.Given as goal

abbrev pub decreases-push_declared_names : goal.decreases-push_declared_names
decreases-push_declared_names l = stmts_size (stmts_of l.statements.now)

abbrev pub decreases-push_statement_names : goal.decreases-push_statement_names
decreases-push_statement_names l = stmt_size l.statement.now

abbrev pub decreases-push_maybe_body_names : goal.decreases-push_maybe_body_names
decreases-push_maybe_body_names l = maybe_stmts_size (maybe_stmts (option_map (λ v. v.items) l.body.now))

abbrev pub decreases-push_catch_names : goal.decreases-push_catch_names
decreases-push_catch_names l = maybe_catch_size (catch_of l.catch.now)

abbrev pub decreases-push_case_names : goal.decreases-push_case_names
decreases-push_case_names l = cases_size (cases_of l.cases.now)

abbrev pub invariant-push_declared_names-loop-rest : goal.invariant-push_declared_names-loop-rest
invariant-push_declared_names-loop-rest l = record {
  declared : l.out.items ++ spec.declared_names (stmts_of l.rest) ≡ l.initial.out.items ++ spec.declared_names (stmts_of l.statements);
  inside : stmts_size (stmts_of l.rest) ≤ stmts_size (stmts_of l.statements);
}

abbrev pub decreases-push_declared_names-loop-rest : goal.decreases-push_declared_names-loop-rest
decreases-push_declared_names-loop-rest l = length l.rest

abbrev pub invariant-push_case_names-loop-rest : goal.invariant-push_case_names-loop-rest
invariant-push_case_names-loop-rest l = record {
  declared : l.out.items ++ spec.case_names (cases_of l.rest) ≡ l.initial.out.items ++ spec.case_names (cases_of l.cases);
  inside : cases_size (cases_of l.rest) ≤ cases_size (cases_of l.cases);
}

abbrev pub decreases-push_case_names-loop-rest : goal.decreases-push_case_names-loop-rest
decreases-push_case_names-loop-rest l = length l.rest
