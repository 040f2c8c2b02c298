-- The recursion of finding declared names: each function's measure is the size of what it looks at.
use Rattle.std.proofs.Common.{◌≡◌, ◌≤◌, ◌++◌, length, option_map}
use Rattle.js_core.specs.Tree.{stmts_of, maybe_stmts}
use Rattle.js_core.specs.Views.{catch_of, cases_of}
use Rattle.js_core.specs.Sizes.{stmt_size, stmts_size, maybe_stmts_size, maybe_catch_size, cases_size}
use Rattle.code_table.specs.Declarations.{variables_of, case_variables}
use Rattle.code_numbering.proofs.variables.+declaring.Given as goal

abbrev pub decreases-push_variables : goal.decreases-push_variables
decreases-push_variables l = stmts_size (stmts_of l.ss.now)

abbrev pub decreases-push_stmt_variables : goal.decreases-push_stmt_variables
decreases-push_stmt_variables l = stmt_size l.s.now

abbrev pub decreases-push_body_variables : goal.decreases-push_body_variables
decreases-push_body_variables l = maybe_stmts_size (maybe_stmts (option_map (λ v. v.items) l.body.now))

abbrev pub decreases-push_catch_variables : goal.decreases-push_catch_variables
decreases-push_catch_variables l = maybe_catch_size (catch_of l.catch.now)

abbrev pub decreases-push_case_variables : goal.decreases-push_case_variables
decreases-push_case_variables l = cases_size (cases_of l.cases.now)

abbrev pub invariant-push_variables-loop-rest : goal.invariant-push_variables-loop-rest
invariant-push_variables-loop-rest l = record {
  names : l.out.items ++ variables_of (stmts_of l.rest) ≡ l.initial.out.items ++ variables_of (stmts_of l.ss);
  left : stmts_size (stmts_of l.rest) ≤ stmts_size (stmts_of l.ss);
}

abbrev pub decreases-push_variables-loop-rest : goal.decreases-push_variables-loop-rest
decreases-push_variables-loop-rest l = length l.rest

abbrev pub invariant-push_case_variables-loop-rest : goal.invariant-push_case_variables-loop-rest
invariant-push_case_variables-loop-rest l = record {
  names : l.out.items ++ case_variables (cases_of l.rest) ≡ l.initial.out.items ++ case_variables (cases_of l.cases);
  left : cases_size (cases_of l.rest) ≤ cases_size (cases_of l.cases);
}

abbrev pub decreases-push_case_variables-loop-rest : goal.decreases-push_case_variables-loop-rest
decreases-push_case_variables-loop-rest l = length l.rest
