-- The recursion of leaving: each function's measure is the size of what it looks at.
use Rattle.std.proofs.Common.{◌≡◌, ◌≤◌, length, option_map}
use Rattle.js_core.specs.Tree.{stmts_of, maybe_stmts}
use Rattle.js_core.specs.Views.{catch_of, cases_of}
use Rattle.js_core.specs.Sizes.{stmt_size, stmts_size, maybe_stmts_size, maybe_catch_size, cases_size}
use Rattle.early_rules.specs.Jumps as spec
use Rattle.early_rules.proofs.jumps.+leaving.Given as goal

abbrev pub decreases-leaves : goal.decreases-leaves
decreases-leaves l = stmts_size (stmts_of l.statements.now)

abbrev pub decreases-statement_leaves : goal.decreases-statement_leaves
decreases-statement_leaves l = stmt_size l.statement.now

abbrev pub decreases-maybe_body_leaves : goal.decreases-maybe_body_leaves
decreases-maybe_body_leaves l = maybe_stmts_size (maybe_stmts (option_map (λ v. v.items) l.body.now))

abbrev pub decreases-catch_leaves : goal.decreases-catch_leaves
decreases-catch_leaves l = maybe_catch_size (catch_of l.catch.now)

abbrev pub decreases-cases_leave : goal.decreases-cases_leave
decreases-cases_leave l = cases_size (cases_of l.cases.now)

abbrev pub invariant-leaves-loop-rest : goal.invariant-leaves-loop-rest
invariant-leaves-loop-rest l = record {
  rest_leaves : spec.leaves l.jump (stmts_of l.rest) ≡ spec.leaves l.jump (stmts_of l.statements);
  inside : stmts_size (stmts_of l.rest) ≤ stmts_size (stmts_of l.statements);
}

abbrev pub decreases-leaves-loop-rest : goal.decreases-leaves-loop-rest
decreases-leaves-loop-rest l = length l.rest

abbrev pub invariant-cases_leave-loop-rest : goal.invariant-cases_leave-loop-rest
invariant-cases_leave-loop-rest l = record {
  rest_leaves : spec.cases_leave l.jump (cases_of l.rest) ≡ spec.cases_leave l.jump (cases_of l.cases);
  inside : cases_size (cases_of l.rest) ≤ cases_size (cases_of l.cases);
}

abbrev pub decreases-cases_leave-loop-rest : goal.decreases-cases_leave-loop-rest
decreases-cases_leave-loop-rest l = length l.rest
