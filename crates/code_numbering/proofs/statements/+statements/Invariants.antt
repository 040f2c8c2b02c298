-- The recursion of numbering statements: each measure is eight times the size of what is looked at, and a little more where a function comes
-- before another one at the same parts.
use Rattle.std.proofs.Common.{◌≡◌, ◌≤◌, ◌+◌, ◌*◌, length, option_map}
use Rattle.js_core.specs.Tree.{maybe_expr, stmts_of, maybe_stmts}
use Rattle.js_core.specs.Views.{init_of, catch_of, cases_of}
use Rattle.js_core.specs.Sizes.{expr_size, maybe_expr_size, stmt_size, stmts_size, maybe_stmts_size, for_init_size, maybe_catch_size, cases_size}
use Rattle.code_table.specs.Node.{stmts_parts, cases_parts}
use Rattle.code_table.specs.Rows.{with_parts, with_numbers}
use Rattle.code_numbering.proofs.statements.+statements.Given as goal

abbrev pub decreases-push_stmt : goal.decreases-push_stmt
decreases-push_stmt l = 8 * stmt_size l.s.now + 3

abbrev pub decreases-push_stmt_parts : goal.decreases-push_stmt_parts
decreases-push_stmt_parts l = 8 * stmt_size l.s.now + 1

abbrev pub decreases-push_if : goal.decreases-push_if
decreases-push_if l = 8 * (expr_size l.e.now + stmts_size (stmts_of l.a.now) + maybe_stmts_size (maybe_stmts (option_map (λ v. v.items) l.b.now))) + 5

abbrev pub decreases-push_do : goal.decreases-push_do
decreases-push_do l = 8 * (stmts_size (stmts_of l.a.now) + expr_size l.e.now) + 5

abbrev pub decreases-push_while : goal.decreases-push_while
decreases-push_while l = 8 * (expr_size l.e.now + stmts_size (stmts_of l.a.now)) + 5

abbrev pub decreases-push_for : goal.decreases-push_for
decreases-push_for l = 8 * (for_init_size (init_of l.i.now) + maybe_expr_size (maybe_expr l.t.now) + maybe_expr_size (maybe_expr l.s.now) + stmts_size (stmts_of l.a.now)) + 7

abbrev pub decreases-push_for_rest : goal.decreases-push_for_rest
decreases-push_for_rest l = 8 * (maybe_expr_size (maybe_expr l.t.now) + maybe_expr_size (maybe_expr l.s.now) + stmts_size (stmts_of l.a.now)) + 6

abbrev pub decreases-push_for_end : goal.decreases-push_for_end
decreases-push_for_end l = 8 * (maybe_expr_size (maybe_expr l.s.now) + stmts_size (stmts_of l.a.now)) + 5

abbrev pub decreases-push_for_in : goal.decreases-push_for_in
decreases-push_for_in l = 8 * (expr_size l.t.now + expr_size l.e.now + stmts_size (stmts_of l.a.now)) + 5

abbrev pub decreases-push_try : goal.decreases-push_try
decreases-push_try l = 8 * (stmts_size (stmts_of l.a.now) + maybe_catch_size (catch_of l.c.now) + maybe_stmts_size (maybe_stmts (option_map (λ v. v.items) l.l.now))) + 6

abbrev pub decreases-push_handlers : goal.decreases-push_handlers
decreases-push_handlers l = 8 * (maybe_catch_size (catch_of l.c.now) + maybe_stmts_size (maybe_stmts (option_map (λ v. v.items) l.l.now))) + 5

abbrev pub decreases-push_switch : goal.decreases-push_switch
decreases-push_switch l = 8 * (expr_size l.e.now + cases_size (cases_of l.cs.now)) + 5

abbrev pub decreases-push_block : goal.decreases-push_block
decreases-push_block l = 8 * stmts_size (stmts_of l.ss.now) + 4

abbrev pub decreases-push_body : goal.decreases-push_body
decreases-push_body l = 8 * stmts_size (stmts_of l.ss.now) + 3

abbrev pub decreases-push_stmts : goal.decreases-push_stmts
decreases-push_stmts l = 8 * stmts_size (stmts_of l.ss.now) + 1

abbrev pub decreases-push_maybe_block : goal.decreases-push_maybe_block
decreases-push_maybe_block l = 8 * maybe_stmts_size (maybe_stmts (option_map (λ v. v.items) l.b.now))

abbrev pub decreases-push_catch : goal.decreases-push_catch
decreases-push_catch l = 8 * maybe_catch_size (catch_of l.c.now)

abbrev pub decreases-push_cases : goal.decreases-push_cases
decreases-push_cases l = 8 * cases_size (cases_of l.cs.now) + 1

abbrev pub decreases-push_case : goal.decreases-push_case
decreases-push_case l = 8 * (maybe_expr_size (maybe_expr l.e.now) + stmts_size (stmts_of l.ss.now)) + 5

abbrev pub invariant-push_stmts-loop-rest : goal.invariant-push_stmts-loop-rest
invariant-push_stmts-loop-rest l = record {
  rows : with_parts l.rows (stmts_parts (stmts_of l.rest)) ≡ with_parts l.initial.rows (stmts_parts (stmts_of l.ss));
  numbers : with_numbers l.rows l.parts.items (stmts_parts (stmts_of l.rest)) ≡ with_numbers l.initial.rows l.initial.parts.items (stmts_parts (stmts_of l.ss));
  left : stmts_size (stmts_of l.rest) ≤ stmts_size (stmts_of l.ss);
}

abbrev pub decreases-push_stmts-loop-rest : goal.decreases-push_stmts-loop-rest
decreases-push_stmts-loop-rest l = length l.rest

abbrev pub invariant-push_cases-loop-rest : goal.invariant-push_cases-loop-rest
invariant-push_cases-loop-rest l = record {
  rows : with_parts l.rows (cases_parts (cases_of l.rest)) ≡ with_parts l.initial.rows (cases_parts (cases_of l.cs));
  numbers : with_numbers l.rows l.parts.items (cases_parts (cases_of l.rest)) ≡ with_numbers l.initial.rows l.initial.parts.items (cases_parts (cases_of l.cs));
  left : cases_size (cases_of l.rest) ≤ cases_size (cases_of l.cs);
}

abbrev pub decreases-push_cases-loop-rest : goal.decreases-push_cases-loop-rest
decreases-push_cases-loop-rest l = length l.rest
