use Rattle.std.proofs.Common.{◌≡◌, ◌≤◌, ◌+◌, true, length}
use Rattle.js_core.specs.Height.{stmts_height}
use Rattle.js_core.specs.Tree.{stmts_of}
use Rattle.early_rules.specs.Limits.{plain_height_limit}
use Rattle.instrumenter.specs.Around.{append, top}
use Rattle.instrumenter.specs.Counting.{stmts_scopes}
use Rattle.instrumenter.specs.Opening.{open_tops}
use Rattle.instrumenter.proofs.scripts.push_tops.Given as goal

abbrev pub invariant-loop-rest : goal.invariant-loop-rest
invariant-loop-rest l = record {
  opened : append (stmts_of l.out.items) (open_tops (top true) l.next (stmts_of l.rest)) ≡ append (stmts_of l.initial.out.items) (open_tops (top true) l.initial.next (stmts_of l.statements));
  counted : l.next + stmts_scopes (stmts_of l.rest) ≡ l.initial.next + stmts_scopes (stmts_of l.statements);
  low : stmts_height (stmts_of l.rest) ≤ plain_height_limit;
}

abbrev pub decreases-loop-rest : goal.decreases-loop-rest
decreases-loop-rest l = length l.rest
