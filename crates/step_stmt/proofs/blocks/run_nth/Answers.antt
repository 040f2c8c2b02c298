use Rattle.std.proofs.Common.{sym, ◌∙◌}
use Rattle.step_stmt.proofs.InTurn.{expression_awaits}
use Rattle.step_stmt.proofs.blocks.run_nth.Goals as goal

pub returns-in_ok-statement-in-Discard : goal.returns-in_ok-statement-in-Discard
returns-in_ok-statement-in-Discard c =
    expression_awaits c.args.spot c.args.k c.part-number.result c.part-expression.result c.args.state.now c.args.meter.now c.await_statement.result c.requires c.part-number.ensures (sym c.kind_at.ensures ∙ c.in-Discard.is)
    (rw c.in_ok-statement-in-Discard.ensures at c.part-expression.ensures) (c.await_statement.ensures c.args.state.now c.args.meter.now)

pub returns-in_default : goal.returns-in_default
returns-in_default c = rw c.part-number.ensures at (c.await_statement-in_default.ensures c.args.state.now c.args.meter.now)
