use Rattle.std.proofs.Common.{None}
use Rattle.step_stmt.proofs.Beginning.{opens_part, opens_valued}
use Rattle.step_stmt.proofs.statements.begin_valued.Goals as goal

pub returns-in-Some : goal.returns-in-Some
returns-in-Some c =
    opens_valued c.args.spot c.in-Some.value c.args.state.now c.go_value.new.state c.args.meter.now c.go_value.new.meter c.go_value.result c.requires.family c.requires.starts
    (rw c.part-number.ensures at (rw c.in-Some.is at c.in_ok-value.ensures)) (c.go_value.ensures None)

pub returns-in-None : goal.returns-in-None
returns-in-None c =
    opens_part c.args.spot 0 c.args.state.now c.args.meter.now c.await_statement.result c.requires.family c.requires.starts (rw c.part-number.ensures at (c.await_statement.ensures c.args.state.now c.args.meter.now))
