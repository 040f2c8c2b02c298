use Rattle.std.proofs.Common.{sym}
use Rattle.step_stmt.proofs.Looping.{for_known, for_turns}
use Rattle.step_stmt.proofs.loops.run_test.Goals as goal

pub returns-in-Some : goal.returns-in-Some
returns-in-Some c =
    for_known c.args.spot c.in-Some.value c.args.state.now c.args.meter.now c.for_tested.new.meter c.for_tested.result (sym c.requires.test) (rw c.part-number.ensures at (rw c.in-Some.is at c.in_ok-value.ensures))
    c.for_tested.ensures

pub returns-in-None : goal.returns-in-None
returns-in-None c =
    for_turns c.args.spot c.args.state.now c.args.meter.now c.await_statement.result c.requires.kind (sym c.requires.test) (rw c.part-number.ensures at (c.await_statement.ensures c.args.state.now c.args.meter.now))
