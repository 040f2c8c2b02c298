use Rattle.step_stmt.proofs.Looping.{do_known, do_turns}
use Rattle.step_stmt.proofs.loops.do_again.Goals as goal

pub returns-in-Some : goal.returns-in-Some
returns-in-Some c =
    do_known c.args.spot c.in-Some.value c.args.state.now c.args.meter.now c.do_tested.new.meter c.do_tested.result (rw c.part-number.ensures at (rw c.in-Some.is at c.in_ok-value.ensures)) c.do_tested.ensures

pub returns-in-None : goal.returns-in-None
returns-in-None c =
    do_turns c.args.spot c.args.state.now c.args.meter.now c.await_statement.result c.requires (rw c.part-number.ensures at (c.await_statement.ensures c.args.state.now c.args.meter.now))
