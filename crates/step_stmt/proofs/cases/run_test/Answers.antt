use Rattle.step_stmt.proofs.Switching.{test_on, test_then}
use Rattle.step_stmt.proofs.cases.run_test.Goals as goal

pub returns-in_ok-boxed-in-None : goal.returns-in_ok-boxed-in-None
returns-in_ok-boxed-in-None c =
    rw (c.in_ok-boxed-in-None.ensures, c.in_ok-test-in-None.ensures) (test_then c.args.spot c.args.value c.args.index c.part-number.result c.args.state.now c.args.meter.now (rw c.test_place.ensures at c.part-number.ensures))
