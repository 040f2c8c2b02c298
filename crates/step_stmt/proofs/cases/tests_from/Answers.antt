use Rattle.std.proofs.Common.{subst, arith}
use Rattle.page_frames.specs.Where.{spot_node}
use Rattle.step_stmt.specs.Cases.{NextTest}
use Rattle.step_stmt.proofs.Switching.{tests_found, tests_out}
use Rattle.step_stmt.proofs.cases.tests_from.Goals as goal

pub run_test-requires : goal.run_test-requires
run_test-requires c =
    let n = subst (NextTest (spot_node c.args.spot) c.args.index) c.in-Some.is c.next_test.ensures in
    omega (arith, n.within, c.case_count-count.ensures.count, c.case_count-count.ensures.fits)

pub returns-in-Some : goal.returns-in-Some
returns-in-Some c =
    tests_found c.args.spot c.args.value c.args.index c.in-Some.tested c.args.state.now c.args.meter.now c.run_test.result c.requires.kind
    (subst (NextTest (spot_node c.args.spot) c.args.index) c.in-Some.is c.next_test.ensures) c.run_test.ensures

pub returns-in-None : goal.returns-in-None
returns-in-None c =
    tests_out c.args.spot c.args.value c.args.index c.args.state.now c.args.meter.now c.run_default.result (subst (NextTest (spot_node c.args.spot) c.args.index) c.in-None.is c.next_test.ensures)
    (c.run_default.ensures c.args.state.now c.args.index)
