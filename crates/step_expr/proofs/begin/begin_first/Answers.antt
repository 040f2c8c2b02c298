use Rattle.step_expr.proofs.Opening.{begins_with_first}
use Rattle.step_expr.proofs.begin.begin_first.Goals as goal

pub returns : goal.returns
returns c =
    begins_with_first c.args.spot c.new-got.result c.args.state.now c.args.meter.now c.await_part.result c.requires c.new-got.ensures (c.await_part.ensures 0 c.args.state.now c.args.meter.now c.part-number.ensures)
