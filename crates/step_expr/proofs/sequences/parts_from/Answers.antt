use Rattle.step_expr.proofs.InTurn.{comma_ends, comma_runs}
use Rattle.step_expr.proofs.sequences.parts_from.Goals as goal

pub returns-then-has_part : goal.returns-then-has_part
returns-then-has_part c =
    comma_runs c.args.spot c.args.k c.new-got.result c.args.value c.args.state.now c.args.meter.now c.run_part.result c.requires c.if-has_part.ensures c.new-got.ensures c.run_part.ensures

pub returns-else-has_part : goal.returns-else-has_part
returns-else-has_part c = comma_ends c.args.spot c.args.k c.args.value c.args.state.now c.args.meter.now c.requires c.if-has_part.ensures
