use Rattle.step_expr.proofs.InTurn.{literal_ends, literal_runs}
use Rattle.step_expr.proofs.fields.fields_from.Goals as goal

pub returns-then-has_part : goal.returns-then-has_part
returns-then-has_part c names e =
    literal_runs c.args.spot names c.args.k c.args.got c.args.object c.args.state.now c.args.meter.now c.run_part.result e c.if-has_part.ensures c.requires c.run_part.ensures

pub returns-else-has_part : goal.returns-else-has_part
returns-else-has_part c names e = literal_ends c.args.spot names c.args.k c.args.object c.args.state.now c.args.meter.now e c.if-has_part.ensures
