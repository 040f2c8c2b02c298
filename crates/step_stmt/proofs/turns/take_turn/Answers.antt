use Rattle.step_stmt.proofs.Turning.{turn_taken}
use Rattle.step_stmt.proofs.turns.take_turn.Goals as goal

pub returns : goal.returns
returns c =
    turn_taken c.args.spot c.args.turn c.args.body c.args.state.now c.args.meter.now c.take_step.new.meter c.run_statement.result c.requires c.take_step.ensures.steps
    c.take_step.ensures.depth c.run_statement.ensures
