use Rattle.std.proofs.Common.{[], ◌∷◌}
use Rattle.step_parts.proofs.Callers.{goes_got}
use Rattle.step_assign.proofs.changes.run_second.Goals as goal

pub returns : goal.returns
returns c =
    goes_got c.args.spot 1 c.push.new.self (c.args.base ∷ []) 1 c.args.state.now c.args.meter.now c.run_part.result (rw c.new-got.ensures at c.in_ok-push.ensures.ok) c.run_part.ensures
