use Rattle.std.proofs.Common.{[], ◌∷◌}
use Rattle.js_values.specs.declared.value.Value.TheVariants.{Text}
use Rattle.step_parts.proofs.Callers.{goes_got}
use Rattle.step_assign.proofs.changes.run_known.Goals as goal

pub returns : goal.returns
returns c =
    goes_got c.args.spot 2 c.push-3.new.self (c.args.base.now ∷ Text c.args.name ∷ c.args.old ∷ []) 2 c.args.state.now c.args.meter.now c.run_part.result
    (rw (c.in_ok-push-2.ensures.ok, c.in_ok-push.ensures.ok, c.new-got.ensures, c.in_ok-clone.ensures) at c.in_ok-push-3.ensures.ok) c.run_part.ensures
