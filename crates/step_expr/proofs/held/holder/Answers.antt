use Rattle.std.proofs.Common.{ap, ◌∙◌}
use Rattle.std.specs.Prelude.{slice_get}
use Rattle.step_expr.proofs.InTurn.{none_held, one_held}
use Rattle.step_expr.proofs.held.holder.Goals as goal

pub returns-in-None : goal.returns-in-None
returns-in-None c = none_held c.args.got.now (c.in-None.ensures.value ∙ ap (λ xs. slice_get xs 0) c.as_slice.ensures)

pub returns-in-Some : goal.returns-in-Some
returns-in-Some c = one_held c.args.got.now c.in-Some.value.now c.object_in.result (c.in-Some.ensures.value ∙ ap (λ xs. slice_get xs 0) c.as_slice.ensures) c.object_in.ensures
