use Rattle.std.proofs.Common.{ap, ◌∙◌}
use Rattle.std.specs.Prelude.{slice_get}
use Rattle.step_expr.proofs.InTurn.{named, unnamed}
use Rattle.step_expr.proofs.fields.name_at.Goals as goal

pub returns-in-Some : goal.returns-in-Some
returns-in-Some c = named c.clone.result c.args.names.now c.args.k c.in-Some.name.now (c.in-Some.ensures ∙ ap (λ xs. slice_get xs c.args.k) c.as_slice.ensures) c.clone.ensures

pub returns-in-None : goal.returns-in-None
returns-in-None c = unnamed c.of.result c.args.names.now c.args.k (c.in-None.ensures ∙ ap (λ xs. slice_get xs c.args.k) c.as_slice.ensures) c.of.ensures
