use Rattle.std.proofs.Common.{ap, ◌∙◌, [], ◌∷◌, ◌++◌}
use Rattle.js_values.specs.declared.value.Value.TheVariants.{Object}
use Rattle.step_expr.proofs.held.holding.Goals as goal

pub returns : goal.returns
returns c = c.in_ok-push.ensures.ok ∙ ap (λ got. got ++ Object c.args.at ∷ []) c.new-got.ensures
