use Rattle.std.proofs.Common.{◌∙◌, ◌∷◌, []}
use Rattle.builtin_text.proofs.Cuts.{all_units}
use Rattle.builtin_text.proofs.splitting.single_units.Goals as goal

pub returns : goal.returns
returns c = c.loop-index.invariant.1 ∙ all_units (λ u. u ∷ []) c.args.units.now c.args.limit c.loop-index.index c.min-index-end.result c.min-index-end.ensures c.loop-index.invariant.0 c.loop-index-test.false
