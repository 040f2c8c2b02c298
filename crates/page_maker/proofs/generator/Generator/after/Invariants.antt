use Rattle.std.proofs.Common.{◌≡◌}
use Rattle.page_maker.specs.Generator as spec
use Rattle.page_maker.proofs.generator.Generator.after.Given as goal

abbrev pub invariant-loop-draw : goal.invariant-loop-draw
invariant-loop-draw l = l.generator.state ≡ spec.state l._draw
