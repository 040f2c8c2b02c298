use Rattle.std.proofs.Common.{◌≡◌, ◌∷◌, ◌++◌, map, length}
use Rattle.std.specs.Rc.{rc_value}
use Rattle.instrumenter.proofs.levels.inside.Given as goal

abbrev pub invariant-loop-rest : goal.invariant-loop-rest
invariant-loop-rest l = map rc_value l.inner.items ++ map rc_value l.rest ≡ l.fn.level ∷ map rc_value l.levels

abbrev pub decreases-loop-rest : goal.decreases-loop-rest
decreases-loop-rest l = length l.rest
