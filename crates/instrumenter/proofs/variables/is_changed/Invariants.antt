use Rattle.std.proofs.Common.{◌≡◌, length, map}
use Rattle.std.specs.Rc.{rc_value}
use Rattle.js_core.specs.Views.{declarators_of}
use Rattle.instrumenter.specs.Around.{is_changed}
use Rattle.instrumenter.specs.Levels.{around_of}
use Rattle.instrumenter.proofs.variables.is_changed.Given as goal

abbrev pub invariant-loop-rest : goal.invariant-loop-rest
invariant-loop-rest l =
    is_changed (around_of (map rc_value l.levels)) (declarators_of l.rest)
    ≡ is_changed (around_of (map rc_value l.levels)) (declarators_of l.declarators)

abbrev pub decreases-loop-rest : goal.decreases-loop-rest
decreases-loop-rest l = length l.rest
