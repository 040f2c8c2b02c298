use Rattle.std.proofs.Common.{◌≡◌, map, length}
use Rattle.std.specs.Rc.{rc_value}
use Rattle.instrumenter.specs.Levels.{is_own}
use Rattle.instrumenter.proofs.levels.is_own.Given as goal

abbrev pub invariant-loop-rest : goal.invariant-loop-rest
invariant-loop-rest l = is_own (map rc_value l.rest) l.name ≡ is_own (map rc_value l.levels) l.name

abbrev pub decreases-loop-rest : goal.decreases-loop-rest
decreases-loop-rest l = length l.rest
