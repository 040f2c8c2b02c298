use Rattle.std.proofs.Common.{◌≡◌, map, length}
use Rattle.std.specs.Rc.{rc_value}
use Rattle.instrumenter.specs.Levels.{field_of}
use Rattle.instrumenter.proofs.levels.field_of.Given as goal

abbrev pub invariant-loop-rest : goal.invariant-loop-rest
invariant-loop-rest l = field_of (map rc_value l.rest) l.name ≡ field_of (map rc_value l.levels) l.name

abbrev pub decreases-loop-rest : goal.decreases-loop-rest
decreases-loop-rest l = length l.rest
