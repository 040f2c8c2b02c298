use Rattle.std.proofs.Common.{◌≡◌, ◌++◌, length, map}
use Rattle.std.specs.Rc.{rc_value}
use Rattle.instrumenter.specs.Levels.{around_of}
use Rattle.instrumenter.proofs.Appended.{plain_list}
use Rattle.instrumenter.proofs.variables.plain_names.Given as goal

abbrev pub invariant-loop-rest : goal.invariant-loop-rest
invariant-loop-rest l =
    l.names.items ++ plain_list (around_of (map rc_value l.levels)) l.rest ≡ plain_list (around_of (map rc_value l.levels)) l.declarators

abbrev pub decreases-loop-rest : goal.decreases-loop-rest
decreases-loop-rest l = length l.rest
