use Rattle.std.proofs.Common.{◌≡◌, ◌++◌, length, map}
use Rattle.instrumenter.specs.Around.{first_value}
use Rattle.instrumenter.proofs.pieces.object_fields.Given as goal

abbrev pub invariant-loop-rest : goal.invariant-loop-rest
invariant-loop-rest l =
    l.members.items ++ map (λ x. (x, first_value l.valued.keys x)) l.rest ≡ map (λ x. (x, first_value l.valued.keys x)) l.fields

abbrev pub decreases-loop-rest : goal.decreases-loop-rest
decreases-loop-rest l = length l.rest
