use Rattle.std.proofs.Common.{◌≡◌, ◌++◌, length, false}
use Rattle.scope_analysis.specs.Names as spec
use Rattle.scope_analysis.proofs.names.has_repeat.Given as goal

-- what was gone over stands in the set, in order, and none of it twice
abbrev pub invariant-loop-rest : goal.invariant-loop-rest
invariant-loop-rest l = record {
  whole : l.seen.keys ++ l.rest ≡ l.names;
  apart : spec.has_repeat l.seen.keys ≡ false;
}

abbrev pub decreases-loop-rest : goal.decreases-loop-rest
decreases-loop-rest l = length l.rest
