use Rattle.std.proofs.Common.{◌≡◌, ◌<◌, length}
use Rattle.object_heap.specs.Heap.{lookup}
use Rattle.object_heap.proofs.environment.lookup.Given as goal

abbrev pub invariant-loop-value : goal.invariant-loop-value
invariant-loop-value l = record {
  there : l.at.0 < length l.environments;
  same : lookup l.environments l.at.0 l.name ≡ lookup l.environments l.fn.from.0 l.name;
}

abbrev pub decreases-loop-value : goal.decreases-loop-value
decreases-loop-value l = l.at.0
