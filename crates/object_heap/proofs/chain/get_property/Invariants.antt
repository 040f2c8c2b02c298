use Rattle.std.proofs.Common.{◌≡◌, ◌<◌, length}
use Rattle.object_heap.specs.Chain.{get_property}
use Rattle.object_heap.proofs.chain.get_property.Given as goal

abbrev pub invariant-loop-prop : goal.invariant-loop-prop
invariant-loop-prop l = record {
  there : l.at.0 < length l.objects;
  same : get_property l.objects l.at.0 l.name ≡ get_property l.objects l.fn.at.0 l.name;
}

abbrev pub decreases-loop-prop : goal.decreases-loop-prop
decreases-loop-prop l = l.at.0
