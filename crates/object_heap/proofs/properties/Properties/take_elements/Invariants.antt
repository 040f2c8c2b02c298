use Rattle.std.proofs.Common.{◌≡◌, ◌≤◌}
use Rattle.object_heap.specs.Counted.{AreBelow, shrunk_props}
use Rattle.object_heap.proofs.properties.Properties.take_elements.Given as goal

abbrev pub invariant-loop-top : goal.invariant-loop-top
invariant-loop-top l = record {
  same : shrunk_props l.end l.self ≡ shrunk_props l.end l.fn.self;
  below : AreBelow l.top l.self;
  least : l.end ≤ l.top;
  most : l.top ≤ l.len;
}

abbrev pub decreases-loop-top : goal.decreases-loop-top
decreases-loop-top l = l.top
