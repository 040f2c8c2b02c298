use Rattle.std.proofs.Common.{◌≡◌, ◌≤◌, ◌++◌, length, map, reverse, take}
use Rattle.page_host.specs.declared.path.Phase.TheVariants.{Capturing}
use Rattle.page_host.specs.Paths.{in_phase}
use Rattle.page_host.proofs.listening.push_falling.Given as goal

abbrev pub invariant-loop-left : goal.invariant-loop-left
invariant-loop-left l = record {
  within : l.left ≤ length l.above;
  rest : l.places.items ++ map (in_phase Capturing) (reverse (take l.left l.above)) ≡ l.fn.places.items ++ map (in_phase Capturing) (reverse l.above);
}

abbrev pub decreases-loop-left : goal.decreases-loop-left
decreases-loop-left l = l.left
