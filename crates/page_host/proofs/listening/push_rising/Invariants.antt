use Rattle.std.proofs.Common.{◌≡◌, ◌++◌, map, take}
use Rattle.page_host.specs.declared.path.Phase.TheVariants.{Bubbling}
use Rattle.page_host.specs.Paths.{in_phase}
use Rattle.page_host.proofs.listening.push_rising.Given as goal

abbrev pub invariant-loop-node : goal.invariant-loop-node
invariant-loop-node l = l.places.items ≡ l.fn.places.items ++ map (in_phase Bubbling) (take l.node-index l.above)
