use Rattle.std.proofs.Common.{◌≡◌, drop}
use Rattle.object_heap.specs.Environment.{value_of}
use Rattle.object_heap.proofs.environment.Bindings.get.Given as goal

abbrev pub invariant-loop-bound : goal.invariant-loop-bound
invariant-loop-bound l = value_of (drop l.bound-index l.self) l.name ≡ value_of l.self l.name
