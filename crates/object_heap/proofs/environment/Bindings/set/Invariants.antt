use Rattle.std.proofs.Common.{◌≡◌}
use Rattle.object_heap.proofs.Bindings.{IsSetPast}
use Rattle.object_heap.proofs.environment.Bindings.set.Given as goal

abbrev pub invariant-loop-place : goal.invariant-loop-place
invariant-loop-place l = record {
  same : l.self-inside.items.items ≡ l.fn.self;
  past : IsSetPast l.fn.self l.place l.name l.value;
}
