use Rattle.std.proofs.Common.{◌<◌, ap, length, arith}
use Rattle.object_heap.specs.Heap.{Contents}
use Rattle.object_heap.proofs.Resting.{rest_kept}
use Rattle.object_heap.proofs.heap.Heap.rest_event.Goals as goal

pub invariant_of-self : goal.invariant_of-self
invariant_of-self c =
    let h : Contents = record { objects = c.self.inside.objects.items; environments = c.self.inside.environments.items } in
    let there : c.args.at.0 < length h.objects = omega (arith, ap (λ (x : Contents). length x.objects) c.self.view_is) in
    rw (c.forget.ensures)
    (rest_kept h c.self.inside.restless.items c.args.at c.index_mut.result.now _ there c.self.invariant c.index_mut.ensures.value c.rest.ensures)
