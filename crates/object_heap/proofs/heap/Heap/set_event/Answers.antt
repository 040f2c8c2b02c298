use Rattle.std.proofs.Common.{◌<◌, ap, sym, length, arith}
use Rattle.object_heap.specs.Heap.{Contents}
use Rattle.object_heap.proofs.Resting.{parts_kept}
use Rattle.object_heap.proofs.heap.Heap.set_event.Goals as goal

pub invariant_of-self-2 : goal.invariant_of-self-2
invariant_of-self-2 c =
    let h : Contents = record { objects = c.self.inside.objects.items; environments = c.self.inside.environments.items } in
    let there : c.args.at.0 < length h.objects = omega (arith, ap (λ (x : Contents). length x.objects) c.self.view_is) in
    rw (c.in_ok-note.ensures.ok)
    (parts_kept h c.self.inside.restless.items c.args.at c.index.result.now c.index_mut.result.now _ (λ old. c.args.parts) c.rests_at-rests.result c.stirs-leaves.result there c.self.invariant c.index.ensures c.index_mut.ensures.value
    (λ e. sym c.rests_at-rests.ensures) c.stirs-leaves.ensures c.set_event.ensures)
