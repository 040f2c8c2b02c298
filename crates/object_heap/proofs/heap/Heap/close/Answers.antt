use Rattle.std.proofs.Common.{◌<◌, Ok, ap, length, arith}
use Rattle.object_heap.specs.Heap.{Contents}
use Rattle.object_heap.specs.Object.{with_closed}
use Rattle.object_heap.proofs.Resting.{added_kept}
use Rattle.object_heap.proofs.Sound.{closed_stays}
use Rattle.object_heap.proofs.heap.Heap.close.Goals as goal

pub invariant_of-self : goal.invariant_of-self
invariant_of-self c =
    let h : Contents = record { objects = c.self.inside.objects.items; environments = c.self.inside.environments.items } in
    let there : c.args.at.0 < length h.objects = omega (arith, ap (λ (x : Contents). length x.objects) c.self.view_is) in
    let o = c.index_mut.result.now in
    added_kept h c.self.inside.restless.items c.args.at.0 o _ (with_closed o) (Ok tt) there c.self.invariant c.index_mut.ensures.value c.close.ensures tt (closed_stays o)
