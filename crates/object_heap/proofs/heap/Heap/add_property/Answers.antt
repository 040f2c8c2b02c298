use Rattle.std.proofs.Common.{◌<◌, ◌≤◌, ap, sym, length, arith}
use Rattle.object_heap.specs.Heap.{Contents, add_property, with_added}
use Rattle.object_heap.proofs.Missing.{object_past}
use Rattle.object_heap.proofs.Resting.{added_kept}
use Rattle.object_heap.proofs.Sound.{added_stays}
use Rattle.object_heap.proofs.heap.Heap.add_property.Goals as goal

pub invariant_of-self : goal.invariant_of-self
invariant_of-self c =
    let h : Contents = record { objects = c.self.inside.objects.items; environments = c.self.inside.environments.items } in
    let there : c.args.at.0 < length h.objects = omega (arith, ap (λ (x : Contents). length x.objects) c.self.view_is) in
    let o = c.index_mut.result.now in
    added_kept h c.self.inside.restless.items c.args.at.0 o _ (with_added o c.args.name.now c.args.prop) _ there c.self.invariant c.index_mut.ensures.value c.add_property.ensures.ok c.add_property.ensures.err
    (added_stays o c.args.name.now c.args.prop)

pub returns-then-at-len-clause-ok : goal.returns-then-at-len-clause-ok
unfolding add_property
returns-then-at-len-clause-ok c =
    let past : length c.args.self.now.objects ≤ c.args.at.0 = omega (arith, ap (λ (x : Contents). length x.objects) c.self.view_is) in
    sym (object_past c.args.self.now c.args.at.0 _ past)
