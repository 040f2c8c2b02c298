use Rattle.std.proofs.Common.{◌<◌, ◌≤◌, ap, length, arith}
use Rattle.object_heap.specs.Heap.{Contents}
use Rattle.js_values.specs.declared.throw.Throw.TheVariants.{CannotDefine}
use Rattle.object_heap.proofs.Missing.{follows, prevent_absent}
use Rattle.object_heap.proofs.Resting.{changed_kept}
use Rattle.object_heap.proofs.Sound.{prevented_stays}
use Rattle.object_heap.proofs.heap.Heap.prevent_extensions.Goals as goal

pub invariant_of-self : goal.invariant_of-self
invariant_of-self c =
    let h : Contents = record { objects = c.self.inside.objects.items; environments = c.self.inside.environments.items } in
    let there : c.args.at.0 < length h.objects = omega (arith, ap (λ (x : Contents). length x.objects) c.self.view_is) in
    changed_kept h c.self.inside.restless.items c.args.at.0 _ _ _ _ there c.self.invariant c.index_mut.ensures.value c.prevent_extensions.ensures (prevented_stays c.index_mut.result.now)

pub returns-then-at-len : goal.returns-then-at-len
returns-then-at-len c =
    let past : length c.args.self.now.objects ≤ c.args.at.0 = omega (arith, ap (λ (x : Contents). length x.objects) c.self.view_is) in
    follows _ _ CannotDefine (prevent_absent c.args.self.now c.args.at.0 past)
