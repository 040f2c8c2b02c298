use Rattle.std.proofs.Common.{◌≡◌, length, subst, arith}
use Rattle.object_heap.specs.Heap.{Contents, IsSound, with_new_object}
use Rattle.object_heap.specs.Object.{Object, settled, whole_object}
use Rattle.object_heap.specs.Rest.{IsKept, noted}
use Rattle.object_heap.proofs.Resting.{made_kept, noted_kept}
use Rattle.object_heap.proofs.Sound.{sound_made}
use Rattle.object_heap.proofs.heap.Heap.push_object.Goals as goal

pub invariant_of-self-in_err-push : goal.invariant_of-self-in_err-push
invariant_of-self-in_err-push c =
    let h : Contents = record { objects = c.self.inside.objects.items; environments = c.self.inside.environments.items } in
    rw (c.in_err-push.ensures.items, c.in_ok-note.ensures.ok)
    (noted_kept h c.self.inside.restless.items c.stirs_new-leaves.result (record { 0 = c.len-at.result }) c.self.invariant)

pub invariant_of-self-2 : goal.invariant_of-self-2
invariant_of-self-2 c =
    let h : Contents = record { objects = c.self.inside.objects.items; environments = c.self.inside.environments.items } in
    let o : Object = whole_object c.args.class c.args.proto c.args.props in
    let at : length h.objects ≡ c.len-at.result = omega arith in
    let sound : IsSound (with_new_object h c.new-object.result) =
    rw (c.new-object.ensures, c.class_at.ensures, c.older.ensures) (subst (λ n. IsSound (with_new_object h (settled n o))) at (sound_made h o c.self.invariant.sound c.requires))
    in
    rw (c.in_ok-push.ensures.items, c.in_ok-note.ensures.ok)
    (subst (λ n. IsKept (with_new_object h c.new-object.result) (noted c.stirs_new-leaves.result (record { 0 = n }) c.self.inside.restless.items)) at
    (made_kept h c.self.inside.restless.items c.new-object.result c.stirs_new-leaves.result c.stirs_new-leaves.ensures c.self.invariant sound))
