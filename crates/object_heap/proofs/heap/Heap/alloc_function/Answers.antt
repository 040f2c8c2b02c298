use Rattle.std.proofs.Common.{◌≡◌, ◌+◌, ap, length, refl, subst, arith}
use Rattle.js_values.specs.declared.value.Value.TheVariants as value
use Rattle.object_heap.specs.Define.{length_name, number}
use Rattle.object_heap.specs.Function.{constructor_name, function_object, prototype_name, prototype_object}
use Rattle.object_heap.specs.Heap.{Contents, IsFit, IsSound, with_new_object}
use Rattle.object_heap.specs.Object.{Object, settled}
use Rattle.object_heap.specs.Property.{fixed, hidden, lasting}
use Rattle.object_heap.specs.Rest.{IsKept, is_resting, noted}
use Rattle.object_heap.proofs.Distinct.{one_name, two_names}
use Rattle.object_heap.proofs.Resting.{both_kept, noted_kept}
use Rattle.object_heap.proofs.Sound.{ordinary_fit, sound_both, sound_made}
use Rattle.object_heap.proofs.heap.Heap.alloc_function.Goals as goal

pub invariant_of-self-in_err-push_both : goal.invariant_of-self-in_err-push_both
invariant_of-self-in_err-push_both c =
    let h : Contents = record { objects = c.self.inside.objects.items; environments = c.self.inside.environments.items } in
    rw (c.in_err-push_both.ensures.err, c.in_ok-note.ensures.ok)
    (noted_kept h c.self.inside.restless.items c.stirs_new-leaves.result (record { 0 = c.len-at.result }) c.self.invariant)

pub invariant_of-self-2 : goal.invariant_of-self-2
invariant_of-self-2 c =
    let h : Contents = record { objects = c.self.inside.objects.items; environments = c.self.inside.environments.items } in
    let n = c.len-at.result in
    let at : length h.objects ≡ n = omega arith in
    let one : Object = function_object c.args.class c.args.proto c.args.formals (n + 1) in
    let two : Object = prototype_object c.args.above n in
    let fit : IsFit one = ordinary_fit _ _ _ c.requires.class (two_names length_name (fixed (number c.args.formals)) prototype_name (lasting (value.Object (record { 0 = n + 1 }))) refl) in
    let more : IsFit two = ordinary_fit _ _ _ refl (one_name constructor_name (hidden (value.Object (record { 0 = n })))) in
    let first : IsSound (with_new_object h c.new-function.result) =
    rw (c.new-function.ensures, c.class_at.ensures, c.older.ensures, c.in_ok-props.ensures) (subst (λ m. IsSound (with_new_object h (settled m one))) at (sound_made h one c.self.invariant.sound fit))
    in
    let sound : IsSound (with_new_object (with_new_object h c.new-function.result) c.new-prototype.result) =
    rw (c.new-function.ensures, c.new-prototype.ensures, c.class_at.ensures, c.older.ensures, c.older-2.ensures, c.in_ok-props.ensures, c.in_ok-props-2.ensures)
    (sound_both h n one two at c.self.invariant.sound fit more)
    in
    rw (c.in_ok-push_both.ensures.ok, c.in_ok-note.ensures.ok)
    (subst (λ m. IsKept (with_new_object (with_new_object h c.new-function.result) c.new-prototype.result) (noted c.stirs_new-leaves.result (record { 0 = m }) c.self.inside.restless.items)) at
    (both_kept h c.self.inside.restless.items c.new-function.result c.new-prototype.result c.stirs_new-leaves.result c.stirs_new-leaves.ensures (ap (λ (x : Object). is_resting x.class) c.new-prototype.ensures) c.self.invariant first sound))
