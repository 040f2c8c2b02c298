use Rattle.std.proofs.Common.{◌∙◌, ap}
use Rattle.object_heap.specs.Heap.{Contents, with_objects}
use Rattle.object_heap.specs.Rest.{all_rested, rested_at}
use Rattle.object_heap.proofs.Resting.{all_kept, all_rest}
use Rattle.object_heap.proofs.heap.Heap.rest_events.Goals as goal

pub invariant_of-self : goal.invariant_of-self
invariant_of-self c =
    let h : Contents = record { objects = c.self.inside.objects.items; environments = c.self.inside.environments.items } in
    rw (c.clear.ensures.items)
    (all_kept h c.self.inside.restless.items c.rest_each.new.objects.items c.self.invariant (c.rest_each.ensures ∙ ap (λ l. rested_at l h.objects) c.as_slice.ensures.value))

pub returns : goal.returns
returns c =
    let h : Contents = record { objects = c.self.inside.objects.items; environments = c.self.inside.environments.items } in
    ap (with_objects h) (c.rest_each.ensures ∙ ap (λ l. rested_at l h.objects) c.as_slice.ensures.value ∙ all_rest c.self.inside.restless.items h.objects c.self.invariant.listed) ∙ ap all_rested c.self.view_is
