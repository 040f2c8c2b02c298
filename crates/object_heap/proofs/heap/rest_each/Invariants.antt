use Rattle.std.proofs.Common.{◌≡◌, drop}
use Rattle.object_heap.specs.Rest.{rested_at}
use Rattle.object_heap.proofs.heap.rest_each.Given as goal

-- the rest of them do what is left
abbrev pub invariant-loop-at : goal.invariant-loop-at
invariant-loop-at l = rested_at (drop l.at-index l.listed) l.objects.items ≡ rested_at l.listed l.initial.objects.items
