use Rattle.std.proofs.Common.{◌∙◌, ap}
use Rattle.heap_walker.specs.Heard.{group_at}
use Rattle.heap_walker.proofs.Groups.{group_pushed}
use Rattle.heap_walker.proofs.heard.reach.Goals as goal

pub loop-alloc-preserved : goal.loop-alloc-preserved
loop-alloc-preserved c k = ap (λ gs. group_at gs k) c.in_ok-push.ensures.items ∙ group_pushed c.loop-alloc.groups.items c.new.result.items k c.new.ensures.items ∙ c.loop-alloc.invariant k
