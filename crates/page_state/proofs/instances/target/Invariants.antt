use Rattle.std.proofs.Common.{◌≡◌, suc}
use Rattle.page_meaning.specs.Operators.{target_of}
use Rattle.page_state.proofs.instances.target.Given as goal

abbrev pub invariant-loop-next : goal.invariant-loop-next
invariant-loop-next l = target_of l.heap.objects (suc l.at.0) l.at ≡ target_of l.heap.objects (suc l.fn.function.0) l.fn.function

abbrev pub decreases-loop-next : goal.decreases-loop-next
decreases-loop-next l = l.at.0
