use Rattle.std.proofs.Common.{sym, ◌∙◌}
use Rattle.page_state.proofs.Chains.{target_next}
use Rattle.page_state.proofs.instances.target.Goals as goal

pub loop-next-preserved : goal.loop-next-preserved
loop-next-preserved c =
    sym (target_next c.args.heap.now.objects c.sound.ensures.targets c.loop-next.at c.in-Some.next (rw (← c.class.ensures) (sym c.in-Some.ensures)))
    ∙ c.loop-next.invariant
