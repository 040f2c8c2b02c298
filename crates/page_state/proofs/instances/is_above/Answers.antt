use Rattle.std.proofs.Common.{sym, ◌∙◌}
use Rattle.page_state.proofs.Chains.{above_next}
use Rattle.page_state.proofs.instances.is_above.Goals as goal

pub loop-proto-preserved : goal.loop-proto-preserved
loop-proto-preserved c =
    sym (above_next c.args.heap.now.objects c.args.above.0 c.sound.ensures.prototypes c.loop-proto.at.0 c.in-Some.proto (sym c.in-Some.ensures.proto) (λ e. c.if-proto-above.false (sym e)))
    ∙ c.loop-proto.invariant
