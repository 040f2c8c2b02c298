use Rattle.std.proofs.Common.{◌∙◌, arith}
use Rattle.rebuild_plan.proofs.Marking.{one_filled}
use Rattle.rebuild_plan.proofs.timers.push_fillers.Goals as goal

pub loop-left-preserved : goal.loop-left-preserved
loop-left-preserved c =
    one_filled c.loop-left.plan.items c.push.new.self.items c.loop-left.left (omega (arith, c.loop-left-test.true)) c.in_ok-push.ensures.items ∙ c.loop-left.invariant
