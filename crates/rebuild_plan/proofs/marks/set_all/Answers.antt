use Rattle.std.proofs.Common.{arith}
use Rattle.std.proofs.lemmas.Grind.{common_steps}
use Rattle.rebuild_plan.proofs.Marking.{set_ends, set_goes_on}
use Rattle.rebuild_plan.proofs.marks.set_all.Goals as goal

pub loop-rest-preserved : goal.loop-rest-preserved
loop-rest-preserved c =
    set_goes_on c.args.marks.now.items c.loop-rest.marks.items c.set.new.marks.items c.loop-rest.rest.now c.args.timers.now _ (omega arith) (grind (arith, common_steps)) c.set.ensures
    c.loop-rest.invariant

pub returns : goal.returns
returns c = set_ends c.args.marks.now.items c.loop-rest.marks.items c.loop-rest.rest.now c.args.timers.now (omega arith) c.loop-rest.invariant
