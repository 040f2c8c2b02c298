use Rattle.std.proofs.Common.{◌∙◌, ◌++◌, ap, subst}
use Rattle.rebuild_plan.specs.Marks.{AreSet, clear_all, no_marks}
use Rattle.rebuild_plan.proofs.Marking.{all_cleared}
use Rattle.rebuild_plan.proofs.marks.push_clears.Goals as goal

pub returns : goal.returns
returns c =
    let marks = c.set_all.new.marks.items in
    let set : AreSet (no_marks c.args.count) marks c.args.timers.now = subst (λ ms. AreSet ms marks c.args.timers.now) c.in_ok-marks.ensures c.set_all.ensures in
    c.in_ok-push_unset.ensures
    ∙ ap (λ ms. c.args.plan.now.items ++ clear_all 1 ms) c.as_slice.ensures.value
    ∙ ap (λ l. c.args.plan.now.items ++ l) (all_cleared c.args.count marks c.args.timers.now set)
