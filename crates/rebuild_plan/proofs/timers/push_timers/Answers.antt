use Rattle.std.proofs.Common.{◌≡◌, ◌∙◌, ◌++◌, ap, arith}
use Rattle.heap_walker.specs.Weight.{greatest}
use Rattle.rebuild_plan.specs.Plan.{clears, fillers, starts}
use Rattle.rebuild_plan.specs.Timers.{moved_timers}
use Rattle.rebuild_plan.proofs.Marking.{timers_pushed}
use Rattle.rebuild_plan.proofs.timers.push_timers.Goals as goal

pub returns : goal.returns
returns c =
    let things = c.args.walked.now.things.keys in
    let clock = c.args.state.now.host.clock in
    let ts = c.args.state.now.host.timers in
    let old = c.args.plan.now.items in
    let filled : c.push_fillers.new.plan.items ≡ old ++ fillers (greatest ts) = grind (arith, c.in_ok-push_fillers.ensures, c.greatest-count.ensures, c.timers-timers.ensures, c.host.ensures) in
    let started : c.push_starts.new.plan.items ≡ c.push_fillers.new.plan.items ++ starts (moved_timers things clock ts) =
    grind (arith, c.in_ok-push_starts.ensures, c.clock.ensures.clock, c.timers-timers.ensures, c.host.ensures, c.host-2.ensures)
    in
    let cleared : c.push_clears.new.plan.items ≡ c.push_starts.new.plan.items ++ clears (greatest ts) 1 ts =
    grind (arith, c.in_ok-push_clears.ensures, c.greatest-count.ensures, c.timers-timers.ensures, c.host.ensures)
    in
    cleared ∙ ap (λ l. l ++ clears (greatest ts) 1 ts) (started ∙ ap (λ l. l ++ starts (moved_timers things clock ts)) filled) ∙ timers_pushed old things clock ts
