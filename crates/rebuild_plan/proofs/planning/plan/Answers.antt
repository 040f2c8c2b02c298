use Rattle.std.proofs.Common.{◌∙◌, ◌++◌, List, ap, false}
use Rattle.page_meaning.specs.Places.{window}
use Rattle.rebuild_plan.specs.Compact.{Compact, compact}
use Rattle.rebuild_plan.specs.Plan.{defines, makes, timers, whole}
use Rattle.rebuild_plan.specs.declared.phase.Phase.TheVariants as phase
use Rattle.rebuild_plan.specs.declared.statement.Rebuild.{Rebuild}
use Rattle.rebuild_plan.proofs.Numbered.{then}
use Rattle.rebuild_plan.proofs.planning.plan.Goals as goal

pub returns : goal.returns
returns c =
    let d : Compact = compact c.args.state.now c.args.walked.now.things.keys in
    let from : List Rebuild = c.new-plan.result.items in
    let made : List Rebuild = c.push_makes.new.plan.items in
    let children : List Rebuild = c.push_whole.new.plan.items in
    let contents : List Rebuild = c.push_whole-2.new.plan.items in
    let events : List Rebuild = c.push_whole-3.new.plan.items in
    let listeners : List Rebuild = c.push_whole-4.new.plan.items in
    let globals : List Rebuild = c.push_globals.new.plan.items in
    let properties : List Rebuild = c.push_whole-5.new.plan.items in
    let timed : List Rebuild = c.push_timers.new.plan.items in
    let last : List Rebuild = c.push_whole-6.new.plan.items in
    let ends : List Rebuild = whole phase.Ends d in
    let from_timers : List Rebuild = timers d.timers ++ ends in
    let from_properties : List Rebuild = whole phase.Properties d ++ from_timers in
    let from_globals : List Rebuild = defines false false window d.globals ++ from_properties in
    let from_listeners : List Rebuild = whole phase.Listeners d ++ from_globals in
    let from_events : List Rebuild = whole phase.Events d ++ from_listeners in
    let from_contents : List Rebuild = whole phase.Contents d ++ from_events in
    let from_children : List Rebuild = whole phase.Children d ++ from_contents in
    then from made last (makes 0 d.things) from_children c.in_ok-push_makes.ensures
    (then made children last (whole phase.Children d) from_contents c.in_ok-push_whole.ensures
    (then children contents last (whole phase.Contents d) from_events c.in_ok-push_whole-2.ensures
    (then contents events last (whole phase.Events d) from_listeners c.in_ok-push_whole-3.ensures
    (then events listeners last (whole phase.Listeners d) from_globals c.in_ok-push_whole-4.ensures
    (then listeners globals last (defines false false window d.globals) from_properties c.in_ok-push_globals.ensures
    (then globals properties last (whole phase.Properties d) from_timers c.in_ok-push_whole-5.ensures
    (then properties timed last (timers d.timers) ends c.in_ok-push_timers.ensures c.in_ok-push_whole-6.ensures)))))))
    ∙ ap (λ l. l ++ (makes 0 d.things ++ from_children)) c.new-plan.ensures.items
