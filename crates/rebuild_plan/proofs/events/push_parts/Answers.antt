use Rattle.std.proofs.Common.{◌∙◌, ◌++◌, append_assoc, ap}
use Rattle.rebuild_plan.specs.Events.{SavedEvent, event_of}
use Rattle.rebuild_plan.specs.Plan.{dispatch, init}
use Rattle.rebuild_plan.proofs.events.push_parts.Goals as goal

pub returns : goal.returns
returns c =
    let e : SavedEvent = event_of c.args.walked.now.things.keys c.args.parts.now in
    c.in_ok-push_dispatch.ensures
    ∙ ap (λ l. l ++ dispatch c.args.place e.target) (c.in_ok-push_init.ensures c.args.walked.now.things.keys)
    ∙ append_assoc c.args.plan.now.items (init c.args.place e) (dispatch c.args.place e.target)
