use Rattle.std.proofs.Common.{arith, le_refl}
use Rattle.event_dispatch.specs.Turning.{weigh_left}
use Rattle.event_dispatch.proofs.Turning.{runs_next, runs_none}
use Rattle.event_dispatch.proofs.dispatch.go_on.Goals as goal

pub returns-in-Some : goal.returns-in-Some
returns-in-Some c =
    runs_next c.args.event c.args.place c.args.round c.next_listener.new.round c.in-Some.listener c.args.later (weigh_left c.args.round c.args.later) c.args.state.now c.args.state.now
    c.call.result c.in-Some.ensures.some (le_refl (weigh_left c.args.round c.args.later)) c.call.ensures

pub returns-in-None : goal.returns-in-None
returns-in-None c =
    runs_none c.args.event c.args.place c.args.round c.args.later (weigh_left c.args.round c.args.later) c.args.state.now c.visit_places.new.state c.visit_places.result c.in-None.ensures.none
    (omega arith) c.visit_places.ensures
