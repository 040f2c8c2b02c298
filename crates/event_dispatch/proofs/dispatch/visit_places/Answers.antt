use Rattle.std.proofs.Common.{sym, ◌∙◌, ◌*◌, length}
use Rattle.page_frames.specs.Weight.{many}
use Rattle.event_dispatch.proofs.Turning.{arrived_at, pays_later, pays_place, places_end, runs_next, runs_none, stopped_at}
use Rattle.event_dispatch.proofs.dispatch.visit_places.Goals as goal

pub returns-then-is_stopped : goal.returns-then-is_stopped
returns-then-is_stopped c =
    c.loop-place.invariant c.end.new.state c.end.result
    (stopped_at c.args.event c.in-Some.place c.pop.new.self c.loop-place.later c.loop-place.state c.end.new.state c.end.result c.in-Some.ensures.some
    (sym c.if-is_stopped.true ∙ c.is_stopped.ensures) c.end.ensures)

pub returns-in-Some-next_listener : goal.returns-in-Some-next_listener
returns-in-Some-next_listener c =
    c.loop-place.invariant c.arrive.new.self c.call.result
    (arrived_at c.args.event c.in-Some.place c.pop.new.self c.loop-place.later c.of-round.result c.loop-place.state c.arrive.new.self c.arrive.new.self c.call.result c.in-Some.ensures.some
    (sym c.if-is_stopped.false ∙ c.is_stopped.ensures) c.in_ok-arrive.ensures (c.of-round.ensures.same ∙ c.in_ok-round.ensures)
    (runs_next c.args.event c.in-Some.place c.of-round.result c.next_listener.new.round c.in-Some-next_listener.listener c.pop.new.self (length c.loop-place.later * many) c.arrive.new.self
    c.arrive.new.self c.call.result c.in-Some-next_listener.ensures.some
    (pays_place c.of-round.result c.in-Some.place c.pop.new.self c.loop-place.later c.in-Some.ensures.some c.of-round.ensures.few) c.call.ensures))

pub loop-place-preserved : goal.loop-place-preserved
loop-place-preserved c t r h =
    c.loop-place.invariant t r
    (arrived_at c.args.event c.in-Some.place c.pop.new.self c.loop-place.later c.of-round.result c.loop-place.state c.arrive.new.self t r c.in-Some.ensures.some
    (sym c.if-is_stopped.false ∙ c.is_stopped.ensures) c.in_ok-arrive.ensures (c.of-round.ensures.same ∙ c.in_ok-round.ensures)
    (runs_none c.args.event c.in-Some.place c.of-round.result c.pop.new.self (length c.loop-place.later * many) c.arrive.new.self t r c.in_default-next_listener.ensures.none
    (pays_later c.in-Some.place c.pop.new.self c.loop-place.later c.in-Some.ensures.some) h))

pub returns : goal.returns
returns c =
    c.loop-place.invariant c.end-2.new.state c.end-2.result
    (places_end c.args.event c.loop-place.later c.loop-place.state c.end-2.new.state c.end-2.result c.in_default.ensures.none c.end-2.ensures)
