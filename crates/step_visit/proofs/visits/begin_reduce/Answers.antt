use Rattle.std.proofs.Common.{refl}
use Rattle.js_values.specs.declared.value.Value.TheVariants.{Undefined}
use Rattle.page_meaning.specs.declared.visit.Visit.TheVariants.{Reduce}
use Rattle.page_frames.specs.declared.frame.Visited.{Visited}
use Rattle.step_visit.proofs.Going.{from_start}
use Rattle.step_visit.proofs.Making.{reduces_with, reduces_without}
use Rattle.step_visit.proofs.visits.begin_reduce.Goals as goal

pub returns-then-args-lt2 : goal.returns-then-args-lt2
returns-then-args-lt2 c =
    reduces_without c.args.visited.callback c.args.visited.list c.args.visited.length c.args.args.now c.args.state.now c.reduce_from.new.state c.args.meter.now c.reduce_from.new.meter
    c.reduce_from.result c.requires.callback c.if-args-lt2.true c.reduce_from.ensures

pub returns : goal.returns
returns c =
    let x : Visited = record { callback = c.args.visited.callback; this = Undefined; list = c.args.visited.list; length = c.args.visited.length } in
    reduces_with x c.args.args.now c.in_ok-total.total c.args.state.now c.args.state.now c.args.meter.now c.advance.new.meter c.advance.result refl c.requires.callback c.if-args-lt2.false
    (rw c.in_ok-total.ensures (c.index-args-1.is))
    (from_start x (Reduce c.in_ok-total.total) c.args.state.now c.args.state.now c.args.meter.now c.advance.new.meter c.advance.result c.advance.ensures)
