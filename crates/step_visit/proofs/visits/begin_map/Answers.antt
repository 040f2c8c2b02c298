use Rattle.std.proofs.Common.{Err}
use Rattle.page_meaning.specs.declared.signal.Signal.TheVariants.{Value as Val}
use Rattle.page_meaning.specs.declared.visit.Visit.TheVariants.{Map}
use Rattle.page_meaning.specs.Act.{also, on_value}
use Rattle.page_meaning.specs.Elements.{set_length}
use Rattle.page_meaning.specs.Expressions.{new_list}
use Rattle.page_meaning.specs.VisitRows.{visits}
use Rattle.page_state.proofs.Callers.{also_raises}
use Rattle.step_parts.proofs.Callers.{does_lower, gives_lower}
use Rattle.step_visit.proofs.Going.{from_start}
use Rattle.step_visit.proofs.visits.begin_map.Goals as goal

pub returns-in-Ok : goal.returns-in-Ok
returns-in-Ok c =
    let x = c.args.visited in
    does_lower (λ _. new_list) (λ calls a. also (set_length a x.length) (λ _. visits calls x.callback x.this x.list (Map a) 0 x.length)) c.in_ok-made.made 0 c.args.state.now c.new_list.new.self
    c.set_length.new.self c.args.meter.now c.advance.new.meter c.advance.result c.in_ok-made.ensures
    (does_lower (λ _. set_length c.in_ok-made.made x.length) (λ calls. on_value (λ _. visits calls x.callback x.this x.list (Map c.in_ok-made.made) 0 x.length)) (Val c.in-Ok.field-0) 0
    c.new_list.new.self c.set_length.new.self c.set_length.new.self c.args.meter.now c.advance.new.meter c.advance.result (rw c.in-Ok.is at c.set_length.ensures)
    (from_start x (Map c.in_ok-made.made) c.set_length.new.self c.set_length.new.self c.args.meter.now c.advance.new.meter c.advance.result c.advance.ensures))

pub returns-in-Err : goal.returns-in-Err
returns-in-Err c =
    let x = c.args.visited in
    does_lower (λ _. new_list) (λ calls a. also (set_length a x.length) (λ _. visits calls x.callback x.this x.list (Map a) 0 x.length)) c.in_ok-made.made 0 c.args.state.now c.new_list.new.self
    c.set_length.new.self c.args.meter.now c.args.meter.now c.give.result c.in_ok-made.ensures
    (gives_lower (λ calls. also (set_length c.in_ok-made.made x.length) (λ _. visits calls x.callback x.this x.list (Map c.in_ok-made.made) 0 x.length)) (Err c.in-Err.fault) 0
    c.new_list.new.self c.set_length.new.self c.args.meter.now c.give.result
    (also_raises (λ _. set_length c.in_ok-made.made x.length) (λ calls _. visits calls x.callback x.this x.list (Map c.in_ok-made.made) 0 x.length) c.new_list.new.self c.set_length.new.self
    c.in-Err.fault (rw c.in-Err.is at c.set_length.ensures)) c.give.ensures)
