use Rattle.page_meaning.specs.declared.visit.Visit.TheVariants.{Filter}
use Rattle.page_meaning.specs.Expressions.{new_list}
use Rattle.page_meaning.specs.VisitRows.{visits}
use Rattle.step_parts.proofs.Callers.{does_lower}
use Rattle.step_visit.proofs.Going.{from_start}
use Rattle.step_visit.proofs.visits.begin_filter.Goals as goal

pub returns : goal.returns
returns c =
    does_lower (λ _. new_list) (λ calls a. visits calls c.args.visited.callback c.args.visited.this c.args.visited.list (Filter a 0) 0 c.args.visited.length) c.in_ok-made.made 0
    c.args.state.now c.new_list.new.self c.new_list.new.self c.args.meter.now c.advance.new.meter c.advance.result c.in_ok-made.ensures
    (from_start c.args.visited (Filter c.in_ok-made.made 0) c.new_list.new.self c.new_list.new.self c.args.meter.now c.advance.new.meter c.advance.result c.advance.ensures)
