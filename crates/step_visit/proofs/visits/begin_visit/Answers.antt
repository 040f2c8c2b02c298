use Rattle.std.proofs.Common.{sym, ◌∙◌, Err}
use Rattle.js_values.specs.declared.throw.Throw.TheVariants.{WrongArgument}
use Rattle.page_meaning.specs.Errors.{raise}
use Rattle.page_meaning.specs.VisitRows.{visit_on}
use Rattle.step_parts.proofs.Callers.{gives_lower, on_no_list, on_the_list}
use Rattle.step_visit.proofs.visits.begin_visit.Goals as goal

pub returns-in-Some : goal.returns-in-Some
returns-in-Some c =
    on_the_list c.args.this.now (λ calls. visit_on calls c.args.which c.args.args.now) c.in-Some.list 0 c.args.state.now c.begin_on.new.state c.args.meter.now c.begin_on.new.meter c.begin_on.result
    (sym c.in-Some.is ∙ c.as_list.ensures) c.begin_on.ensures

pub returns-in-None : goal.returns-in-None
returns-in-None c =
    on_no_list c.args.this.now (λ calls. visit_on calls c.args.which c.args.args.now) 0 c.args.state.now c.raise-fault.new.self c.args.meter.now c.args.meter.now c.give.result
    (sym c.in-None.is ∙ c.as_list.ensures)
    (gives_lower (λ _. raise WrongArgument) (Err c.raise-fault.result) 0 c.args.state.now c.raise-fault.new.self c.args.meter.now c.give.result c.raise-fault.ensures c.give.ensures)
