use Rattle.std.proofs.Common.{suc, add-one, ◌∙◌}
use Rattle.page_meaning.specs.declared.visit.Visit.TheVariants.{Filter}
use Rattle.page_meaning.specs.Elements.{define_element}
use Rattle.step_visit.proofs.Making.{made_on, makes_fault}
use Rattle.step_visit.proofs.telling.keep.Goals as goal

pub returns-in_err-define_element : goal.returns-in_err-define_element
returns-in_err-define_element c =
    makes_fault (define_element c.args.made c.args.count c.args.element.now) (Filter c.args.made (suc c.args.count)) c.args.state.now c.define_element.new.self c.in_err-define_element.field-0.0
    c.from_residual-in_err-define_element.result c.from_residual-in_err-define_element.ensures.1 (rw c.in_ok-clone.ensures at c.in_err-define_element.ensures)

pub returns : goal.returns
returns c =
    rw (c.in_ok-next.ensures ∙ add-one c.args.count)
    (made_on (define_element c.args.made c.args.count c.args.element.now) (Filter c.args.made (suc c.args.count)) c.args.state.now c.define_element.new.self
    (rw c.in_ok-clone.ensures at c.in_ok-define_element.ensures))
