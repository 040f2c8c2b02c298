use Rattle.page_meaning.specs.Elements as element
use Rattle.page_state.specs.Does.{no_value}
use Rattle.page_state.proofs.Callers.{gives_ends}
use Rattle.builtin_list.proofs.Passed.{fault_ends}
use Rattle.builtin_list.proofs.concatenation.add_item.Goals as goal

pub returns-in_err-define_element-in-None : goal.returns-in_err-define_element-in-None
returns-in_err-define_element-in-None c =
    rw c.in-None.is
    (fault_ends no_value (λ _. element.define_element c.args.made c.args.place c.args.item.now) c.args.state.now c.define_element.new.self c.args.steps.now
    c.in_err-define_element-in-None.field-0.0 c.from_residual-in_err-define_element-in-None.result
    (rw (c.in_ok-clone-in-None.ensures) at c.in_err-define_element-in-None.ensures) c.from_residual-in_err-define_element-in-None.ensures)

pub returns-in-Some : goal.returns-in-Some
returns-in-Some c =
    rw c.in-Some.is c.copy_all.ensures

pub returns-in_ok-define_element-in-None : goal.returns-in_ok-define_element-in-None
returns-in_ok-define_element-in-None c =
    rw c.in-None.is
    (gives_ends no_value (λ _. element.define_element c.args.made c.args.place c.args.item.now) c.args.state.now c.define_element.new.self c.args.steps.now tt
    (rw (c.in_ok-clone-in-None.ensures) at c.in_ok-define_element-in-None.ensures))
