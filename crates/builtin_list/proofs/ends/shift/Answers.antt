use Rattle.std.proofs.Common.{◌-◌, arith}
use Rattle.page_meaning.specs.Elements as element
use Rattle.page_meaning.specs.ListRows as spec
use Rattle.page_state.specs.Does.{itself}
use Rattle.page_state.proofs.Callers.{asked_ends, gives_ends}
use Rattle.builtin_list.proofs.Cases.{shift_some}
use Rattle.builtin_list.proofs.Passed.{fault_ends}
use Rattle.builtin_list.proofs.ends.shift.Goals as goal

pub returns-in_err-no_elements : goal.returns-in_err-no_elements
returns-in_err-no_elements c =
    rw c.if-length-eq0.true
    (fault_ends itself (λ _. spec.no_elements c.args.list) c.args.state.now c.no_elements.new.state c.args.steps.now c.in_err-no_elements.field-0.0 c.from_residual.result
    c.in_err-no_elements.ensures c.from_residual.ensures)

pub returns-then-length-eq0 : goal.returns-then-length-eq0
returns-then-length-eq0 c =
    rw c.if-length-eq0.true (gives_ends itself (λ _. spec.no_elements c.args.list) c.args.state.now c.no_elements.new.state c.args.steps.now c.in_ok-no_elements.field-0
    c.in_ok-no_elements.ensures)

pub returns : goal.returns
returns c =
    rw (shift_some c.args.list c.args.length (omega (arith, c.if-length-eq0.false)))
    (asked_ends (element.element_or c.args.list 0) (λ _. spec.shift_all c.args.list (c.args.length - 1)) itself
    c.args.state.now c.shift_all.new.state c.args.steps.now c.shift_all.new.steps c.shift_all.result (rw (← c.in_ok-value.ensures) c.shift_all.ensures))
