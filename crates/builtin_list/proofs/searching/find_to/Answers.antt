use Rattle.js_values.specs.declared.value.Value.TheVariants.{Num}
use Rattle.page_meaning.specs.Convert.{to_number, number_in}
use Rattle.page_meaning.specs.ListRows as spec
use Rattle.page_state.specs.Does.{itself}
use Rattle.builtin_list.proofs.Passed.{did_on, failed_at}
use Rattle.builtin_list.proofs.searching.find_to.Goals as goal

pub returns-in_err-number : goal.returns-in_err-number
returns-in_err-number c =
    failed_at (λ calls. to_number calls c.args.to.now) (λ _ p. spec.find_down c.args.list c.args.value.now (spec.count_to c.args.length (number_in p))) itself c.args.state.now
    c.to_number.new.self c.args.steps.now c.in_err-number.field-0.0 c.from_residual.result c.in_err-number.ensures c.from_residual.ensures

pub returns : goal.returns
returns c =
    did_on (λ calls. to_number calls c.args.to.now) (λ _ p. spec.find_down c.args.list c.args.value.now (spec.count_to c.args.length (number_in p))) itself (Num c.in_ok-number.number)
    c.args.state.now c.to_number.new.self c.to_number.new.self c.args.steps.now c.find_down.new.steps c.find_down.result c.in_ok-number.ensures
    (rw (c.count_to.ensures) at c.find_down.ensures)
