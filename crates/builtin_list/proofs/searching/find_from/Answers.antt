use Rattle.std.proofs.Common.{◌-◌}
use Rattle.js_values.specs.declared.value.Value.TheVariants.{Num}
use Rattle.page_meaning.specs.Convert.{to_number, number_in}
use Rattle.page_meaning.specs.ListRows as spec
use Rattle.page_state.specs.Does.{itself}
use Rattle.builtin_list.proofs.Passed.{did_on, failed_at}
use Rattle.builtin_list.proofs.searching.find_from.Goals as goal

pub returns-in_err-number : goal.returns-in_err-number
returns-in_err-number c =
    failed_at (λ calls. to_number calls c.args.from.now) (λ _ p. spec.find_up c.args.list c.args.value.now (spec.place_in c.args.length (number_in p))
    (c.args.length - spec.place_in c.args.length (number_in p))) itself c.args.state.now c.to_number.new.self c.args.steps.now c.in_err-number.field-0.0 c.from_residual.result
    c.in_err-number.ensures c.from_residual.ensures

pub returns : goal.returns
returns c =
    did_on (λ calls. to_number calls c.args.from.now) (λ _ p. spec.find_up c.args.list c.args.value.now (spec.place_in c.args.length (number_in p))
    (c.args.length - spec.place_in c.args.length (number_in p))) itself (Num c.in_ok-number.number) c.args.state.now c.to_number.new.self c.to_number.new.self c.args.steps.now
    c.find_up.new.steps c.find_up.result c.in_ok-number.ensures (rw (c.place_in-start.ensures.place) at c.find_up.ensures)
