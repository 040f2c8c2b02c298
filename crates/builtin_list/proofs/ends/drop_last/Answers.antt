use Rattle.std.proofs.Common.{Ok}
use Rattle.js_values.specs.declared.value.Value.TheVariants.{Undefined}
use Rattle.page_meaning.specs.Act.{also, give}
use Rattle.page_meaning.specs.Elements as element
use Rattle.page_state.specs.Does.{itself}
use Rattle.page_state.proofs.Callers.{also_gives, failed, given}
use Rattle.builtin_list.proofs.ends.drop_last.Goals as goal

pub returns-in_err-delete_element : goal.returns-in_err-delete_element
returns-in_err-delete_element c =
    failed (λ _. element.delete_element c.args.list c.args.last) (λ _ _. also (element.set_length c.args.list c.args.last) (λ _. give c.args.value)) itself
    c.args.state.now c.delete_element.new.self c.in_err-delete_element.field-0.0 c.from_residual.result c.in_err-delete_element.ensures c.from_residual.ensures

pub returns-in_err-set_length : goal.returns-in_err-set_length
returns-in_err-set_length c =
    also_gives (λ _. element.delete_element c.args.list c.args.last) (λ _ _. also (element.set_length c.args.list c.args.last) (λ _. give c.args.value)) itself Undefined
    c.args.state.now c.delete_element.new.self c.set_length.new.self c.from_residual-in_err-set_length.result c.in_ok-delete_element.ensures
    (failed (λ _. element.set_length c.args.list c.args.last) (λ _ _. give c.args.value) itself
    c.delete_element.new.self c.set_length.new.self c.in_err-set_length.field-0.0 c.from_residual-in_err-set_length.result c.in_err-set_length.ensures
    c.from_residual-in_err-set_length.ensures)

pub returns : goal.returns
returns c =
    also_gives (λ _. element.delete_element c.args.list c.args.last) (λ _ _. also (element.set_length c.args.list c.args.last) (λ _. give c.args.value)) itself Undefined
    c.args.state.now c.delete_element.new.self c.set_length.new.self (Ok c.args.value) c.in_ok-delete_element.ensures
    (also_gives (λ _. element.set_length c.args.list c.args.last) (λ _ _. give c.args.value) itself c.in_ok-set_length.field-0
    c.delete_element.new.self c.set_length.new.self c.set_length.new.self (Ok c.args.value) c.in_ok-set_length.ensures (given c.args.value c.set_length.new.self))
