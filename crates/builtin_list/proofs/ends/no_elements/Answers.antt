use Rattle.std.proofs.Common.{Ok}
use Rattle.js_values.specs.declared.value.Value.TheVariants.{Undefined}
use Rattle.page_meaning.specs.Act.{give}
use Rattle.page_meaning.specs.Elements as element
use Rattle.page_state.specs.Does.{itself}
use Rattle.page_state.proofs.Callers.{also_gives, failed, given}
use Rattle.builtin_list.proofs.ends.no_elements.Goals as goal

pub returns-in_err-set_length : goal.returns-in_err-set_length
returns-in_err-set_length c =
    failed (λ _. element.set_length c.args.list 0) (λ _ _. give Undefined) itself
    c.args.state.now c.set_length.new.self c.in_err-set_length.field-0.0 c.from_residual.result c.in_err-set_length.ensures c.from_residual.ensures

pub returns : goal.returns
returns c =
    also_gives (λ _. element.set_length c.args.list 0) (λ _ _. give Undefined) itself c.in_ok-set_length.field-0
    c.args.state.now c.set_length.new.self c.set_length.new.self (Ok Undefined) c.in_ok-set_length.ensures (given Undefined c.set_length.new.self)
