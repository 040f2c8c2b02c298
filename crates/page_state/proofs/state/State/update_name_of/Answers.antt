use Rattle.js_values.specs.declared.value.Value.TheVariants.{Num}
use Rattle.page_meaning.specs.Convert.{to_number}
use Rattle.page_meaning.specs.Names.{write}
use Rattle.page_state.specs.Does.{itself}
use Rattle.page_state.specs.Updates.{changed}
use Rattle.page_state.proofs.Does.{also_gives, failed}
use Rattle.page_state.proofs.state.State.update_name_of.Goals as goal

pub returns-in_err-old : goal.returns-in_err-old
returns-in_err-old c =
    failed (λ calls. to_number calls c.args.value.now) (λ _. changed c.args.up c.args.prefix (write c.args.name.now c.args.reference)) itself
    c.args.self.now c.to_number.new.self c.in_err-old.field-0.0 c.from_residual.result c.in_err-old.ensures c.from_residual.ensures

pub returns : goal.returns
returns c =
    also_gives (λ calls. to_number calls c.args.value.now) (λ _. changed c.args.up c.args.prefix (write c.args.name.now c.args.reference)) itself
    (Num c.in_ok-old.old) c.args.self.now c.to_number.new.self c.change_name.new.self c.change_name.result c.in_ok-old.ensures c.change_name.ensures
