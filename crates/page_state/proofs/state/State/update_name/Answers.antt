use Rattle.page_meaning.specs.Names.{read, write}
use Rattle.page_meaning.specs.Operators.{update_with}
use Rattle.page_state.specs.Does.{itself}
use Rattle.page_state.proofs.Does.{also_gives, failed}
use Rattle.page_state.proofs.state.State.update_name.Goals as goal

pub returns-in_err-value : goal.returns-in_err-value
returns-in_err-value c =
    failed (λ _. read c.args.name.now c.args.reference) (λ calls. update_with calls c.args.up c.args.prefix (write c.args.name.now c.args.reference)) itself
    c.args.self.now c.read.new.self c.in_err-value.field-0.0 c.from_residual.result c.in_err-value.ensures c.from_residual.ensures

pub returns : goal.returns
returns c =
    also_gives (λ _. read c.args.name.now c.args.reference) (λ calls. update_with calls c.args.up c.args.prefix (write c.args.name.now c.args.reference)) itself
    c.in_ok-value.value c.args.self.now c.read.new.self c.update_name_of.new.self c.update_name_of.result c.in_ok-value.ensures c.update_name_of.ensures
