use Rattle.std.proofs.Common.{refl, Ok}
use Rattle.js_values.specs.declared.value.Value.TheVariants.{Text}
use Rattle.page_meaning.specs.Names.{read}
use Rattle.page_meaning.specs.Operators.{give_type}
use Rattle.page_state.proofs.Does.{also_gives, failed}
use Rattle.page_state.proofs.state.State.type_of_read.Goals as goal

pub returns-in_err-value : goal.returns-in_err-value
returns-in_err-value c =
    failed (λ _. read c.args.name.now c.args.reference) (λ _. give_type) Text
    c.args.self.now c.read.new.self c.in_err-value.field-0.0 c.from_residual.result c.in_err-value.ensures c.from_residual.ensures

pub returns : goal.returns
returns c =
    also_gives (λ _. read c.args.name.now c.args.reference) (λ _. give_type) Text c.in_ok-value.value
    c.args.self.now c.read.new.self c.read.new.self (Ok c.in_ok-type_text.field-0) c.in_ok-value.ensures (record { is = λ calls n. rw c.in_ok-type_text.ensures refl })
