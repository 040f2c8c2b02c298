use Rattle.std.proofs.Common.{refl, Ok}
use Rattle.js_values.specs.declared.value.Value.TheVariants.{Num}
use Rattle.page_meaning.specs.Act.{give}
use Rattle.page_meaning.specs.Names.{write}
use Rattle.page_meaning.specs.Operators.{updated_value}
use Rattle.page_state.specs.Does.{itself}
use Rattle.page_state.proofs.Does.{also_gives, failed}
use Rattle.page_state.proofs.state.State.put_back_name.Goals as goal

pub returns-in_err-_written : goal.returns-in_err-_written
returns-in_err-_written c =
    failed (λ _. write c.args.name.now c.args.reference (Num c.args.new)) (λ _ _. give (updated_value c.args.prefix (Num c.args.old) (Num c.args.new))) itself
    c.args.self.now c.write.new.self c.in_err-_written.field-0.0 c.from_residual.result c.in_err-_written.ensures c.from_residual.ensures

pub returns : goal.returns
returns c =
    also_gives (λ _. write c.args.name.now c.args.reference (Num c.args.new)) (λ _ _. give (updated_value c.args.prefix (Num c.args.old) (Num c.args.new))) itself
    c.in_ok-_written._written c.args.self.now c.write.new.self c.write.new.self (Ok c.updated.result) c.in_ok-_written.ensures (record { is = λ calls n. rw c.updated.ensures refl })
