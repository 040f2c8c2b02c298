use Rattle.std.proofs.Common.{Ok}
use Rattle.page_meaning.specs.Act.{give}
use Rattle.page_meaning.specs.Names.{write}
use Rattle.page_state.specs.Does.{itself}
use Rattle.page_state.proofs.Callers.{also_gives, failed, given}
use Rattle.step_assign.proofs.named.put_name.Goals as goal

pub returns-in_err-_written : goal.returns-in_err-_written
returns-in_err-_written c =
    failed (λ _. write c.args.name.now c.args.reference c.args.value) (λ _ _. give c.args.value) itself
    c.args.state.now c.write.new.self c.in_err-_written.field-0.0 c.from_residual-in_err-_written.result c.in_err-_written.ensures c.from_residual-in_err-_written.ensures

pub returns : goal.returns
returns c =
    also_gives (λ _. write c.args.name.now c.args.reference c.args.value) (λ _ _. give c.args.value) itself
    c.in_ok-_written._written c.args.state.now c.write.new.self c.write.new.self (Ok c.in_ok-given.given) c.in_ok-_written.ensures
    (rw (← c.in_ok-given.ensures) (given c.in_ok-given.given c.write.new.self))
