use Rattle.page_meaning.specs.Convert.{a_number, to_primitive}
use Rattle.page_state.specs.Does.{itself}
use Rattle.page_state.specs.Operating.{paired}
use Rattle.page_state.proofs.Does.{also_gives, failed}
use Rattle.page_state.proofs.state.State.beside_primitive.Goals as goal

pub returns-in_err-q : goal.returns-in_err-q
returns-in_err-q c =
    failed (λ calls. to_primitive calls a_number c.args.right.now) (λ _. paired c.args.op c.args.p.now) itself
    c.args.self.now c.to_primitive.new.self c.in_err-q.field-0.0 c.from_residual.result (c.in_err-q.ensures a_number) c.from_residual.ensures

pub returns : goal.returns
returns c =
    also_gives (λ calls. to_primitive calls a_number c.args.right.now) (λ _. paired c.args.op c.args.p.now) itself
    c.in_ok-q.q c.args.self.now c.to_primitive.new.self c.pair.new.self c.pair.result (c.in_ok-q.ensures a_number) c.pair.ensures
