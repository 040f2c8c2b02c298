use Rattle.page_meaning.specs.Act.{also}
use Rattle.page_meaning.specs.Convert.{a_number, to_primitive}
use Rattle.page_state.specs.Does.{itself}
use Rattle.page_state.specs.Operating.{paired}
use Rattle.page_state.proofs.Does.{also_gives, failed}
use Rattle.page_state.proofs.state.State.on_primitives.Goals as goal

pub returns-in_err-p : goal.returns-in_err-p
returns-in_err-p c =
    failed (λ calls. to_primitive calls a_number c.args.left.now)
    (λ calls p. also (to_primitive calls a_number c.args.right.now) (paired c.args.op p)) itself
    c.args.self.now c.to_primitive.new.self c.in_err-p.field-0.0 c.from_residual.result (c.in_err-p.ensures a_number) c.from_residual.ensures

pub returns : goal.returns
returns c =
    also_gives (λ calls. to_primitive calls a_number c.args.left.now)
    (λ calls p. also (to_primitive calls a_number c.args.right.now) (paired c.args.op p)) itself
    c.in_ok-p.p c.args.self.now c.to_primitive.new.self c.beside_primitive.new.self c.beside_primitive.result (c.in_ok-p.ensures a_number) c.beside_primitive.ensures
