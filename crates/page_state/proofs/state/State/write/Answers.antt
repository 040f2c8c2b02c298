use Rattle.page_meaning.specs.Act.{give}
use Rattle.page_meaning.specs.Primitives.{bind_name}
use Rattle.page_state.proofs.Does.{bind_does, given}
use Rattle.page_state.proofs.state.State.write.Goals as goal

pub returns-in_ok-given-in-Environment : goal.returns-in_ok-given-in-Environment
returns-in_ok-given-in-Environment c = rw (c.in-Environment.is, c.in_ok-given-in-Environment.ensures) (bind_does (λ _. bind_name c.in-Environment.at c.args.name.now c.args.value) (λ _ _. give c.args.value) tt _ c.args.self.now c.bind_name.new.self c.bind_name.new.self c.bind_name.ensures (given c.args.value c.bind_name.new.self))

pub returns-in-Global : goal.returns-in-Global
returns-in-Global c = rw c.in-Global.is c.put_in.ensures

pub returns-in_ok-clone-in-Nowhere : goal.returns-in_ok-clone-in-Nowhere
returns-in_ok-clone-in-Nowhere c = rw (c.in-Nowhere.is, ← c.in_ok-clone-in-Nowhere.ensures) c.raise.ensures
