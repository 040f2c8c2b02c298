use Rattle.page_meaning.specs.Names as spec
use Rattle.page_state.specs.Does.{itself}
use Rattle.page_state.proofs.Does.{bind_gives}
use Rattle.page_state.proofs.state.State.assign_name.Goals as goal

pub returns : goal.returns
returns c = λ here e. bind_gives (λ _. spec.resolve here c.args.name.now) (λ _ r. spec.write c.args.name.now r c.args.value) itself c.resolve-reference.result c.args.self.now c.args.self.now c.write.new.self c.write.result (c.resolve-reference.ensures here e) c.write.ensures
