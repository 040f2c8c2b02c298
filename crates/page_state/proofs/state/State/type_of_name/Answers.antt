use Rattle.js_values.specs.declared.value.Value.TheVariants.{Text}
use Rattle.page_meaning.specs.Names.{resolve, type_of_reference}
use Rattle.page_state.proofs.Does.{bind_gives}
use Rattle.page_state.proofs.state.State.type_of_name.Goals as goal

pub returns : goal.returns
returns c here e =
    bind_gives (λ _. resolve here c.args.name.now) (λ _. type_of_reference c.args.name.now) Text c.resolve-reference.result
    c.args.self.now c.args.self.now c.type_of_reference.new.self c.type_of_reference.result (c.resolve-reference.ensures here e) c.type_of_reference.ensures
