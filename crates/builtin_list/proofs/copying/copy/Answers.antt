use Rattle.page_meaning.specs.Act.{done}
use Rattle.page_meaning.specs.Elements as element
use Rattle.page_state.specs.Does.{no_value}
use Rattle.page_state.proofs.Callers.{asked_gives}
use Rattle.builtin_list.proofs.copying.copy.Goals as goal

pub returns-in-Some : goal.returns-in-Some
returns-in-Some c =
    asked_gives (element.element c.args.from c.args.index) (λ _. element.on_element done (element.define_element c.args.made c.args.place)) no_value
    c.args.state.now c.define_element.new.self c.define_element.result (rw (← c.in_ok-value.ensures, c.in-Some.is) c.define_element.ensures)
