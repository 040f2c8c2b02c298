use Rattle.page_meaning.specs.Elements as element
use Rattle.page_meaning.specs.ListRows as spec
use Rattle.page_state.specs.Does.{no_value}
use Rattle.page_state.proofs.Callers.{asked_gives}
use Rattle.builtin_list.proofs.copying.move_one.Goals as goal

pub returns : goal.returns
returns c =
    asked_gives (element.element c.args.list c.args.from) (λ _. spec.put_or_delete c.args.list c.args.to) no_value
    c.args.state.now c.put_or_delete.new.state c.put_or_delete.result (rw (← c.in_ok-element.ensures) c.put_or_delete.ensures)
