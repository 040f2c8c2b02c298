use Rattle.page_meaning.specs.Act.{asking}
use Rattle.page_meaning.specs.Elements as element
use Rattle.page_meaning.specs.ListRows as spec
use Rattle.page_state.specs.Does.{no_value}
use Rattle.page_state.proofs.Callers.{asked_gives}
use Rattle.builtin_list.proofs.reversal.turn_at.Goals as goal

pub returns : goal.returns
returns c =
    asked_gives (element.element c.args.list c.args.low) (λ _ v. asking (element.element c.args.list c.args.high) (spec.exchange c.args.list c.args.low c.args.high v)) no_value
    c.args.state.now c.exchange.new.state c.exchange.result
    (asked_gives (element.element c.args.list c.args.high) (λ _. spec.exchange c.args.list c.args.low c.args.high (element.element c.args.list c.args.low c.args.state.now)) no_value
    c.args.state.now c.exchange.new.state c.exchange.result (rw (← c.in_ok-first.ensures, ← c.in_ok-second.ensures) c.exchange.ensures))
