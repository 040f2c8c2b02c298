use Rattle.std.proofs.Common.{refl, Ok}
use Rattle.js_values.specs.declared.value.Value.TheVariants as value
use Rattle.page_meaning.specs.Act.{done, nothing}
use Rattle.page_meaning.specs.Events.{prevents}
use Rattle.page_meaning.specs.NodeRows.{change_event, on_event}
use Rattle.page_meaning.specs.Primitives.{changes_event}
use Rattle.page_state.specs.Does.{itself}
use Rattle.page_state.proofs.Callers.{bind_does}
use Rattle.dom_host.proofs.Asked.{event_gives, event_raises, fails}
use Rattle.dom_host.proofs.events.prevent_default.Goals as goal

pub returns-in_err-at : goal.returns-in_err-at
returns-in_err-at c vs =
    fails (λ calls. on_event (c.args.this.now) (λ k parts. change_event k prevents)) itself c.args.state.now c.found_event.new.state c.in_err-at.field-0.0 c.from_residual.result
    (event_raises (c.args.this.now) (λ calls k. change_event k prevents) c.args.state.now c.found_event.new.state c.in_err-at.field-0.0 c.in_err-at.ensures) c.from_residual.ensures

pub returns : goal.returns
returns c vs =
    event_gives (c.args.this.now) (λ calls k. change_event k prevents) itself c.in_ok-at.at c.args.state.now c.found_event.new.state c.prevent_default.new.self (Ok value.Undefined) c.in_ok-at.ensures
    (bind_does (λ _. changes_event c.in_ok-at.at prevents) (λ _ _. done) tt nothing c.found_event.new.state c.prevent_default.new.self c.prevent_default.new.self c.in_ok-prevent_default.ensures (record { is = λ calls n. refl }))
