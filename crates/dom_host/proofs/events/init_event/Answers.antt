use Rattle.std.proofs.Common.{refl, Ok}
use Rattle.js_values.specs.declared.value.Value.TheVariants as value
use Rattle.page_meaning.specs.Act.{done, nothing}
use Rattle.page_meaning.specs.Convert.{text_in, to_text}
use Rattle.page_meaning.specs.Events.{initialises}
use Rattle.page_meaning.specs.NodeRows.{change_event, on_event, with_text}
use Rattle.page_meaning.specs.ObjectRows.{argument}
use Rattle.page_meaning.specs.Primitives.{changes_event}
use Rattle.whole_ops.specs.Conversions.{is_true}
use Rattle.page_state.specs.Does.{itself}
use Rattle.page_state.proofs.Callers.{bind_does, failed}
use Rattle.dom_host.proofs.Asked.{event_gives, event_raises, fails, text_gives}
use Rattle.dom_host.proofs.events.init_event.Goals as goal

pub returns-in_err-at : goal.returns-in_err-at
returns-in_err-at c =
    fails (λ calls. on_event (c.args.this.now) (λ k1 parts. with_text calls c.args.args.now 0 (λ x2. change_event k1 (initialises x2 (is_true (argument c.args.args.now 1)) (is_true (argument c.args.args.now 2)))))) itself c.args.state.now c.found_event.new.state c.in_err-at.field-0.0 c.from_residual.result
    (event_raises (c.args.this.now) (λ calls k1. with_text calls c.args.args.now 0 (λ x2. change_event k1 (initialises x2 (is_true (argument c.args.args.now 1)) (is_true (argument c.args.args.now 2))))) c.args.state.now c.found_event.new.state c.in_err-at.field-0.0 c.in_err-at.ensures) c.from_residual.ensures

pub returns-in_err-kind : goal.returns-in_err-kind
returns-in_err-kind c =
    event_gives (c.args.this.now) (λ calls k1. with_text calls c.args.args.now 0 (λ x2. change_event k1 (initialises x2 (is_true (argument c.args.args.now 1)) (is_true (argument c.args.args.now 2))))) itself c.in_ok-at.at c.args.state.now c.found_event.new.state c.text_argument.new.state (c.from_residual-in_err-kind.result) c.in_ok-at.ensures
    (failed (λ calls. to_text calls (argument c.args.args.now 0)) (λ calls y. change_event c.in_ok-at.at (initialises (text_in y) (is_true (argument c.args.args.now 1)) (is_true (argument c.args.args.now 2)))) itself c.found_event.new.state c.text_argument.new.state c.in_err-kind.field-0.0 c.from_residual-in_err-kind.result c.in_err-kind.ensures.text c.from_residual-in_err-kind.ensures)

pub returns : goal.returns
returns c =
    event_gives (c.args.this.now) (λ calls k1. with_text calls c.args.args.now 0 (λ x2. change_event k1 (initialises x2 (is_true (argument c.args.args.now 1)) (is_true (argument c.args.args.now 2))))) itself c.in_ok-at.at c.args.state.now c.found_event.new.state c.init_event.new.self (Ok value.Undefined) c.in_ok-at.ensures
    (text_gives (argument c.args.args.now 0) (λ calls x2. change_event c.in_ok-at.at (initialises x2 (is_true (argument c.args.args.now 1)) (is_true (argument c.args.args.now 2)))) itself c.in_ok-kind.kind c.found_event.new.state c.text_argument.new.state c.init_event.new.self (Ok value.Undefined) c.in_ok-kind.ensures.text
    (bind_does (λ _. changes_event c.in_ok-at.at (initialises c.in_ok-kind.kind (is_true (argument c.args.args.now 1)) (is_true (argument c.args.args.now 2)))) (λ _ _. done) tt nothing c.text_argument.new.state c.init_event.new.self c.init_event.new.self (rw (c.is_true-bubbles.ensures, c.in_ok-argument.ensures, c.is_true-cancelable.ensures, c.in_ok-argument-2.ensures) at c.in_ok-init_event.ensures) (record { is = λ calls n. refl })))
