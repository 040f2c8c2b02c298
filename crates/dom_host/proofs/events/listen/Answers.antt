use Rattle.std.proofs.Common.{refl, Ok}
use Rattle.js_values.specs.declared.value.Value.TheVariants as value
use Rattle.page_host.specs.Steps.{listens}
use Rattle.page_meaning.specs.Act.{done, nothing}
use Rattle.page_meaning.specs.Convert.{text_in, to_text}
use Rattle.page_meaning.specs.NodeRows.{listener_of, with_callback}
use Rattle.page_meaning.specs.ObjectRows.{argument}
use Rattle.page_meaning.specs.Primitives.{changes_host}
use Rattle.page_meaning.specs.Act.{bind}
use Rattle.whole_ops.specs.Conversions.{is_true}
use Rattle.page_state.specs.Does.{itself}
use Rattle.page_state.proofs.Callers.{bind_does, failed}
use Rattle.dom_host.proofs.Asked.{callback_gives, callback_raises, fails, text_gives}
use Rattle.dom_host.proofs.events.listen.Goals as goal

pub returns-in_err-kind : goal.returns-in_err-kind
returns-in_err-kind c =
    failed (λ calls. to_text calls (argument c.args.args.now 0)) (λ calls y. with_callback (argument c.args.args.now 1) (λ k2. bind (changes_host (listens (listener_of c.args.node (text_in y) k2 (is_true (argument c.args.args.now 2))))) (λ _. done))) itself c.args.state.now c.text_argument.new.state c.in_err-kind.field-0.0 c.from_residual.result c.in_err-kind.ensures.text c.from_residual.ensures

pub returns-in_err-call : goal.returns-in_err-call
returns-in_err-call c =
    text_gives (argument c.args.args.now 0) (λ calls x1. with_callback (argument c.args.args.now 1) (λ k2. bind (changes_host (listens (listener_of c.args.node x1 k2 (is_true (argument c.args.args.now 2))))) (λ _. done))) itself c.in_ok-kind.kind c.args.state.now c.text_argument.new.state c.callback.new.self (c.from_residual-in_err-call.result) c.in_ok-kind.ensures.text
    (fails (λ calls. with_callback (argument c.args.args.now 1) (λ k2. bind (changes_host (listens (listener_of c.args.node c.in_ok-kind.kind k2 (is_true (argument c.args.args.now 2))))) (λ _. done))) itself c.text_argument.new.state c.callback.new.self c.in_err-call.field-0.0 c.from_residual-in_err-call.result
    (callback_raises (argument c.args.args.now 1) (λ calls k2. bind (changes_host (listens (listener_of c.args.node c.in_ok-kind.kind k2 (is_true (argument c.args.args.now 2))))) (λ _. done)) c.text_argument.new.state c.callback.new.self c.in_err-call.field-0.0 (rw (c.in_ok-function.ensures) at c.in_err-call.ensures)) c.from_residual-in_err-call.ensures)

pub returns : goal.returns
returns c =
    text_gives (argument c.args.args.now 0) (λ calls x1. with_callback (argument c.args.args.now 1) (λ k2. bind (changes_host (listens (listener_of c.args.node x1 k2 (is_true (argument c.args.args.now 2))))) (λ _. done))) itself c.in_ok-kind.kind c.args.state.now c.text_argument.new.state c.listen.new.self (Ok value.Undefined) c.in_ok-kind.ensures.text
    (callback_gives (argument c.args.args.now 1) (λ calls k2. bind (changes_host (listens (listener_of c.args.node c.in_ok-kind.kind k2 (is_true (argument c.args.args.now 2))))) (λ _. done)) itself c.in_ok-call.call c.text_argument.new.state c.callback.new.self c.listen.new.self (Ok value.Undefined) (rw (c.in_ok-function.ensures) at c.in_ok-call.ensures)
    (bind_does (λ _. changes_host (listens (listener_of c.args.node c.in_ok-kind.kind c.in_ok-call.call (is_true (argument c.args.args.now 2))))) (λ _ _. done) tt nothing c.callback.new.self c.listen.new.self c.listen.new.self (rw (c.is_true-capture.ensures, c.in_ok-argument.ensures) at c.in_ok-listen.ensures) (record { is = λ calls n. refl })))
