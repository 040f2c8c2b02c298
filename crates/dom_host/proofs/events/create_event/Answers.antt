use Rattle.dom_tree.specs.Node.{is_document}
use Rattle.page_meaning.specs.Convert.{text_in, to_text}
use Rattle.page_meaning.specs.NodeRows.{create_event, on_kind, with_text}
use Rattle.page_meaning.specs.ObjectRows.{argument}
use Rattle.page_state.specs.Does.{itself}
use Rattle.page_state.proofs.Callers.{failed}
use Rattle.dom_host.proofs.Asked.{fails, kind_gives, kind_raises, text_gives}
use Rattle.dom_host.proofs.events.create_event.Goals as goal

pub returns-in_err-_document : goal.returns-in_err-_document
returns-in_err-_document c =
    fails (λ calls. on_kind is_document (c.args.this.now) (λ k1. with_text calls c.args.args.now 0 (λ x2. create_event x2))) itself c.args.state.now c.found_document.new.state c.in_err-_document.field-0.0 c.from_residual.result
    (kind_raises is_document (c.args.this.now) (λ calls k1. with_text calls c.args.args.now 0 (λ x2. create_event x2)) c.args.state.now c.found_document.new.state c.in_err-_document.field-0.0 c.in_err-_document.ensures) c.from_residual.ensures

pub returns-in_err-kind : goal.returns-in_err-kind
returns-in_err-kind c =
    kind_gives is_document (c.args.this.now) (λ calls k1. with_text calls c.args.args.now 0 (λ x2. create_event x2)) itself c.in_ok-_document._document c.args.state.now c.found_document.new.state c.text_argument.new.state (c.from_residual-in_err-kind.result) c.in_ok-_document.ensures
    (failed (λ calls. to_text calls (argument c.args.args.now 0)) (λ calls y. create_event (text_in y)) itself c.found_document.new.state c.text_argument.new.state c.in_err-kind.field-0.0 c.from_residual-in_err-kind.result c.in_err-kind.ensures.text c.from_residual-in_err-kind.ensures)

pub returns : goal.returns
returns c =
    kind_gives is_document (c.args.this.now) (λ calls k1. with_text calls c.args.args.now 0 (λ x2. create_event x2)) itself c.in_ok-_document._document c.args.state.now c.found_document.new.state c.new_event.new.state (c.new_event.result) c.in_ok-_document.ensures
    (text_gives (argument c.args.args.now 0) (λ calls x2. create_event x2) itself c.in_ok-kind.kind c.found_document.new.state c.text_argument.new.state c.new_event.new.state (c.new_event.result) c.in_ok-kind.ensures.text
    (c.new_event.ensures))
