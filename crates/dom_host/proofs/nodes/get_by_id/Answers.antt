use Rattle.std.proofs.Common.{refl, Ok}
use Rattle.dom_tree.specs.Node.{is_document}
use Rattle.page_meaning.specs.Convert.{text_in, to_text}
use Rattle.page_meaning.specs.NodeRows.{get_by_id, on_kind, with_text}
use Rattle.page_meaning.specs.ObjectRows.{argument}
use Rattle.page_state.specs.Does.{itself}
use Rattle.page_state.proofs.Callers.{failed}
use Rattle.dom_host.proofs.Asked.{fails, kind_gives, kind_raises, text_gives}
use Rattle.dom_host.proofs.nodes.get_by_id.Goals as goal

pub returns-in_err-_document : goal.returns-in_err-_document
returns-in_err-_document c =
    fails (λ calls. on_kind is_document (c.args.this.now) (λ k1. with_text calls c.args.args.now 0 (λ x2. get_by_id x2))) itself c.args.state.now c.found_document.new.state c.in_err-_document.field-0.0 c.from_residual.result
    (kind_raises is_document (c.args.this.now) (λ calls k1. with_text calls c.args.args.now 0 (λ x2. get_by_id x2)) c.args.state.now c.found_document.new.state c.in_err-_document.field-0.0 c.in_err-_document.ensures) c.from_residual.ensures

pub returns-in_err-id : goal.returns-in_err-id
returns-in_err-id c =
    kind_gives is_document (c.args.this.now) (λ calls k1. with_text calls c.args.args.now 0 (λ x2. get_by_id x2)) itself c.in_ok-_document._document c.args.state.now c.found_document.new.state c.text_argument.new.state (c.from_residual-in_err-id.result) c.in_ok-_document.ensures
    (failed (λ calls. to_text calls (argument c.args.args.now 0)) (λ calls y. get_by_id (text_in y)) itself c.found_document.new.state c.text_argument.new.state c.in_err-id.field-0.0 c.from_residual-in_err-id.result c.in_err-id.ensures.text c.from_residual-in_err-id.ensures)

pub returns : goal.returns
returns c =
    kind_gives is_document (c.args.this.now) (λ calls k1. with_text calls c.args.args.now 0 (λ x2. get_by_id x2)) itself c.in_ok-_document._document c.args.state.now c.found_document.new.state c.text_argument.new.state (Ok c.object_with_id.result) c.in_ok-_document.ensures
    (text_gives (argument c.args.args.now 0) (λ calls x2. get_by_id x2) itself c.in_ok-id.id c.found_document.new.state c.text_argument.new.state c.text_argument.new.state (Ok c.object_with_id.result) c.in_ok-id.ensures.text
    (rw (c.object_with_id.ensures) (record { is = λ calls n. refl })))
