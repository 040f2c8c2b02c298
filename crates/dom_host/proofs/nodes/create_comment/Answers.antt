use Rattle.std.proofs.Common.{refl, Ok}
use Rattle.js_values.specs.declared.value.Value.TheVariants as value
use Rattle.dom_tree.specs.declared.content.Kind.TheVariants as kind
use Rattle.dom_tree.specs.Node.{is_document}
use Rattle.page_meaning.specs.declared.signal.Signal.TheVariants.{Value as Val}
use Rattle.page_meaning.specs.Convert.{text_in, to_text}
use Rattle.page_meaning.specs.Functions.{object_of}
use Rattle.page_meaning.specs.NodeRows.{new_node, on_kind, with_text}
use Rattle.page_meaning.specs.ObjectRows.{argument}
use Rattle.page_meaning.specs.Primitives.{make_node}
use Rattle.page_state.specs.Does.{itself}
use Rattle.page_state.proofs.Callers.{bind_does, failed}
use Rattle.dom_host.proofs.Asked.{fails, kind_gives, kind_raises, text_gives}
use Rattle.dom_host.proofs.nodes.create_comment.Goals as goal

pub returns-in_err-_document : goal.returns-in_err-_document
returns-in_err-_document c =
    fails (λ calls. on_kind is_document (c.args.this.now) (λ k1. with_text calls c.args.args.now 0 (λ x2. new_node (kind.Comment x2)))) itself c.args.state.now c.found_document.new.state c.in_err-_document.field-0.0 c.from_residual.result
    (kind_raises is_document (c.args.this.now) (λ calls k1. with_text calls c.args.args.now 0 (λ x2. new_node (kind.Comment x2))) c.args.state.now c.found_document.new.state c.in_err-_document.field-0.0 c.in_err-_document.ensures) c.from_residual.ensures

pub returns-in_err-words : goal.returns-in_err-words
returns-in_err-words c =
    kind_gives is_document (c.args.this.now) (λ calls k1. with_text calls c.args.args.now 0 (λ x2. new_node (kind.Comment x2))) itself c.in_ok-_document._document c.args.state.now c.found_document.new.state c.text_argument.new.state (c.from_residual-in_err-words.result) c.in_ok-_document.ensures
    (failed (λ calls. to_text calls (argument c.args.args.now 0)) (λ calls y. new_node (kind.Comment (text_in y))) itself c.found_document.new.state c.text_argument.new.state c.in_err-words.field-0.0 c.from_residual-in_err-words.result c.in_err-words.ensures.text c.from_residual-in_err-words.ensures)

pub returns : goal.returns
returns c =
    kind_gives is_document (c.args.this.now) (λ calls k1. with_text calls c.args.args.now 0 (λ x2. new_node (kind.Comment x2))) itself c.in_ok-_document._document c.args.state.now c.found_document.new.state c.make_comment.new.self (Ok (value.Object c.in_ok-make_comment.field-0)) c.in_ok-_document.ensures
    (text_gives (argument c.args.args.now 0) (λ calls x2. new_node (kind.Comment x2)) itself c.in_ok-words.words c.found_document.new.state c.text_argument.new.state c.make_comment.new.self (Ok (value.Object c.in_ok-make_comment.field-0)) c.in_ok-words.ensures.text
    (bind_does (λ _. make_node (kind.Comment c.in_ok-words.words)) (λ _. object_of) c.in_ok-make_comment.field-0 (Val (value.Object c.in_ok-make_comment.field-0)) c.text_argument.new.state c.make_comment.new.self c.make_comment.new.self c.in_ok-make_comment.ensures (record { is = λ calls n. refl })))
