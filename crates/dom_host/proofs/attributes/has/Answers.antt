use Rattle.std.proofs.Common.{refl, Ok}
use Rattle.js_values.specs.declared.value.Value.TheVariants as value
use Rattle.dom_tree.specs.Node.{is_element}
use Rattle.page_meaning.specs.Convert.{text_in, to_text}
use Rattle.page_meaning.specs.NodeRows.{has_attribute, on_kind, with_text}
use Rattle.page_meaning.specs.ObjectRows.{argument}
use Rattle.page_state.specs.Does.{itself}
use Rattle.page_state.proofs.Callers.{failed}
use Rattle.dom_host.proofs.Asked.{fails, kind_gives, kind_raises, text_gives}
use Rattle.dom_host.proofs.attributes.has.Goals as goal

pub returns-in_err-element : goal.returns-in_err-element
returns-in_err-element c =
    fails (λ calls. on_kind is_element (c.args.this.now) (λ k1. with_text calls c.args.args.now 0 (λ x2. has_attribute k1 x2))) itself c.args.state.now c.found_element.new.state c.in_err-element.field-0.0 c.from_residual.result
    (kind_raises is_element (c.args.this.now) (λ calls k1. with_text calls c.args.args.now 0 (λ x2. has_attribute k1 x2)) c.args.state.now c.found_element.new.state c.in_err-element.field-0.0 c.in_err-element.ensures) c.from_residual.ensures

pub returns-in_err-name : goal.returns-in_err-name
returns-in_err-name c =
    kind_gives is_element (c.args.this.now) (λ calls k1. with_text calls c.args.args.now 0 (λ x2. has_attribute k1 x2)) itself c.in_ok-element.element c.args.state.now c.found_element.new.state c.text_argument.new.state (c.from_residual-in_err-name.result) c.in_ok-element.ensures
    (failed (λ calls. to_text calls (argument c.args.args.now 0)) (λ calls y. has_attribute c.in_ok-element.element (text_in y)) itself c.found_element.new.state c.text_argument.new.state c.in_err-name.field-0.0 c.from_residual-in_err-name.result c.in_err-name.ensures.text c.from_residual-in_err-name.ensures)

pub returns : goal.returns
returns c =
    kind_gives is_element (c.args.this.now) (λ calls k1. with_text calls c.args.args.now 0 (λ x2. has_attribute k1 x2)) itself c.in_ok-element.element c.args.state.now c.found_element.new.state c.text_argument.new.state (Ok (value.Bool c.has_attribute.result)) c.in_ok-element.ensures
    (text_gives (argument c.args.args.now 0) (λ calls x2. has_attribute c.in_ok-element.element x2) itself c.in_ok-name.name c.found_element.new.state c.text_argument.new.state c.text_argument.new.state (Ok (value.Bool c.has_attribute.result)) c.in_ok-name.ensures.text
    (rw (c.has_attribute.ensures) (record { is = λ calls n. refl })))
