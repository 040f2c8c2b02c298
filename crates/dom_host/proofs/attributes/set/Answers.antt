use Rattle.dom_tree.specs.Node.{is_element}
use Rattle.page_meaning.specs.Convert.{text_in, to_text}
use Rattle.page_meaning.specs.NodeRows.{on_kind, set_attribute, with_text}
use Rattle.page_meaning.specs.ObjectRows.{argument}
use Rattle.page_state.specs.Does.{itself}
use Rattle.page_state.proofs.Callers.{failed}
use Rattle.dom_host.proofs.Asked.{fails, kind_gives, kind_raises, text_gives}
use Rattle.dom_host.proofs.attributes.set.Goals as goal

pub returns-in_err-element : goal.returns-in_err-element
returns-in_err-element c =
    fails (λ calls. on_kind is_element (c.args.this.now) (λ k1. with_text calls c.args.args.now 0 (λ x2. with_text calls c.args.args.now 1 (λ x3. set_attribute k1 x2 x3)))) itself c.args.state.now c.found_element.new.state c.in_err-element.field-0.0 c.from_residual.result
    (kind_raises is_element (c.args.this.now) (λ calls k1. with_text calls c.args.args.now 0 (λ x2. with_text calls c.args.args.now 1 (λ x3. set_attribute k1 x2 x3))) c.args.state.now c.found_element.new.state c.in_err-element.field-0.0 c.in_err-element.ensures) c.from_residual.ensures

pub returns-in_err-name : goal.returns-in_err-name
returns-in_err-name c =
    kind_gives is_element (c.args.this.now) (λ calls k1. with_text calls c.args.args.now 0 (λ x2. with_text calls c.args.args.now 1 (λ x3. set_attribute k1 x2 x3))) itself c.in_ok-element.element c.args.state.now c.found_element.new.state c.text_argument.new.state (c.from_residual-in_err-name.result) c.in_ok-element.ensures
    (failed (λ calls. to_text calls (argument c.args.args.now 0)) (λ calls y. with_text calls c.args.args.now 1 (λ x3. set_attribute c.in_ok-element.element (text_in y) x3)) itself c.found_element.new.state c.text_argument.new.state c.in_err-name.field-0.0 c.from_residual-in_err-name.result c.in_err-name.ensures.text c.from_residual-in_err-name.ensures)

pub returns-in_err-value : goal.returns-in_err-value
returns-in_err-value c =
    kind_gives is_element (c.args.this.now) (λ calls k1. with_text calls c.args.args.now 0 (λ x2. with_text calls c.args.args.now 1 (λ x3. set_attribute k1 x2 x3))) itself c.in_ok-element.element c.args.state.now c.found_element.new.state c.text_argument-2.new.state (c.from_residual-in_err-value.result) c.in_ok-element.ensures
    (text_gives (argument c.args.args.now 0) (λ calls x2. with_text calls c.args.args.now 1 (λ x3. set_attribute c.in_ok-element.element x2 x3)) itself c.in_ok-name.name c.found_element.new.state c.text_argument.new.state c.text_argument-2.new.state (c.from_residual-in_err-value.result) c.in_ok-name.ensures.text
    (failed (λ calls. to_text calls (argument c.args.args.now 1)) (λ calls y. set_attribute c.in_ok-element.element c.in_ok-name.name (text_in y)) itself c.text_argument.new.state c.text_argument-2.new.state c.in_err-value.field-0.0 c.from_residual-in_err-value.result c.in_err-value.ensures.text c.from_residual-in_err-value.ensures))

pub returns : goal.returns
returns c =
    kind_gives is_element (c.args.this.now) (λ calls k1. with_text calls c.args.args.now 0 (λ x2. with_text calls c.args.args.now 1 (λ x3. set_attribute k1 x2 x3))) itself c.in_ok-element.element c.args.state.now c.found_element.new.state c.set_attribute.new.self (c.set_attribute.result) c.in_ok-element.ensures
    (text_gives (argument c.args.args.now 0) (λ calls x2. with_text calls c.args.args.now 1 (λ x3. set_attribute c.in_ok-element.element x2 x3)) itself c.in_ok-name.name c.found_element.new.state c.text_argument.new.state c.set_attribute.new.self (c.set_attribute.result) c.in_ok-name.ensures.text
    (text_gives (argument c.args.args.now 1) (λ calls x3. set_attribute c.in_ok-element.element c.in_ok-name.name x3) itself c.in_ok-value.value c.text_argument.new.state c.text_argument-2.new.state c.set_attribute.new.self (c.set_attribute.result) c.in_ok-value.ensures.text
    (c.set_attribute.ensures)))
