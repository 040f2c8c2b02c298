use Rattle.js_values.specs.declared.value.Value.TheVariants.{Text}
use Rattle.page_meaning.specs.Act.{also, asking}
use Rattle.page_meaning.specs.Elements as element
use Rattle.page_meaning.specs.ListRows as spec
use Rattle.page_state.proofs.Callers.{also_gives, failed}
use Rattle.builtin_list.specs.Lists.{for_text}
use Rattle.builtin_list.proofs.joining.append_one.Goals as goal

pub returns-in_err-append : goal.returns-in_err-append
returns-in_err-append c =
    failed (λ _. spec.join_text (Text c.args.joined.now.items) (Text c.args.separator.now))
    (λ calls t. also (asking (element.element_or c.args.list c.args.index) (spec.element_text calls)) (λ u. spec.join_text t u)) (for_text c.append.new.joined.items) c.args.state.now
    c.append.new.state c.in_err-append.field-0.0 c.from_residual.result (rw (c.as_slice.ensures.value) at c.in_err-append.ensures) c.from_residual.ensures

pub returns-in_err-text : goal.returns-in_err-text
returns-in_err-text c =
    also_gives (λ _. spec.join_text (Text c.args.joined.now.items) (Text c.args.separator.now))
    (λ calls t. also (asking (element.element_or c.args.list c.args.index) (spec.element_text calls)) (λ u. spec.join_text t u)) (for_text c.append.new.joined.items)
    (Text c.append.new.joined.items) c.args.state.now c.append.new.state c.text_at.new.state c.from_residual-in_err-text.result (rw (c.as_slice.ensures.value) at c.in_ok-append.ensures)
    (failed (λ calls. asking (element.element_or c.args.list c.args.index) (spec.element_text calls)) (λ _ u. spec.join_text (Text c.append.new.joined.items) u)
    (for_text c.append.new.joined.items) c.append.new.state c.text_at.new.state c.in_err-text.field-0.0 c.from_residual-in_err-text.result c.in_err-text.ensures
    c.from_residual-in_err-text.ensures)

pub returns : goal.returns
returns c =
    also_gives (λ _. spec.join_text (Text c.args.joined.now.items) (Text c.args.separator.now))
    (λ calls t. also (asking (element.element_or c.args.list c.args.index) (spec.element_text calls)) (λ u. spec.join_text t u)) (for_text c.append-2.new.joined.items)
    (Text c.append.new.joined.items) c.args.state.now c.append.new.state c.append-2.new.state c.append-2.result (rw (c.as_slice.ensures.value) at c.in_ok-append.ensures)
    (also_gives (λ calls. asking (element.element_or c.args.list c.args.index) (spec.element_text calls)) (λ _ u. spec.join_text (Text c.append.new.joined.items) u)
    (for_text c.append-2.new.joined.items) (Text c.in_ok-text.text) c.append.new.state c.text_at.new.state c.append-2.new.state c.append-2.result c.in_ok-text.ensures
    (rw (c.as_slice-2.ensures.value) at c.append-2.ensures))
