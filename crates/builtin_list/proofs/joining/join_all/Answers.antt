use Rattle.std.proofs.Common.{◌-◌, arith}
use Rattle.js_values.specs.declared.value.Value.TheVariants.{Text}
use Rattle.page_meaning.specs.Act.{also, asking}
use Rattle.page_meaning.specs.Elements as element
use Rattle.page_meaning.specs.ListRows as spec
use Rattle.page_state.specs.Does.{itself}
use Rattle.builtin_list.proofs.Cases.{join_some}
use Rattle.builtin_list.proofs.Passed.{did_on, same_ends}
use Rattle.builtin_list.proofs.joining.join_all.Goals as goal

pub returns : goal.returns
returns c =
    same_ends (λ calls. spec.join_all calls c.args.list c.args.length (Text c.args.separator.now))
    (λ calls. also (asking (element.element_or c.args.list 0) (spec.element_text calls)) (λ first. spec.join_from calls c.args.list (Text c.args.separator.now) first 1 (c.args.length - 1)))
    itself
    c.args.state.now c.join_on.new.state c.args.steps.now c.join_on.new.steps c.join_on.result
    (λ calls. join_some calls c.args.list c.args.length (Text c.args.separator.now) (omega (arith, c.if-length-eq0.false)))
    (did_on (λ calls. asking (element.element_or c.args.list 0) (spec.element_text calls))
    (λ calls first. spec.join_from calls c.args.list (Text c.args.separator.now) first 1 (c.args.length - 1)) itself (Text c.in_ok-first.first) c.args.state.now c.text_at.new.state
    c.join_on.new.state c.args.steps.now c.join_on.new.steps c.join_on.result c.in_ok-first.ensures c.join_on.ensures)
