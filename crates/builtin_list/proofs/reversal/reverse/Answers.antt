use Rattle.std.proofs.Common.{Ok}
use Rattle.js_values.specs.declared.value.Value.TheVariants.{Undefined, Object}
use Rattle.page_meaning.specs.Act.{give}
use Rattle.page_meaning.specs.Elements as element
use Rattle.page_meaning.specs.ListRows as spec
use Rattle.page_state.specs.Does.{itself}
use Rattle.page_state.proofs.Callers.{also_ends}
use Rattle.builtin_list.proofs.Passed.{halted, gave}
use Rattle.builtin_list.proofs.reversal.reverse.Goals as goal

pub returns-in_err-turn_over : goal.returns-in_err-turn_over
returns-in_err-turn_over c =
    halted (λ _. element.turns_up (spec.turn_over c.args.list c.args.length) 0 (spec.half c.args.length)) (λ _ _. give (Object c.args.list)) itself
    c.args.state.now c.turn_over.new.state c.args.steps.now c.turn_over.new.steps c.in_err-turn_over.field-0.0 c.from_residual.result c.in_err-turn_over.ensures c.from_residual.ensures

pub returns : goal.returns
returns c =
    also_ends (λ _. element.turns_up (spec.turn_over c.args.list c.args.length) 0 (spec.half c.args.length)) (λ _ _. give (Object c.args.list)) itself Undefined
    c.args.state.now c.turn_over.new.state c.turn_over.new.state c.args.steps.now c.turn_over.new.steps c.turn_over.new.steps (Ok (Object c.args.list)) c.in_ok-turn_over.ensures
    (gave (Object c.args.list) c.turn_over.new.state c.turn_over.new.steps)
