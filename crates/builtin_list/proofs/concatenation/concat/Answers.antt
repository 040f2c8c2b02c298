use Rattle.std.proofs.Common.{◌∷◌, Ok}
use Rattle.js_values.specs.declared.value.Value.TheVariants.{Object}
use Rattle.page_meaning.specs.Expressions.{new_list}
use Rattle.page_meaning.specs.ListRows as spec
use Rattle.page_state.specs.Does.{itself}
use Rattle.page_state.proofs.Callers.{hands_on}
use Rattle.builtin_list.proofs.Passed.{made_on}
use Rattle.builtin_list.proofs.concatenation.concat.Goals as goal

pub returns-in_err-add_to : goal.returns-in_err-add_to
returns-in_err-add_to c =
    made_on (λ _. new_list) (λ _ a. spec.concat_from a 0 (Object c.args.list ∷ c.args.args.now)) itself c.in_ok-made.made c.args.state.now c.new_list.new.self c.add_to.new.state
    c.args.steps.now c.add_to.new.steps c.from_residual-in_err-add_to.result c.in_ok-made.ensures
    (hands_on itself (λ _. spec.concat_from c.in_ok-made.made 0 (Object c.args.list ∷ c.args.args.now)) c.new_list.new.self c.add_to.new.state c.args.steps.now c.add_to.new.steps
    c.in_err-add_to.field-0.0 c.from_residual-in_err-add_to.result
    (c.from_residual-in_err-add_to.ensures.1) c.in_err-add_to.ensures)

pub returns : goal.returns
returns c =
    made_on (λ _. new_list) (λ _ a. spec.concat_from a 0 (Object c.args.list ∷ c.args.args.now)) itself c.in_ok-made.made c.args.state.now c.new_list.new.self c.add_to.new.state
    c.args.steps.now c.add_to.new.steps (Ok (Object c.in_ok-made.made)) c.in_ok-made.ensures c.in_ok-add_to.ensures
