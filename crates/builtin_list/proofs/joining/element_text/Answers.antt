use Rattle.js_values.specs.declared.value.Value.TheVariants.{Text}
use Rattle.page_meaning.specs.Convert.{to_text}
use Rattle.page_meaning.specs.ListRows as spec
use Rattle.builtin_list.proofs.Cases.{some_text}
use Rattle.builtin_list.proofs.Passed.{same_gives}
use Rattle.builtin_list.proofs.joining.element_text.Goals as goal

pub returns-in_default : goal.returns-in_default
returns-in_default c =
    same_gives (λ calls. spec.element_text calls c.args.value.now) (λ calls. to_text calls c.args.value.now) (λ t. Text t)
    c.args.state.now c.to_text.new.self c.to_text.result (λ calls. some_text calls c.args.value.now c.in_default.not-Undefined c.in_default.not-Null) c.to_text.ensures
