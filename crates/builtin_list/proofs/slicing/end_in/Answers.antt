use Rattle.js_values.specs.declared.value.Value.TheVariants.{Num}
use Rattle.page_meaning.specs.Convert.{to_number}
use Rattle.page_meaning.specs.ListRows as spec
use Rattle.builtin_list.proofs.Cases.{some_end}
use Rattle.builtin_list.proofs.Passed.{same_gives}
use Rattle.builtin_list.proofs.slicing.end_in.Goals as goal

pub returns-in_default : goal.returns-in_default
returns-in_default c =
    same_gives (λ calls. spec.end_in calls c.args.length c.args.value.now) (λ calls. to_number calls c.args.value.now) (λ n. Num n)
    c.args.state.now c.to_number.new.self c.to_number.result (λ calls. some_end calls c.args.length c.args.value.now c.in_default.not-Undefined) c.to_number.ensures
