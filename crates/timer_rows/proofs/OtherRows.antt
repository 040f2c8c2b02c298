-- Built-in functions that are none of timers.
use Rattle.std.proofs.Common.{◌≡◌, refl, List}
use Rattle.js_core.specs.declared.memory.Failure.{Failure}
use Rattle.js_values.specs.declared.built_in.BuiltIn.{BuiltIn}
use Rattle.js_values.specs.declared.built_in.BuiltIn.TheVariants as built_in
use Rattle.js_values.specs.declared.throw.Throw.TheVariants.{WrongArgument}
use Rattle.js_values.specs.declared.value.Value.{Value}
use Rattle.page_meaning.specs.Errors.{raise}
use Rattle.page_meaning.specs.Store.{Store}
use Rattle.page_meaning.specs.TimerRows.{timer_row}
use Rattle.page_state.specs.Does.{Raises}

pub other_row : (which : BuiltIn) (vs : List Value) (s t : Store) (e : Failure Value)
    → (which ≡ built_in.SetTimeout → ⊥)
    → (which ≡ built_in.SetInterval → ⊥)
    → (which ≡ built_in.SetIntervalFrom → ⊥)
    → (which ≡ built_in.ClearTimeout → ⊥)
    → (which ≡ built_in.ClearInterval → ⊥)
    → Raises (λ _. raise WrongArgument) s t e → Raises (λ calls. timer_row calls which vs) s t e
other_row built_in.SetTimeout vs s t e a b c d f r = absurd (a refl)
other_row built_in.SetInterval vs s t e a b c d f r = absurd (b refl)
other_row built_in.SetIntervalFrom vs s t e a b c d f r = absurd (c refl)
other_row built_in.ClearTimeout vs s t e a b c d f r = absurd (d refl)
other_row built_in.ClearInterval vs s t e a b c d f r = absurd (f refl)
other_row which vs s t e a b c d f r = r
