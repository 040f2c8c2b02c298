-- What is no array, and what is none of the functions.
use Rattle.std.proofs.Common.{◌≡◌, refl, ℕ, List, Option, Some, None, Err}
use Rattle.js_values.specs.declared.built_in.BuiltIn.{BuiltIn}
use Rattle.js_values.specs.declared.built_in.BuiltIn.TheVariants as built_in
use Rattle.js_values.specs.declared.ids.ObjId.{ObjId}
use Rattle.js_values.specs.declared.throw.Throw.TheVariants.{WrongArgument}
use Rattle.js_values.specs.declared.value.Value.{Value}
use Rattle.page_meaning.specs.Act.{Act, Calls}
use Rattle.page_meaning.specs.Elements.{list_in, on_list, on_some}
use Rattle.page_meaning.specs.Errors.{raise}
use Rattle.page_meaning.specs.Rows.{list_row_on}
use Rattle.page_meaning.specs.Store.{Store}
use Rattle.js_core.specs.declared.memory.Failure.{Failure}
use Rattle.page_state.specs.declared.turns.Halt.TheVariants as halt
use Rattle.page_state.specs.Does.{Raises, itself}
use Rattle.page_state.specs.Turns.{Halts}
use Rattle.page_state.proofs.Callers.{asked_ends, raises_halts}

on_none : (o : Option ObjId) (f : Calls → ObjId → Act) (s t : Store) (n : ℕ) (e : Failure Value) → o ≡ None → Raises (λ _. raise WrongArgument) s t e → Halts (λ c. on_some (f c) o) s n t n (halt.Fault e)
on_none None f s t n e none r = raises_halts (λ _. raise WrongArgument) s t n e r
on_none (Some at) f s t n e none r = cc none

pub no_list : (v : Value) (f : Calls → ObjId → Act) (s t : Store) (n : ℕ) (e : Failure Value) → list_in v s ≡ None → Raises (λ _. raise WrongArgument) s t e → Halts (λ c. on_list v (f c)) s n t n (halt.Fault e)
no_list v f s t n e none r = asked_ends (list_in v) (λ c. on_some (f c)) itself s t n n (Err (halt.Fault e)) (on_none (list_in v s) f s t n e none r)

pub unbuilt : (which : BuiltIn) (vs : List Value) (at : ObjId) (length : ℕ) (s t : Store) (n : ℕ) (e : Failure Value)
    → (which ≡ built_in.ArrayPrototypeConcat → ⊥)
    → (which ≡ built_in.ArrayPrototypeJoin → ⊥)
    → (which ≡ built_in.ArrayPrototypePop → ⊥)
    → (which ≡ built_in.ArrayPrototypePush → ⊥)
    → (which ≡ built_in.ArrayPrototypeReverse → ⊥)
    → (which ≡ built_in.ArrayPrototypeShift → ⊥)
    → (which ≡ built_in.ArrayPrototypeSlice → ⊥)
    → (which ≡ built_in.ArrayPrototypeSplice → ⊥)
    → (which ≡ built_in.ArrayPrototypeUnshift → ⊥)
    → (which ≡ built_in.ArrayPrototypeIndexOf → ⊥)
    → (which ≡ built_in.ArrayPrototypeLastIndexOf → ⊥)
    → Raises (λ _. raise WrongArgument) s t e → Halts (λ calls. list_row_on calls which vs at length) s n t n (halt.Fault e)
unbuilt built_in.ArrayPrototypeConcat vs at length s t n e a b c d f g h i j k l r = absurd (a refl)
unbuilt built_in.ArrayPrototypeJoin vs at length s t n e a b c d f g h i j k l r = absurd (b refl)
unbuilt built_in.ArrayPrototypePop vs at length s t n e a b c d f g h i j k l r = absurd (c refl)
unbuilt built_in.ArrayPrototypePush vs at length s t n e a b c d f g h i j k l r = absurd (d refl)
unbuilt built_in.ArrayPrototypeReverse vs at length s t n e a b c d f g h i j k l r = absurd (f refl)
unbuilt built_in.ArrayPrototypeShift vs at length s t n e a b c d f g h i j k l r = absurd (g refl)
unbuilt built_in.ArrayPrototypeSlice vs at length s t n e a b c d f g h i j k l r = absurd (h refl)
unbuilt built_in.ArrayPrototypeSplice vs at length s t n e a b c d f g h i j k l r = absurd (i refl)
unbuilt built_in.ArrayPrototypeUnshift vs at length s t n e a b c d f g h i j k l r = absurd (j refl)
unbuilt built_in.ArrayPrototypeIndexOf vs at length s t n e a b c d f g h i j k l r = absurd (k refl)
unbuilt built_in.ArrayPrototypeLastIndexOf vs at length s t n e a b c d f g h i j k l r = absurd (l refl)
unbuilt which vs at length s t n e a b c d f g h i j k l r = raises_halts (λ _. raise WrongArgument) s t n e r
