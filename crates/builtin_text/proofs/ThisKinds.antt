-- What is done with values that are no text, no number or not undefined.
use Rattle.std.proofs.Common.{◌≡◌, refl, ℕ, ℤ, List, Option, take}
use Rattle.js_values.specs.declared.throw.Throw.TheVariants.{WrongArgument}
use Rattle.js_values.specs.declared.value.Value.{Value}
use Rattle.js_values.specs.declared.value.Value.TheVariants.{Undefined, Null, Bool as Truth, Num, Text, Object}
use Rattle.page_meaning.specs.Act.{Act, Calls}
use Rattle.page_meaning.specs.Errors.{raise}
use Rattle.page_meaning.specs.NumberRows.{on_number}
use Rattle.page_meaning.specs.Store.{Store}
use Rattle.page_meaning.specs.StringRows.{list_of_parts, on_text, parts_of, split_by}
use Rattle.js_core.specs.declared.memory.Failure.{Failure}
use Rattle.page_state.specs.Does.{Raises}

pub no_text : (v : Value) (f : Calls → List ℕ → Act) (s t : Store) (e : Failure Value) → ((x : List ℕ) → v ≡ Text x → ⊥) → Raises (λ _. raise WrongArgument) s t e → Raises (λ c. on_text v (f c)) s t e
no_text (Text x) f s t e h r = absurd (h x refl)
no_text Undefined f s t e h r = r
no_text Null f s t e h r = r
no_text (Truth b) f s t e h r = r
no_text (Num n) f s t e h r = r
no_text (Object o) f s t e h r = r

pub no_number : (v : Value) (f : Calls → Option ℤ → Act) (s t : Store) (e : Failure Value) → ((n : Option ℤ) → v ≡ Num n → ⊥) → Raises (λ _. raise WrongArgument) s t e → Raises (λ c. on_number v (f c)) s t e
no_number (Num n) f s t e h r = absurd (h n refl)
no_number Undefined f s t e h r = r
no_number Null f s t e h r = r
no_number (Truth b) f s t e h r = r
no_number (Text x) f s t e h r = r
no_number (Object o) f s t e h r = r

-- a separator that is given
pub some_separator : (v : Value) (x : List ℕ) (n : ℕ) (t : List ℕ) → (v ≡ Undefined → ⊥) → split_by v x n t ≡ list_of_parts (take n (parts_of x t))
some_separator Undefined x n t h = absurd (h refl)
some_separator Null x n t h = refl
some_separator (Truth b) x n t h = refl
some_separator (Num k) x n t h = refl
some_separator (Text y) x n t h = refl
some_separator (Object o) x n t h = refl
