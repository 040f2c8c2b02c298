-- The first of some values.
use Rattle.std.proofs.Common.{◌≡◌, refl, ℤ, ◌<◌, ◌≤◌, Option, List, [], ◌∷◌, length, drop, get_or, false, Result, arith}
use Rattle.js_values.specs.declared.value.Value.{Value}
use Rattle.js_values.specs.declared.value.Value.TheVariants.{Num}
use Rattle.page_meaning.specs.Act.{also}
use Rattle.page_meaning.specs.Convert.{number_in, to_number, to_text}
use Rattle.page_meaning.specs.MathRows.{picked, picked_of}
use Rattle.page_meaning.specs.NumberRows.{number_from}
use Rattle.page_meaning.specs.Store.{Store}
use Rattle.page_meaning.specs.StringRows.{text_from}
use Rattle.js_core.specs.declared.memory.Failure.{Failure}
use Rattle.page_state.specs.Does.{Gives}

pub first_number : {A : Type 0} (f : A → Value) (vs : List Value) (v : Value) (s t : Store) (r : Result A (Failure Value)) → 1 ≤ length vs → v ≡ get_or vs 0 v → Gives f (λ c. to_number c v) s t r → Gives f (λ c. number_from c false vs) s t r
first_number f [] v s t r h e g = absurd (omega arith)
first_number f (w ∷ vs) v s t r h e g = rw e at g

pub first_text : {A : Type 0} (f : A → Value) (vs : List Value) (v : Value) (s t : Store) (r : Result A (Failure Value)) → 1 ≤ length vs → v ≡ get_or vs 0 v → Gives f (λ c. to_text c v) s t r → Gives f (λ c. text_from c false vs) s t r
first_text f [] v s t r h e g = absurd (omega arith)
first_text f (w ∷ vs) v s t r h e g = rw e at g

pub first_picked : (p : Option ℤ → Option ℤ → Option ℤ) (vs : List Value) (v : Value) (s t : Store) (r : Result (Option ℤ) (Failure Value)) → 1 ≤ length vs → v ≡ get_or vs 0 v
    → Gives (λ x. Num x) (λ c. also (to_number c v) (λ n. picked c p (drop 1 vs) (number_in n))) s t r → Gives (λ x. Num x) (λ c. picked_of c p vs) s t r
first_picked p [] v s t r h e g = absurd (omega arith)
first_picked p (w ∷ vs) v s t r h e g = rw e at g

pub no_values : (vs : List Value) → length vs < 1 → [] ≡ vs
no_values [] h = refl
no_values (v ∷ vs) h = absurd (omega arith)
