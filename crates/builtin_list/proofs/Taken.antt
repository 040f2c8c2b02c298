-- Turns of loops, each of which takes its step.
use Rattle.std.proofs.Common.{◌≡◌, refl, sym, ap, ◌∙◌, ℕ, suc, ◌+◌, ◌-◌, ◌<◌, ◌≤◌, add-one, arith, Result, Ok, Err}
use Rattle.std.specs.Result.{IsErr, IsErrAnd}
use Rattle.js_values.specs.declared.value.Value.{Value}
use Rattle.page_meaning.specs.declared.signal.Signal.TheVariants.{Value as Val}
use Rattle.page_meaning.specs.Act.{Act, Calls, also, bind}
use Rattle.page_meaning.specs.Elements.{turns_down, turns_up}
use Rattle.page_meaning.specs.Primitives.{take_step}
use Rattle.page_meaning.specs.Store.{Store}
use Rattle.js_core.specs.declared.memory.Failure.{Failure}
use Rattle.page_state.specs.declared.turns.Halt.{Halt}
use Rattle.page_state.specs.declared.turns.Halt.TheVariants as halt
use Rattle.page_state.specs.Does.{Does, Raises, no_value}
use Rattle.page_state.specs.Turns.{Ends, Turned}
use Rattle.page_state.proofs.Callers.{no_turn, turn_ends}
use Rattle.builtin_list.proofs.Passed.{did_on, failed_at, same_ends}

-- no step was left for it
pub turn_stops : {B : Type 0} (act next : Calls → Act) (f : B → Value) (s : Store) (n h : ℕ) (e : Halt) (r : Result B Halt)
    → ((c : Calls) → act c ≡ bind take_step (λ _. next c)) → Turned n h (Err e) → IsErr r × IsErrAnd r (λ d. d ≡ e) → Ends f act s n s h r
turn_stops act next f s n h e r is taken g = same_ends act (λ c. bind take_step (λ _. next c)) f s s n h r is (no_turn next f s n h e r taken.0 taken.1.1 g.1)

module _ {B : Type 0} (act first : Calls → Act) (rest : Calls → Value → Act) (f : B → Value) (is : (c : Calls) → act c ≡ bind take_step (λ _. also (first c) (rest c))) where
  -- its step was taken, and what is done in it gave a value
  pub turn_on : (v : Value) (s t u : Store) (n h j : ℕ) (r : Result B Halt) → n ≡ suc h → Does first s (Val v) t → Ends f (λ c. rest c v) t h u j r → Ends f act s n u j r
  turn_on v s t u n h j r taken d e =
      same_ends act (λ c. bind take_step (λ _. also (first c) (rest c))) f s u n j r is
      (turn_ends (λ c. also (first c) (rest c)) f s u n h j r taken (did_on first rest f v s t u h j r d e))

  -- or threw
  pub turn_fails : (s t : Store) (n h : ℕ) (e : Failure Value) (r : Result B Halt) → n ≡ suc h → Raises first s t e → IsErr r × IsErrAnd r (λ d. d ≡ halt.Fault e) → Ends f act s n t h r
  turn_fails s t n h e r taken d g =
      same_ends act (λ c. bind take_step (λ _. also (first c) (rest c))) f s t n h r is
      (turn_ends (λ c. also (first c) (rest c)) f s t n h h r taken (failed_at first rest f s t h e r d g))

module _ (body : ℕ → Act) where
  -- ---- upwards

  up_is : (i m : ℕ) → i < m → turns_up body i (m - i) ≡ bind take_step (λ _. also (body i) (λ _. turns_up body (i + 1) (m - (i + 1))))
  up_is i m there =
      let more : m - i ≡ suc (m - (i + 1)) = omega (arith, there) in
      ap (turns_up body i) more ∙ ap (λ k. bind take_step (λ _. also (body i) (λ _. turns_up body k (m - (i + 1))))) (sym (add-one i))

  pub up_on : {B : Type 0} (f : B → Value) (m i : ℕ) (v : Value) (s t u : Store) (n h j : ℕ) (r : Result B Halt) → i < m → n ≡ suc h → Does (λ _. body i) s (Val v) t
      → Ends f (λ _. turns_up body (i + 1) (m - (i + 1))) t h u j r → Ends f (λ _. turns_up body i (m - i)) s n u j r
  up_on f m i v s t u n h j r there =
      turn_on (λ _. turns_up body i (m - i)) (λ _. body i) (λ _ _. turns_up body (i + 1) (m - (i + 1))) f (λ _. up_is i m there) v s t u n h j r

  pub up_fails : {B : Type 0} (f : B → Value) (m i : ℕ) (s t : Store) (n h : ℕ) (e : Failure Value) (r : Result B Halt) → i < m → n ≡ suc h → Raises (λ _. body i) s t e
      → IsErr r × IsErrAnd r (λ d. d ≡ halt.Fault e) → Ends f (λ _. turns_up body i (m - i)) s n t h r
  up_fails f m i s t n h e r there =
      turn_fails (λ _. turns_up body i (m - i)) (λ _. body i) (λ _ _. turns_up body (i + 1) (m - (i + 1))) f (λ _. up_is i m there) s t n h e r

  pub up_stops : {B : Type 0} (f : B → Value) (m i : ℕ) (s : Store) (n h : ℕ) (e : Halt) (r : Result B Halt) → i < m → Turned n h (Err e)
      → IsErr r × IsErrAnd r (λ d. d ≡ e) → Ends f (λ _. turns_up body i (m - i)) s n s h r
  up_stops f m i s n h e r there =
      turn_stops (λ _. turns_up body i (m - i)) (λ _. also (body i) (λ _. turns_up body (i + 1) (m - (i + 1)))) f s n h e r (λ _. up_is i m there)

  pub up_ends : (m i : ℕ) (s : Store) (n : ℕ) → m ≤ i → Ends no_value (λ _. turns_up body i (m - i)) s n s n (Ok tt)
  up_ends m i s n past = let none : m - i ≡ 0 = omega (arith, past) in rw none (record { is = λ c. refl })

  -- ---- downwards

  down_is : (k : ℕ) → 0 < k → turns_down body k ≡ bind take_step (λ _. also (body (k - 1)) (λ _. turns_down body (k - 1)))
  down_is k there = let more : k ≡ suc (k - 1) = omega (arith, there) in ap (turns_down body) more

  pub down_on : {B : Type 0} (f : B → Value) (k : ℕ) (v : Value) (s t u : Store) (n h j : ℕ) (r : Result B Halt) → 0 < k → n ≡ suc h → Does (λ _. body (k - 1)) s (Val v) t
      → Ends f (λ _. turns_down body (k - 1)) t h u j r → Ends f (λ _. turns_down body k) s n u j r
  down_on f k v s t u n h j r there =
      turn_on (λ _. turns_down body k) (λ _. body (k - 1)) (λ _ _. turns_down body (k - 1)) f (λ _. down_is k there) v s t u n h j r

  pub down_fails : {B : Type 0} (f : B → Value) (k : ℕ) (s t : Store) (n h : ℕ) (e : Failure Value) (r : Result B Halt) → 0 < k → n ≡ suc h → Raises (λ _. body (k - 1)) s t e
      → IsErr r × IsErrAnd r (λ d. d ≡ halt.Fault e) → Ends f (λ _. turns_down body k) s n t h r
  down_fails f k s t n h e r there =
      turn_fails (λ _. turns_down body k) (λ _. body (k - 1)) (λ _ _. turns_down body (k - 1)) f (λ _. down_is k there) s t n h e r

  pub down_stops : {B : Type 0} (f : B → Value) (k : ℕ) (s : Store) (n h : ℕ) (e : Halt) (r : Result B Halt) → 0 < k → Turned n h (Err e)
      → IsErr r × IsErrAnd r (λ d. d ≡ e) → Ends f (λ _. turns_down body k) s n s h r
  down_stops f k s n h e r there =
      turn_stops (λ _. turns_down body k) (λ _. also (body (k - 1)) (λ _. turns_down body (k - 1))) f s n h e r (λ _. down_is k there)

  pub down_ends : (k : ℕ) (s : Store) (n : ℕ) → k ≤ 0 → Ends no_value (λ _. turns_down body k) s n s n (Ok tt)
  down_ends k s n past = let none : k ≡ 0 = omega (arith, past) in rw none (record { is = λ c. refl })
