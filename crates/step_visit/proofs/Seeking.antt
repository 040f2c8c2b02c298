-- Turns up to the next element.
use Rattle.std.proofs.Common.{◌≡◌, refl, sym, ap, ◌∙◌, ℕ, zero, suc, ◌+◌, ◌-◌, ◌<◌, ◌≤◌, add-one, Option, Some, None, Result, Ok, arith}
use Rattle.std.specs.Result.{IsErrAnd}
use Rattle.js_values.specs.declared.ids.ObjId.{ObjId}
use Rattle.js_values.specs.declared.value.Value.{Value}
use Rattle.page_meaning.specs.Act.{Act, Ended, asking, bind, then_on}
use Rattle.page_meaning.specs.Elements.{element, on_element}
use Rattle.page_meaning.specs.Primitives.{take_step}
use Rattle.page_meaning.specs.Store.{Store}
use Rattle.page_state.specs.declared.turns.Halt.{Halt}
use Rattle.page_state.specs.declared.turns.Halt.TheVariants as halt
use Rattle.page_state.specs.Turns.{Tells}
use Rattle.page_state.proofs.Callers.{asked_tells, no_turn_tells, turn_tells}
use Rattle.step_visit.specs.Finding.{next_found, or_next}

-- ---- turns that pass over holes are the search, and then what is done at the element

module _ (at : ObjId) (length : ℕ) (turns : ℕ → ℕ → Act) (there : ℕ → ℕ → Value → Act) (from : Option (ℕ × Value) → Act) (ends : (k : ℕ) → turns k 0 ≡ from None)
    (unfolds : (k m : ℕ) → turns k (suc m) ≡ bind take_step (λ _. asking (element at k) (on_element (turns (suc k) m) (there k m))))
    (meets : (k : ℕ) (v : Value) → there k (length - suc k) v ≡ from (Some (k, v))) where
  abbrev Meets : ℕ → ℕ → Type 0
  Meets k m = (s : Store) (n : ℕ) → (turns k m).run s n ≡ (bind (next_found at k m) from).run s n

  at_element : (k m : ℕ) (s : Store) (j : ℕ) (o : Option Value) → m ≡ length - suc k → Meets (suc k) m
      → (on_element (turns (suc k) m) (there k m) o).run s j ≡ then_on ((or_next k (next_found at (suc k) m) o).run s j) from
  at_element k m s j None e next = next s j
  at_element k m s j (Some v) e next = ap (λ i. (there k i v).run s j) e ∙ ap (λ (a : Act). a.run s j) (meets k v)

  in_turn : (k m : ℕ) (s : Store) (n : ℕ) → m ≡ length - suc k → Meets (suc k) m
      → (bind take_step (λ _. asking (element at k) (on_element (turns (suc k) m) (there k m)))).run s n ≡ (bind (next_found at k (suc m)) from).run s n
  in_turn k m s zero e next = refl
  in_turn k m s (suc j) e next = at_element k m s j (element at k s) e next

  pub seeks : (k m : ℕ) → m ≡ length - k → Meets k m
  seeks k zero h s n = ap (λ (a : Act). a.run s n) (ends k)
  seeks k (suc m) h s n =
      ap (λ (a : Act). a.run s n) (unfolds k m) ∙ in_turn k m s n (omega (arith, h)) (seeks (suc k) m (omega (arith, h)))

-- ---- steps

-- an element that was found took a step at least
abbrev TookOne : ObjId → ℕ → ℕ → Store → ℕ → Type 0
TookOne at k m s n = (t : Store) (j : ℕ) (p : ℕ × Value) → (next_found at k m).run s n ≡ Ended (Some p) t j → suc j ≤ n

one_at : (at : ObjId) (k m : ℕ) (s t : Store) (n j : ℕ) (p : ℕ × Value) (o : Option Value) → TookOne at (suc k) m s n → (or_next k (next_found at (suc k) m) o).run s n ≡ Ended (Some p) t j → suc j ≤ suc n
one_at at k m s t n j p None next e = let h : suc j ≤ n = next t j p e in omega (arith, h)
one_at at k m s t n j p (Some v) next e = let same : n ≡ j = cc e in omega (arith, same)

pub one_taken : (at : ObjId) (k m : ℕ) (s : Store) (n : ℕ) → TookOne at k m s n
one_taken at k zero s n t j p e = cc e
one_taken at k (suc m) s zero t j p e = cc e
one_taken at k (suc m) s (suc n) t j p e = one_at at k m s t n j p (element at k s) (one_taken at (suc k) m s n) e

-- ---- turn by turn, so many from an index on

left_of : (k length : ℕ) → k < length → length - k ≡ suc (length - suc k)
left_of k length h = omega (arith, h)

-- no step is left for the turn
pub none_taken : (at : ObjId) (k length : ℕ) (s : Store) (n j : ℕ) (e : Halt) (r : Result (Option (ℕ × Value)) Halt) → k < length → n ≡ 0 → e ≡ halt.Stopped → IsErrAnd r (λ d. d ≡ e)
    → Tells (λ _. next_found at k (length - k)) s n s j r
none_taken at k length s n j e r there is stopped h =
    rw (left_of k length there) (no_turn_tells (λ _. asking (element at k) (or_next k (next_found at (suc k) (length - suc k)))) s n j e r is stopped h)

-- a hole is passed over
pub hole_passed : (at : ObjId) (k length : ℕ) (o : Option Value) (s t : Store) (n i j : ℕ) (r : Result (Option (ℕ × Value)) Halt) → k < length → n ≡ suc i → o ≡ element at k s → o ≡ None
    → Tells (λ _. next_found at (k + 1) (length - (k + 1))) s i t j r → Tells (λ _. next_found at k (length - k)) s n t j r
hole_passed at k length o s t n i j r there taken is hole h =
    let next : Tells (λ _. next_found at (suc k) (length - suc k)) s i t j r = rw (add-one k) at h in
    let none : element at k s ≡ None = sym is ∙ hole in
    rw (left_of k length there)
    (turn_tells (λ _. asking (element at k) (or_next k (next_found at (suc k) (length - suc k)))) s t n i j r taken
    (asked_tells (element at k) (λ _. or_next k (next_found at (suc k) (length - suc k))) s t i j r (rw none next)))

-- an element is found
pub element_found : (at : ObjId) (k length : ℕ) (o : Option Value) (v : Value) (s : Store) (n i : ℕ) → k < length → n ≡ suc i → o ≡ element at k s → o ≡ Some v
    → Tells (λ _. next_found at k (length - k)) s n s i (Ok (Some (k, v)))
element_found at k length o v s n i there taken is found =
    let some : element at k s ≡ Some v = sym is ∙ found in
    rw (left_of k length there)
    (turn_tells (λ _. asking (element at k) (or_next k (next_found at (suc k) (length - suc k)))) s s n i i (Ok (Some (k, v))) taken
    (asked_tells (element at k) (λ _. or_next k (next_found at (suc k) (length - suc k))) s s i i (Ok (Some (k, v))) (rw some (record { is = λ c. refl }))))

-- none is left
pub none_found : (at : ObjId) (k length : ℕ) (s : Store) (n : ℕ) → length ≤ k → Tells (λ _. next_found at k (length - k)) s n s n (Ok None)
none_found at k length s n past = let none : length - k ≡ 0 = omega (arith, past) in rw none (record { is = λ c. refl })
