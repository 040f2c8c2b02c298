-- Turns that look for a value.
use Rattle.std.proofs.Common.{◌≡◌, refl, ap, ◌∙◌, ℕ, suc, ◌+◌, ◌-◌, ◌<◌, ◌≤◌, arith, true, false, Option, Some, negsuc, Result, Ok, Err}
use Rattle.std.specs.Result.{IsErr, IsErrAnd}
use Rattle.js_values.specs.declared.ids.ObjId.{ObjId}
use Rattle.js_values.specs.declared.value.Value.{Value}
use Rattle.js_values.specs.declared.value.Value.TheVariants.{Num}
use Rattle.object_heap.specs.Define.{number}
use Rattle.page_meaning.specs.Act.{Act, asking, bind, choose, give}
use Rattle.page_meaning.specs.Elements.{element}
use Rattle.page_meaning.specs.ListRows.{find_down, find_up, is_there}
use Rattle.page_meaning.specs.Primitives.{take_step}
use Rattle.page_meaning.specs.Store.{Store}
use Rattle.page_state.specs.declared.turns.Halt.{Halt}
use Rattle.page_state.specs.Does.{itself}
use Rattle.page_state.specs.Turns.{Ends, Turned}
use Rattle.page_state.proofs.Callers.{asked_ends, turn_ends}
use Rattle.builtin_list.proofs.Passed.{same_ends}
use Rattle.builtin_list.proofs.Taken.{turn_stops}

module _ (at : ObjId) (v : Value) where
  -- what is done at one index, before what is done at the others
  abbrev pub look : ℕ → Act → Option Value → Act
  look k rest e = choose (is_there v e) (give (number k)) rest

  module _ (act rest : Act) (k : ℕ) (is : act ≡ bind take_step (λ _. asking (element at k) (look k rest))) where
    looked : (s u : Store) (n h j : ℕ) (r : Result Value Halt) → n ≡ suc h → Ends itself (λ _. look k rest (element at k s)) s h u j r → Ends itself (λ _. act) s n u j r
    looked s u n h j r taken d =
        same_ends (λ _. act) (λ _. bind take_step (λ _. asking (element at k) (look k rest))) itself s u n j r (λ _. is)
        (turn_ends (λ _. asking (element at k) (look k rest)) itself s u n h j r taken (asked_ends (element at k) (λ _. look k rest) itself s u h j r d))

    -- it is there
    pub found : (s : Store) (n h : ℕ) (w : Value) → n ≡ suc h → true ≡ is_there v (element at k s) → w ≡ number k → Ends itself (λ _. act) s n s h (Ok w)
    found s n h w taken there place = looked s s n h h (Ok w) taken (rw (← there, place) (record { is = λ c. refl }))

    -- it is not
    pub looks_on : (s u : Store) (n h j : ℕ) (r : Result Value Halt) → n ≡ suc h → false ≡ is_there v (element at k s) → Ends itself (λ _. rest) s h u j r → Ends itself (λ _. act) s n u j r
    looks_on s u n h j r taken there d = looked s u n h j r taken (rw (← there) d)

    pub look_stops : (s : Store) (n h : ℕ) (e : Halt) (r : Result Value Halt) → Turned n h (Err e) → IsErr r × IsErrAnd r (λ d. d ≡ e) → Ends itself (λ _. act) s n s h r
    look_stops s n h e r = turn_stops (λ _. act) (λ _. asking (element at k) (look k rest)) itself s n h e r (λ _. is)

  pub up_is : (k m i : ℕ) → i < m → find_up at v (k + i) (m - i) ≡ bind take_step (λ _. asking (element at (k + i)) (look (k + i) (find_up at v (k + (i + 1)) (m - (i + 1)))))
  up_is k m i there =
      let more : m - i ≡ suc (m - (i + 1)) = omega (arith, there) in
      let next : suc (k + i) ≡ k + (i + 1) = omega arith in
      ap (find_up at v (k + i)) more ∙ ap (λ j. bind take_step (λ _. asking (element at (k + i)) (look (k + i) (find_up at v j (m - (i + 1)))))) next

  pub down_is : (k : ℕ) → 0 < k → find_down at v k ≡ bind take_step (λ _. asking (element at (k - 1)) (look (k - 1) (find_down at v (k - 1))))
  down_is k there = let more : k ≡ suc (k - 1) = omega (arith, there) in ap (find_down at v) more

  pub up_none : (k m i : ℕ) (s : Store) (n : ℕ) (w : Value) → m ≤ i → w ≡ Num (Some (negsuc 0)) → Ends itself (λ _. find_up at v (k + i) (m - i)) s n s n (Ok w)
  up_none k m i s n w past is = let none : m - i ≡ 0 = omega (arith, past) in rw (none, is) (record { is = λ c. refl })

  pub down_none : (k : ℕ) (s : Store) (n : ℕ) (w : Value) → k ≤ 0 → w ≡ Num (Some (negsuc 0)) → Ends itself (λ _. find_down at v k) s n s n (Ok w)
  down_none k s n w past is = let none : k ≡ 0 = omega (arith, past) in rw (none, is) (record { is = λ c. refl })
