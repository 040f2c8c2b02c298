-- What is done to each of a list, one after another.
use Rattle.std.proofs.Common.{◌≡◌, sym, ap, ◌∙◌, ℕ, suc, ◌+◌, ◌<◌, List, ◌∷◌, length, drop, get_or, add-one, Result, Ok, Err}
use Rattle.std.proofs.lemmas.List.{drop_more}
use Rattle.std.specs.Result.{IsErr, IsErrAnd}
use Rattle.js_values.specs.declared.value.Value.{Value}
use Rattle.page_meaning.specs.declared.signal.Signal.TheVariants.{Value as Val}
use Rattle.page_meaning.specs.Act.{Act, Calls, also}
use Rattle.page_meaning.specs.Store.{Store}
use Rattle.js_core.specs.declared.memory.Failure.{Failure}
use Rattle.page_state.specs.Does.{Does, Gives, Raises}
use Rattle.page_state.proofs.Does.{also_gives, failed}

-- a fault that is handed on
pub handed : {B : Type 0} (act : Calls → Act) (f : B → Value) (s t : Store) (e : Failure Value) (r : Result B (Failure Value)) → Raises act s t e → IsErr r × IsErrAnd r (λ d. d ≡ e) → Gives f act s t r
handed act f s t e (Ok x) d h = cc (h.0)
handed act f s t e (Err x) d h = rw (h.1) d

-- ---- one after another

module _ {X : Type 0} (act : ℕ → List X → Act) (first : ℕ → X → Act) (f : Unit {0} → Value) (unfolds : (k : ℕ) (x : X) (xs : List X) → act k (x ∷ xs) ≡ also (first k x) (λ _. act (suc k) xs)) where
  rest_is : (xs : List X) (k : ℕ) (x : X) → k < length xs → x ≡ get_or xs k x → act k (drop k xs) ≡ also (first k x) (λ _. act (k + 1) (drop (k + 1) xs))
  rest_is xs k x there is =
      ap (act k) (drop_more xs k x there ∙ ap (λ y. y ∷ drop (k + 1) xs) (sym is)) ∙ unfolds k x (drop (k + 1) xs) ∙ ap (λ j. also (first k x) (λ _. act j (drop (k + 1) xs))) (sym (add-one k))

  pub one_on : (xs : List X) (k : ℕ) (x : X) (v : Value) (s t u : Store) (r : Result (Unit {0}) (Failure Value)) → k < length xs → x ≡ get_or xs k x → Does (λ _. first k x) s (Val v) t
      → Gives f (λ _. act (k + 1) (drop (k + 1) xs)) t u r → Gives f (λ _. act k (drop k xs)) s u r
  one_on xs k x v s t u r there is d g =
      rw (rest_is xs k x there is) (also_gives (λ _. first k x) (λ _ _. act (k + 1) (drop (k + 1) xs)) f v s t u r d g)

  pub one_fails : (xs : List X) (k : ℕ) (x : X) (s t : Store) (e : Failure Value) (r : Result (Unit {0}) (Failure Value)) → k < length xs → x ≡ get_or xs k x → Raises (λ _. first k x) s t e
      → IsErr r × IsErrAnd r (λ d. d ≡ e) → Gives f (λ _. act k (drop k xs)) s t r
  one_fails xs k x s t e r there is d h =
      rw (rest_is xs k x there is) (failed (λ _. first k x) (λ _ _. act (k + 1) (drop (k + 1) xs)) f s t e r d h)
