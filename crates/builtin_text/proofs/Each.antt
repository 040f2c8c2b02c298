-- What is done with each of a list of values, one after another.
use Rattle.std.proofs.Common.{◌≡◌, sym, ap, ◌∙◌, subst, ℕ, ◌+◌, ◌<◌, List, ◌∷◌, length, drop, get_or, Result}
use Rattle.std.proofs.lemmas.List.{drop_more}
use Rattle.std.specs.Result.{IsErr, IsErrAnd}
use Rattle.js_values.specs.declared.value.Value.{Value}
use Rattle.page_meaning.specs.declared.signal.Signal.TheVariants.{Value as Val}
use Rattle.page_meaning.specs.Act.{Act, Calls, also}
use Rattle.page_meaning.specs.Store.{Store}
use Rattle.js_core.specs.declared.memory.Failure.{Failure}
use Rattle.page_state.specs.Does.{Does, Gives, Raises}
use Rattle.page_state.proofs.Callers.{also_gives, failed}

module _ {A B : Type 0} (all : Calls → List Value → A → Act) (one : Calls → Value → A → Act) (next : Value → A → A) (f : B → Value) (unfolds : (c : Calls) (v : Value) (vs : List Value) (a : A) → all c (v ∷ vs) a ≡ also (one c v a) (λ x. all c vs (next x a))) where
  rest_is : (vs : List Value) (k : ℕ) (v : Value) (a : A) → k < length vs → v ≡ get_or vs k v → (c : Calls) → all c (drop k vs) a ≡ also (one c v a) (λ x. all c (drop (k + 1) vs) (next x a))
  rest_is vs k v a there is c =
      ap (λ ws. all c ws a) (drop_more vs k v there ∙ ap (λ w. w ∷ drop (k + 1) vs) (sym is)) ∙ unfolds c v (drop (k + 1) vs) a

  pub each_on : (vs : List Value) (k : ℕ) (v : Value) (a : A) (w : Value) (s t u : Store) (r : Result B (Failure Value)) → k < length vs → v ≡ get_or vs k v → Does (λ c. one c v a) s (Val w) t
      → Gives f (λ c. all c (drop (k + 1) vs) (next w a)) t u r → Gives f (λ c. all c (drop k vs) a) s u r
  each_on vs k v a w s t u r there is d g =
      subst (λ m. Gives f m s u r) (sym (λ i c. rest_is vs k v a there is c i)) (also_gives (λ c. one c v a) (λ c x. all c (drop (k + 1) vs) (next x a)) f w s t u r d g)

  pub each_fails : (vs : List Value) (k : ℕ) (v : Value) (a : A) (s t : Store) (e : Failure Value) (r : Result B (Failure Value)) → k < length vs → v ≡ get_or vs k v → Raises (λ c. one c v a) s t e
      → IsErr r × IsErrAnd r (λ d. d ≡ e) → Gives f (λ c. all c (drop k vs) a) s t r
  each_fails vs k v a s t e r there is d h =
      subst (λ m. Gives f m s t r) (sym (λ i c. rest_is vs k v a there is c i)) (failed (λ c. one c v a) (λ c x. all c (drop (k + 1) vs) (next x a)) f s t e r d h)
