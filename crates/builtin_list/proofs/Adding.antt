-- Arrays and values that are added to an array, one after another.
use Rattle.std.proofs.Common.{◌≡◌, sym, ap, ◌∙◌, ℕ, ◌+◌, ◌<◌, List, ◌∷◌, length, drop, get_or, Option, Result, Ok}
use Rattle.std.proofs.lemmas.List.{drop_more}
use Rattle.std.specs.Result.{IsErr, IsErrAnd}
use Rattle.js_values.specs.declared.ids.ObjId.{ObjId}
use Rattle.js_values.specs.declared.value.Value.{Value}
use Rattle.js_values.specs.declared.value.Value.TheVariants.{Undefined}
use Rattle.page_meaning.specs.Act.{also}
use Rattle.page_meaning.specs.ListRows.{add_item, concat_from, past_item, spread_of}
use Rattle.page_meaning.specs.Store.{Store}
use Rattle.page_state.specs.declared.turns.Halt.{Halt}
use Rattle.page_state.specs.Does.{no_value}
use Rattle.page_state.specs.Turns.{Ends, Halts}
use Rattle.page_state.proofs.Callers.{also_ends, asked_ends}
use Rattle.builtin_list.proofs.Passed.{halted}

module _ {B : Type 0} (a : ObjId) (f : B → Value) (n : ℕ) (v : Value) (vs : List Value) (p : Option (ObjId × ℕ)) (s : Store) (spread : p ≡ spread_of v s) where
  -- the first was added, and so are the others
  pub item_on : (t u : Store) (i h j : ℕ) (r : Result B Halt) → Ends no_value (λ _. add_item a n v p) s i t h (Ok tt)
      → Ends f (λ _. concat_from a (past_item n p) vs) t h u j r → Ends f (λ _. concat_from a n (v ∷ vs)) s i u j r
  item_on t u i h j r d e =
      asked_ends (spread_of v) (λ _ q. also (add_item a n v q) (λ _. concat_from a (past_item n q) vs)) f s u i j r
      (rw (← spread) (also_ends (λ _. add_item a n v p) (λ _ _. concat_from a (past_item n p) vs) f Undefined s t u i h j r d e))

  -- the first was not
  pub item_halts : (t : Store) (i j : ℕ) (e : Halt) (r : Result B Halt) → Halts (λ _. add_item a n v p) s i t j e
      → IsErr r × IsErrAnd r (λ d. d ≡ e) → Ends f (λ _. concat_from a n (v ∷ vs)) s i t j r
  item_halts t i j e r d h =
      asked_ends (spread_of v) (λ _ q. also (add_item a n v q) (λ _. concat_from a (past_item n q) vs)) f s t i j r
      (rw (← spread) (halted (λ _. add_item a n v p) (λ _ _. concat_from a (past_item n p) vs) f s t i j e r d h))

-- what is left of a list, by its first
pub next_is : (vs : List Value) (k : ℕ) (v : Value) → k < length vs → v ≡ get_or vs k v → drop k vs ≡ v ∷ drop (k + 1) vs
next_is vs k v there is = drop_more vs k v there ∙ ap (λ w. w ∷ drop (k + 1) vs) (sym is)
