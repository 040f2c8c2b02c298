-- Elements that are joined, one after another.
use Rattle.std.proofs.Common.{◌≡◌, refl, sym, ap, ◌∙◌, ℕ, suc, ◌+◌, ◌-◌, ◌<◌, ◌≤◌, add-one, arith, List, Ok}
use Rattle.js_values.specs.declared.ids.ObjId.{ObjId}
use Rattle.js_values.specs.declared.value.Value.{Value}
use Rattle.js_values.specs.declared.value.Value.TheVariants.{Text}
use Rattle.page_meaning.specs.Act.{Calls, also, bind}
use Rattle.page_meaning.specs.ListRows.{join_from, join_one}
use Rattle.page_meaning.specs.Primitives.{take_step}
use Rattle.page_meaning.specs.Store.{Store}
use Rattle.page_state.specs.Turns.{Ends}
use Rattle.builtin_list.specs.Lists.{for_text}

pub join_is : (at : ObjId) (sep joined : Value) (k n : ℕ) → k < n → (calls : Calls)
    → join_from calls at sep joined k (n - k) ≡ bind take_step (λ _. also (join_one calls at sep joined k) (λ more. join_from calls at sep more (k + 1) (n - (k + 1))))
join_is at sep joined k n there calls =
    let more : n - k ≡ suc (n - (k + 1)) = omega (arith, there) in
    ap (join_from calls at sep joined k) more ∙ ap (λ j. bind take_step (λ _. also (join_one calls at sep joined k) (λ t. join_from calls at sep t j (n - (k + 1))))) (sym (add-one k))

pub join_ends : (at : ObjId) (sep : Value) (joined : List ℕ) (k n : ℕ) (s : Store) (i : ℕ) → n ≤ k → Ends (for_text joined) (λ calls. join_from calls at sep (Text joined) k (n - k)) s i s i (Ok tt)
join_ends at sep joined k n s i past = let none : n - k ≡ 0 = omega (arith, past) in rw none (record { is = λ c. refl })
