-- What is left of a list from a place on.
use Rattle.std.proofs.Common.{◌≡◌, ◌∙◌, refl, sym, ap, ℕ, zero, suc, ◌+◌, ◌<◌, arith, drop, get_or, length, List, [], ◌∷◌, Some, None}
use Rattle.std.specs.Prelude.{slice_get}
use Rattle.std.proofs.Math.Seq.{drop-cons}
use Rattle.std.proofs.lemmas.Option.{get_or_from_slice_get, slice_get_within}

pub from_place : {X : Type 0} (xs : List X) (k : ℕ) (x : X) → slice_get xs k ≡ Some x → drop k xs ≡ x ∷ drop (k + 1) xs
from_place xs k x found =
    let next : suc k ≡ k + 1 = omega arith in
    drop-cons xs k x (slice_get_within xs k x found) ∙ ap (λ y. y ∷ drop (suc k) xs) (get_or_from_slice_get xs k x x found) ∙ ap (λ n. x ∷ drop n xs) next

pub past_places : {X : Type 0} (xs : List X) (k : ℕ) → slice_get xs k ≡ None → drop k xs ≡ []
past_places [] zero none = refl
past_places [] (suc k) none = refl
past_places (y ∷ ys) zero none = cc none
past_places (y ∷ ys) (suc k) none = past_places ys k none

pub same_place : {X : Type 0} (xs : List X) (k : ℕ) (d e : X) → k < length xs → get_or xs k d ≡ get_or xs k e
same_place [] k d e h = absurd (omega arith)
same_place (x ∷ xs) zero d e h = refl
same_place (x ∷ xs) (suc k) d e h = same_place xs k d e (omega (arith, h))

-- what is left from a place on, where the one there is read from an equal list
pub place_of_equal : {X : Type 0} (xs ys : List X) (k : ℕ) (d : X) → ys ≡ xs → k < length xs → drop k xs ≡ get_or ys k d ∷ drop (k + 1) xs
place_of_equal xs ys k d same inside =
    let next : suc k ≡ k + 1 = omega arith in
    drop-cons xs k d inside ∙ ap (λ n. get_or xs k d ∷ drop n xs) next ∙ ap (λ l. get_or l k d ∷ drop (k + 1) xs) (sym same)
