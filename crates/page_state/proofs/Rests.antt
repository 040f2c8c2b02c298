-- What is left of a list behind its first item.
use Rattle.std.proofs.Common.{◌≡◌, refl, sym, ap, ◌∙◌, ◌<◌, ◌≤◌, ◌-◌, List, [], ◌∷◌, length, get_or, take, drop, arith}
use Rattle.std.proofs.lemmas.List.{take_rest}

pub split : {A : Type 0} (xs : List A) (x : A) → 1 ≤ length xs → x ≡ get_or xs 0 x → xs ≡ x ∷ take (length xs - 1) (drop 1 xs)
split [] x h e = absurd (omega arith)
split (y ∷ ys) x h e = ap (λ z. z ∷ ys) (sym e) ∙ ap (λ r. x ∷ r) (sym (take_rest (y ∷ ys) 1))

-- nothing is left
pub none_left : {A : Type 0} (xs : List A) → length xs < 1 → xs ≡ []
none_left [] h = refl
none_left (x ∷ xs) h = absurd (omega arith)
