-- What is left of a list.
use Rattle.std.proofs.Common.{◌≡◌, ◌∙◌, sym, ap, ◌-◌, ◌≤◌, arith, drop, take, get_or, length, List, [], ◌∷◌}
use Rattle.std.proofs.Math.Seq.{take-length}

-- the next one of a list, and what is left of it
pub next_of : {X : Type 0} (xs : List X) (x : X) → 1 ≤ length xs → x ≡ get_or xs 0 x → xs ≡ x ∷ take (length xs - 1) (drop 1 xs)
next_of [] x some is = absurd (omega arith)
next_of (y ∷ ys) x some is =
    let long : length ys ≡ length (y ∷ ys) - 1 = omega arith in
    ap (λ z. z ∷ ys) (sym is) ∙ ap (λ zs. x ∷ zs) (sym (take-length ys) ∙ ap (λ n. take n ys) long)
