-- Units compared with bytes.
use Rattle.std.proofs.Common.{◌≡◌, ◌∙◌, ℕ, ◌<◌, List, length, get_or, bytes_eq, true, arith}
use Rattle.std.proofs.lemmas.List.{same_lists, get_or_default}
use Rattle.std.proofs.lemmas.Slice.Eq.{bytes_eq-Decides}

-- two lists are equal where they are as long and agree at each index
pub bytes_eq-each : (xs ys : List ℕ) → length xs ≡ length ys → ((k : ℕ) → k < length ys → get_or xs k 0 ≡ get_or ys k 0) → bytes_eq xs ys ≡ true
bytes_eq-each xs ys long each =
    (bytes_eq-Decides xs ys).1
    (same_lists xs ys long
    (λ k d h. let within : k < length ys = omega arith in get_or_default xs k d 0 h ∙ each k within ∙ get_or_default ys k 0 d within))
