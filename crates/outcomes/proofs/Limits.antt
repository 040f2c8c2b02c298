-- Numbers that are compared.
use Rattle.std.proofs.Common.{◌≡◌, ◌⊎◌, inl, inr, ℕ, ◌≤◌, ◌<◌, Bool, true, false, refl, arith}
use Rattle.std.specs.Prelude.{nat_lt}
use Rattle.std.proofs.lemmas.Bool.Decides.{nat_tests}

pub at_most_or_more : (a b : ℕ) → (a ≤ b) ⊎ (b < a)
at_most_or_more a b = by_case (nat_lt b a) refl
  where
    by_case : (t : Bool) → nat_lt b a ≡ t → (a ≤ b) ⊎ (b < a)
    by_case true e = inr (grind (arith, nat_tests))
    by_case false e = inl (grind (arith, nat_tests))
