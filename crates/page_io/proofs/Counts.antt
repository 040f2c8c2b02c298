-- What the counts of the forms in memory give of faults.
use Rattle.std.proofs.Common.{◌≡◌, ℕ, ◌≤◌, Result, Err, arith, refl}
use Rattle.std.proofs.lemmas.Bool.Decides.{nat_tests}
use Rattle.page_io.specs.Faults.{counted, Rose, CountsFaults}

pub counted_later : (n : ℕ) → n ≤ counted n
counted_later n = grind (arith, nat_tests)

pub counted_Rose : (n : ℕ) → Rose n (counted n)
counted_Rose n = grind (arith, nat_tests)

-- a failure that is counted
pub counts_failure : {T E : Type 0} (failed : E) (n : ℕ) → CountsFaults {T = T} failed n (counted n) (Err failed)
counts_failure failed n = record { later = counted_later n; rose = λ e. counted_Rose n; stayed = λ h. cc }

-- an answer that is no failure, and leaves the count
pub counts_other : {T E : Type 0} (failed : E) (n : ℕ) (result : Result T E) → (result ≡ Err failed → ⊥) → CountsFaults failed n n result
counts_other failed n result other = record { later = omega arith; rose = λ e. absurd (other e); stayed = λ h. refl }
