-- What a keeper that tells no rows gives of any keeper.
use Rattle.std.proofs.Common.{ℕ, ◌≤◌, Result, Ok, Err, OnOk, OnErr, IfOk, arith, refl}
use Rattle.std.proofs.lemmas.Bool.Decides.{nat_tests}
use Rattle.page_io.specs.Faults.{counted, Rose, CountsFaults}
use Rattle.page_io.specs.declared.keeper.KeeperFault.{KeeperFault}
use Rattle.page_io.specs.declared.keeper.KeeperFault.TheVariants.{Failed, OutOfMemory}
use Rattle.shelf.specs.SqliteKeeperOf.{count_after}

-- ---- of rows that are not told nothing is said

pub untold_ok : {T E P : Type 0} (r : Result T E) → P → OnOk r P
untold_ok (Ok x) p = p
untold_ok (Err e) p = tt

pub untold_err : {T E P : Type 0} (r : Result T E) → P → OnErr r P
untold_err (Ok x) p = tt
untold_err (Err e) p = p

pub untold_if : {T E : Type 0} (r : Result T E) → IfOk r (λ x. Unit {0})
untold_if (Ok x) = tt
untold_if (Err e) = tt

-- ---- the count

counted_later : (n : ℕ) → n ≤ counted n
counted_later n = grind (arith, nat_tests)

counted_Rose : (n : ℕ) → Rose n (counted n)
counted_Rose n = grind (arith, nat_tests)

pub counts_calls : {T : Type 0} (faults : ℕ) (r : Result T KeeperFault) → CountsFaults Failed faults (count_after faults r) r
counts_calls faults (Ok x) = record { later = omega arith; rose = λ e. cc; stayed = λ h. refl }
counts_calls faults (Err Failed) = record { later = counted_later faults; rose = λ e. counted_Rose faults; stayed = λ h. cc }
counts_calls faults (Err OutOfMemory) = record { later = omega arith; rose = λ e. cc; stayed = λ h. cc }
