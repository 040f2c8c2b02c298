-- A keeper over a database file, as contracts see it.
use Rattle.std.specs.Prelude.{ℕ, Result, Err}
use Rattle.page_io.specs.Faults.{counted}
use Rattle.page_io.specs.declared.keeper.KeeperFault.{KeeperFault}
use Rattle.page_io.specs.declared.keeper.KeeperFault.TheVariants.{Failed}

-- how many calls failed
pub record SqliteKeeperOf : Type 0 where
  pub faults : ℕ

-- the count after a call with this result
abbrev pub count_after : {T : Type 0} → ℕ → Result T KeeperFault → ℕ
count_after faults (Err Failed) = counted faults
count_after faults _ = faults
