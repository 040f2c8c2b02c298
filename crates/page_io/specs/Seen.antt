-- What contracts see of files, of a sink and of a keeper: what they hold where that is told, and what failed.
use Rattle.std.specs.Prelude.{ℕ, List, Option}
use Rattle.page_io.specs.Content.{Told}
use Rattle.page_io.specs.Table.{Table}

-- what each name holds; how many reads failed, a u64 that stays at its last value; and the name of the last one that did
pub record FilesSeen : Type 0 where
  pub content : List ℕ → Told
  pub faults : ℕ
  pub failed : Option (List ℕ)

-- the bytes taken, where they are told, and how many puts failed, a u64 that stays at its last value
pub record SinkSeen : Type 0 where
  pub taken : Option (List ℕ)
  pub faults : ℕ

-- the rows, where they are told, and how many calls failed, a u64 that stays at its last value
pub record KeeperSeen : Type 0 where
  pub table : Option Table
  pub faults : ℕ
