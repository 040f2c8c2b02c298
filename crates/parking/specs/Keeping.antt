-- What keeping a row under the next version of a name answers.
use Rattle.std.specs.Prelude.{◌≡◌, ℕ, ◌≤◌, List, IfSome, Result, Ok as Good, Err, Vec, codes}
use Rattle.std.specs.Global.{Global}
use Rattle.std.specs.FinMap.{insert}
use Rattle.std.specs.Option.{option_map}
use Rattle.page_io.specs.Seen.{KeeperSeen}
use Rattle.page_io.specs.Table.{Table}
use Rattle.page_io.specs.declared.keeper.KeeperFault.{KeeperFault as Fault}
use Rattle.page_io.specs.declared.keeper.KeeperFault.TheVariants as fault
use Rattle.parking.specs.Rows.{AreUsed, next_version, row_line}
use Rattle.parking.specs.Stages.{StopsAtNextRow}
use Rattle.outcomes.specs.declared.status.Status.{Status}
use Rattle.outcomes.specs.declared.status.Status.TheVariants.{KeeperFault, OutOfMemory}

-- how a fault of the keeper ends a command
abbrev pub status_of_fault : Fault → Status
status_of_fault fault.Failed = KeeperFault
status_of_fault fault.OutOfMemory = OutOfMemory

-- the version is the next one of the name, and one is left
abbrev pub IsNextOf : List ℕ → ℕ → Table → Type 0
IsNextOf name version t = (version ≡ next_version name t) × ¬ AreUsed name t

-- the rows stay, and the count does not fall
abbrev pub StaysAsKept : KeeperSeen → KeeperSeen → Type 0
StaysAsKept before now = (now.table ≡ before.table) × (before.faults ≤ now.faults)

-- why no row is kept: what ends the stage, or want of memory
abbrev pub IsUnkept : List ℕ → Status → KeeperSeen → KeeperSeen → Type 0
IsUnkept name OutOfMemory before now = Unit {0}
IsUnkept name status before now = StopsAtNextRow name status before now

-- the next version of a name, or why there is none
abbrev pub IsNext : List ℕ → KeeperSeen → KeeperSeen → Result ℕ Status → Type 0
IsNext name before now (Good version) = StaysAsKept before now × IfSome before.table (IsNextOf name version)
IsNext name before now (Err status) = StaysAsKept before now × IsUnkept name status before now

-- these bytes are one row more, under the next version of the name, which the line says
pub record IsOneMore (name bytes line : List ℕ) (before now : KeeperSeen) : Type 0 where
  pub version : ℕ
  pub next : IfSome before.table (IsNextOf name version)
  pub said : line ≡ row_line (codes "parked ") name version
  pub rows : now.table ≡ option_map (λ t. insert t (name, version) bytes) before.table
  pub later : before.faults ≤ now.faults

-- so it is, or the rows stay
abbrev pub IsKept : List ℕ → List ℕ → KeeperSeen → KeeperSeen → Result (Vec ℕ Global) Status → Type 0
IsKept name bytes before now (Good line) = IsOneMore name bytes line.items before now
IsKept name bytes before now (Err status) = StaysAsKept before now × IsUnkept name status before now
