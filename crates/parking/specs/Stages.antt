-- The stages of commands that ask the keeper.
use Rattle.std.specs.Prelude.{◌≡◌, ℕ, true, List, [], Some, None, IfSome}
use Rattle.std.specs.FinMap.{get}
use Rattle.page_io.specs.Faults.{Rose}
use Rattle.page_io.specs.Seen.{KeeperSeen}
use Rattle.outcomes.specs.Stages.{Stage}
use Rattle.outcomes.specs.declared.status.Status.{Status}
use Rattle.outcomes.specs.declared.status.Status.TheVariants.{KeeperFault, NoSession, VersionsUsed}
use Rattle.parking.specs.Rows.{AreUsed}

-- ---- what ends a command at a stage, and how; no status has another cause

abbrev pub StopsAtNextRow : List ℕ → Status → KeeperSeen → KeeperSeen → Type 0
StopsAtNextRow name KeeperFault before now = Rose before.faults now.faults
StopsAtNextRow name VersionsUsed before now = IfSome before.table (AreUsed name)
StopsAtNextRow name status before now = ⊥

abbrev pub StopsAtOneRow : List ℕ → ℕ → Status → KeeperSeen → KeeperSeen → Type 0
StopsAtOneRow name version KeeperFault before now = Rose before.faults now.faults
StopsAtOneRow name version NoSession before now = IfSome before.table (λ t. get t (name, version) ≡ None)
StopsAtOneRow name version status before now = ⊥

abbrev pub StopsAtAllRows : Status → KeeperSeen → KeeperSeen → Type 0
StopsAtAllRows KeeperFault before now = Rose before.faults now.faults
StopsAtAllRows status before now = ⊥

-- ---- the stages

-- it keeps a row under the next version of this name
abbrev pub next_row : List ℕ → Stage
next_row name = record {
  files = [];
  asks = true;
  stops = λ status seen. StopsAtNextRow name status seen.keeper_before seen.keeper_now;
  passes = λ seen. IfSome seen.keeper_before.table (λ t. ¬ AreUsed name t);
}

-- it takes the row of this name and version
abbrev pub one_row : List ℕ → ℕ → Stage
one_row name version = record {
  files = [];
  asks = true;
  stops = λ status seen. StopsAtOneRow name version status seen.keeper_before seen.keeper_now;
  passes = λ seen. IfSome seen.keeper_before.table (λ t. (bytes : List ℕ) × (get t (name, version) ≡ Some bytes));
}

-- it takes the names of all rows
abbrev pub all_rows : Stage
all_rows = record {
  files = [];
  asks = true;
  stops = λ status seen. StopsAtAllRows status seen.keeper_before seen.keeper_now;
  passes = λ seen. Unit {0};
}
