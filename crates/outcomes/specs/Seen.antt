-- What is seen of the outside, and what is told of the bytes that names hold.
use Rattle.std.specs.Prelude.{◌≡◌, ℕ, ◌≤◌, List, Some, None}
use Rattle.page_io.specs.Content.{Told}
use Rattle.page_io.specs.Faults.{Rose}
use Rattle.page_io.specs.Seen.{FilesSeen, KeeperSeen, SinkSeen}

-- files and keeper, before a command and now
pub record Seen : Type 0 where
  pub files_before : FilesSeen
  pub files_now : FilesSeen
  pub keeper_before : KeeperSeen
  pub keeper_now : KeeperSeen

abbrev pub seen_between : FilesSeen → FilesSeen → KeeperSeen → KeeperSeen → Seen
seen_between files files_now keeper keeper_now = record {
  files_before = files;
  files_now = files_now;
  keeper_before = keeper;
  keeper_now = keeper_now;
}

-- of the bytes that a name holds, where that is told; a name that is told to hold nothing has none
abbrev pub Of : Told → (List ℕ → Type 0) → Type 0
Of None P = Unit {0}
Of (Some None) P = ⊥
Of (Some (Some content)) P = P content

-- of the bytes that a name held before
abbrev pub Held : Seen → List ℕ → (List ℕ → Type 0) → Type 0
Held seen name P = Of (seen.files_before.content name) P

-- a read failed in this call, and the last one that failed was of this name
pub record ReadFailed (name : List ℕ) (before now : FilesSeen) : Type 0 where
  pub rose : Rose before.faults now.faults
  pub named : now.failed ≡ Some name

-- the rows are as before, where they are told
abbrev pub KeepsRows : Seen → Type 0
KeepsRows seen = seen.keeper_now.table ≡ seen.keeper_before.table

-- what every command leaves as it was: what the files hold; and no count of faults falls
pub record Lasts (seen : Seen) (out out_now : SinkSeen) : Type 0 where
  pub content : (name : List ℕ) → seen.files_now.content name ≡ seen.files_before.content name
  pub reads : seen.files_before.faults ≤ seen.files_now.faults
  pub calls : seen.keeper_before.faults ≤ seen.keeper_now.faults
  pub puts : out.faults ≤ out_now.faults

-- the same of the files alone
pub record FilesLast (before now : FilesSeen) : Type 0 where
  pub content : (name : List ℕ) → now.content name ≡ before.content name
  pub reads : before.faults ≤ now.faults
