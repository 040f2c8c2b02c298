-- What a command does: its stages, its text, and what becomes of the rows that are kept; and when it answered so.
use Rattle.std.specs.Prelude.{◌≡◌, ℕ, ◌⊎◌, List, Result, Ok as Good, Err, Vec}
use Rattle.std.specs.Global.{Global}
use Rattle.page_io.specs.Seen.{FilesSeen, KeeperSeen, SinkSeen}
use Rattle.page_io.specs.Taken.{Takes, TakesFront}
use Rattle.outcomes.specs.Seen.{Seen, seen_between, KeepsRows, Lasts}
use Rattle.outcomes.specs.Stages.{Stage, EndsAt, EndsBy, PassesAll, StopsWriting}
use Rattle.outcomes.specs.declared.status.Status.{Status}
use Rattle.outcomes.specs.declared.status.Status.TheVariants.{Ok, WriteFault, OutOfMemory}

pub record Work : Type 1 where
  -- what it does in turn, before it writes its text
  pub stages : List Stage
  -- the text that it writes, for what its files hold and which rows are kept
  pub text : Seen → List ℕ → Type 0
  -- a text of which a front may be put before memory runs out
  pub begins : Seen → List ℕ → Type 0
  -- what it makes of the rows where it has done its work, and where it has not
  pub changes : Seen → Type 0
  pub stopped : Seen → Type 0

-- a command that only writes a text, which it has before it puts any of it
abbrev pub writing : List Stage → (Seen → List ℕ → Type 0) → Work
writing stages text = record {
  stages = stages;
  text = text;
  begins = λ seen begun. ⊥;
  changes = KeepsRows;
  stopped = KeepsRows;
}

-- ---- the output

abbrev pub PutsNothing : SinkSeen → SinkSeen → Type 0
PutsNothing out out_now = out_now.taken ≡ out.taken

-- what is put to the output: the whole text, a front of it after a fault of the output, and else nothing
abbrev pub PutsText : Work → Status → Seen → SinkSeen → SinkSeen → Type 0
PutsText work Ok seen out out_now = (text : List ℕ) × work.text seen text × Takes out.taken out_now.taken text
PutsText work WriteFault seen out out_now = (text : List ℕ) × work.text seen text × TakesFront out.taken out_now.taken text
-- a text that is put piece by piece may have been begun before memory ran out
PutsText work OutOfMemory seen out out_now =
    PutsNothing out out_now ⊎ ((text : List ℕ) × work.begins seen text × TakesFront out.taken out_now.taken text)
PutsText work status seen out out_now = PutsNothing out out_now

-- ---- the rows

-- what becomes of the rows: what was done stays done after a fault of the output
abbrev pub Leaves : Work → Status → Seen → Type 0
Leaves work Ok seen = work.changes seen
Leaves work WriteFault seen = work.changes seen
Leaves work status seen = work.stopped seen

-- ---- a command that makes its text before it writes it

-- it has passed its stages and has its text, or was ended at one of them
abbrev pub Gives : Work → Result (Vec ℕ Global) Status → Seen → Type 0
Gives work (Good text) seen = PassesAll work.stages seen × work.text seen text.items × work.changes seen
Gives work (Err status) seen = EndsAt work.stages status seen × work.stopped seen

-- the same of a command that is handed files alone, a keeper alone, and neither
abbrev pub GivesOfFiles : Work → Result (Vec ℕ Global) Status → FilesSeen → FilesSeen → Type 0
GivesOfFiles work result before now = (keeper : KeeperSeen) → Gives work result (seen_between before now keeper keeper)

abbrev pub GivesOfRows : Work → Result (Vec ℕ Global) Status → KeeperSeen → KeeperSeen → Type 0
GivesOfRows work result before now = (files : FilesSeen) → Gives work result (seen_between files files before now)

abbrev pub GivesAlone : Work → Result (Vec ℕ Global) Status → Type 0
GivesAlone work result = (files : FilesSeen) (keeper : KeeperSeen) → Gives work result (seen_between files files keeper keeper)

-- what became of a text that was put, or of the status that came in its place
abbrev pub IsPut : Result (Vec ℕ Global) Status → Status → SinkSeen → SinkSeen → Type 0
IsPut (Good text) Ok before now = Takes before.taken now.taken text.items
IsPut (Good text) WriteFault before now = TakesFront before.taken now.taken text.items × StopsWriting WriteFault before now
IsPut (Good text) status before now = ⊥
IsPut (Err cause) status before now = (status ≡ cause) × (now ≡ before)

-- ---- how a command ends

-- it ends with a cause, puts its text as that says, and leaves the rows so
pub record Answers (work : Work) (status : Status) (seen : Seen) (out out_now : SinkSeen) : Type 0 where
  pub ends : EndsBy work.stages status seen out out_now
  pub puts : PutsText work status seen out out_now
  pub rows : Leaves work status seen
  pub lasts : Lasts seen out out_now
