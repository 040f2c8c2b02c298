-- The causes of a command's end exclude each other, and there is always one: by what is so of the stages of each command.
use Rattle.std.proofs.Common.{◌≡◌, ℕ, List, [], ◌∷◌, Option, Some, None, IfSome, refl, sym, ◌∙◌}
use Rattle.outcomes.specs.Lawful.{AreAsked, AreDecided, AreExclusive, nothing_before}
use Rattle.outcomes.specs.declared.status.Status.{Status}
use Rattle.outcomes.specs.declared.status.Status.TheVariants as status
use Rattle.outcomes.proofs.Callers.{causes_exclude, some_cause}
use Rattle.read_files.specs.Stages.{accepting, reading}
use Rattle.migrate.specs.Stage.{reading_to_move}
use Rattle.parking.specs.Stages.{all_rows, one_row}
use Rattle.parking.specs.Works.{parking_stages}
use Rattle.stress.specs.Stress.{IsPartCount}
use Rattle.stress.specs.Works.{halfway}
use Rattle.command_line.specs.Command.{Command, HasParts, check, instrument, replay, save, park, fetch, parked, drop_row, stress, command_of}
use Rattle.command_line.specs.Endings.{Ends, stages_of}
use Rattle.command_line.specs.Laws.{CausesExclude, SomeCause}
use Rattle.command_line.specs.Works.{work_of}
use Rattle.command_line.proofs.PartCounts.{few_commanded}

-- what the crates say of the stages of their commands
pub record AllExclusive : Type 0 where
  pub accepts : (p : List ℕ) → AreExclusive (accepting p)
  pub reads : (p e : List ℕ) → AreExclusive (reading p e)
  pub moves : (p e : List ℕ) → AreExclusive (reading_to_move p e)
  pub parks : (p e name : List ℕ) → AreExclusive (parking_stages p e name)
  pub one : (name : List ℕ) (version : ℕ) → AreExclusive (one_row name version ∷ [])
  pub all : AreExclusive (all_rows ∷ [])
  pub stresses : (n : ℕ) → AreExclusive (halfway n ∷ [])

pub record AllDecided : Type 0 where
  pub accepts : (p : List ℕ) → AreDecided nothing_before (accepting p)
  pub reads : (p e : List ℕ) → AreDecided nothing_before (reading p e)
  pub moves : (p e : List ℕ) → AreDecided nothing_before (reading_to_move p e)
  pub parks : (p e name : List ℕ) → AreDecided nothing_before (parking_stages p e name)
  pub one : (name : List ℕ) (version : ℕ) → AreDecided nothing_before (one_row name version ∷ [])
  pub all : AreDecided nothing_before (all_rows ∷ [])
  pub stresses : (n : ℕ) → IsPartCount n → AreDecided nothing_before (halfway n ∷ [])

-- ---- a line for each command

exclusive : AllExclusive → (command : Command) → AreExclusive (work_of command).stages
exclusive laws (check p) = laws.accepts p
exclusive laws (instrument p) = laws.accepts p
exclusive laws (replay p e) = laws.reads p e
exclusive laws (save p e) = laws.moves p e
exclusive laws (park p e name) = laws.parks p e name
exclusive laws (fetch name version) = laws.one name version
exclusive laws parked = laws.all
exclusive laws (drop_row name version) = laws.one name version
exclusive laws (stress n) = laws.stresses n

decided : AllDecided → (command : Command) → HasParts command → AreDecided nothing_before (work_of command).stages
decided laws (check p) parts = laws.accepts p
decided laws (instrument p) parts = laws.accepts p
decided laws (replay p e) parts = laws.reads p e
decided laws (save p e) parts = laws.moves p e
decided laws (park p e name) parts = laws.parks p e name
decided laws (fetch name version) parts = laws.one name version
decided laws parked parts = laws.all
decided laws (drop_row name version) parts = laws.one name version
decided laws (stress n) parts = laws.stresses n parts

-- ---- of all words

pub all_exclude : AllExclusive → CausesExclude
all_exclude laws None s t seen out out_now quiet puts n m h k = h ∙ sym k
all_exclude laws (Some command) s t seen out out_now quiet puts n m h k =
    causes_exclude seen out out_now puts (work_of command).stages s t (exclusive laws command) quiet n m h k

pub some_causes : AllDecided → SomeCause
some_causes laws words seen out out_now = by (command_of words) (few_commanded words)
  where
    by : (asked : Option Command) → IfSome asked HasParts → AreAsked (stages_of asked) seen
        → ((s : Status) → ¬ (s ≡ status.OutOfMemory) → ¬ Ends asked s seen out out_now) → ⊥
    by None parts asked never = never status.Usage (λ e. cc) refl
    by (Some command) parts asked never = some_cause seen out out_now nothing_before (work_of command).stages tt (decided laws command parts) asked never
