-- That the causes exclude each other, and that there is always one; and which pages are saved.
use Rattle.std.specs.Prelude.{◌≡◌, ℕ, ◌⊎◌, List, Option, Some}
use Rattle.js_values.specs.declared.event.Event.{Event}
use Rattle.page_io.specs.Faults.{Rose}
use Rattle.page_io.specs.Seen.{SinkSeen}
use Rattle.page_io.specs.Table.{Table}
use Rattle.outcomes.specs.Lawful.{AreAsked, AreQuiet}
use Rattle.outcomes.specs.Seen.{Seen}
use Rattle.outcomes.specs.declared.status.Status.{Status}
use Rattle.outcomes.specs.declared.status.Status.TheVariants.{Ok, OutOfMemory}
use Rattle.read_files.specs.Page.{Page, IsPage}
use Rattle.read_files.specs.Replay.{IsEventFile}
use Rattle.migrate.specs.Saving.{IsMovable}
use Rattle.parking.specs.Rows.{AreUsed}
use Rattle.command_line.specs.Command.{Command, command_of, park, save}
use Rattle.command_line.specs.Endings.{Ends, stages_of}

-- where what the command asks for is told, and nothing of it failed, nor the output, two statuses that are not want of memory have no cause at once
abbrev pub CausesExclude : Type 0
CausesExclude =
    (command : Option Command) (status other : Status) (seen : Seen) (out out_now : SinkSeen) → AreQuiet (stages_of command) seen → ¬ Rose out.faults out_now.faults
    → ¬ (status ≡ OutOfMemory) → ¬ (other ≡ OutOfMemory) → Ends command status seen out out_now → Ends command other seen out out_now → status ≡ other

-- where each file of the command that the words are is told to hold bytes or a read of it failed, and the rows are told if it asks for them, some
-- status that is not want of memory has its cause
abbrev pub SomeCause : Type 0
SomeCause =
    (words : List (List ℕ)) (seen : Seen) (out out_now : SinkSeen) → AreAsked (stages_of (command_of words)) seen
    → ((status : Status) → ¬ (status ≡ OutOfMemory) → ¬ Ends (command_of words) status seen out out_now) → ⊥

-- ---- which pages are saved

-- both files are told, and within their limits; the page is accepted, the events are read, the page is little enough after them, and no read failed
pub record CanBeMoved (p e : List ℕ) (seen : Seen) : Type 0 where
  pub bytes : List ℕ
  pub file : List ℕ
  pub held : seen.files_before.content p ≡ Some (Some bytes)
  pub holds : seen.files_before.content e ≡ Some (Some file)
  pub page : Page
  pub events : List Event
  pub of_page : IsPage bytes page
  pub of_file : IsEventFile file events
  pub little : IsMovable page events
  pub reads : ¬ Rose seen.files_before.faults seen.files_now.faults

-- then, if no put failed either, `save` answers `Ok` or want of memory
abbrev pub LittlePagesAreSaved : Type 0
LittlePagesAreSaved =
    (p e : List ℕ) (status : Status) (seen : Seen) (out out_now : SinkSeen) → CanBeMoved p e seen → ¬ Rose out.faults out_now.faults
    → Ends (Some (save p e)) status seen out out_now → (status ≡ Ok) ⊎ (status ≡ OutOfMemory)

-- and so does `park`, if the rows are told, a version is left, and no call failed
abbrev pub LittlePagesAreParked : Type 0
LittlePagesAreParked =
    (p e name : List ℕ) (status : Status) (seen : Seen) (out out_now : SinkSeen) (t : Table) → CanBeMoved p e seen → ¬ Rose out.faults out_now.faults
    → seen.keeper_before.table ≡ Some t → ¬ AreUsed name t → ¬ Rose seen.keeper_before.faults seen.keeper_now.faults
    → Ends (Some (park p e name)) status seen out out_now → (status ≡ Ok) ⊎ (status ≡ OutOfMemory)
