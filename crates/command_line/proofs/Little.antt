-- A page that is little enough is saved, and parked.
use Rattle.std.proofs.Common.{◌≡◌, ℕ, ◌≤◌, length, List, Some, None, refl, sym, ◌∙◌, inl, inr}
use Rattle.std.specs.Prelude.{◌⊎◌}
use Rattle.page_io.specs.Faults.{Rose}
use Rattle.page_io.specs.Seen.{SinkSeen}
use Rattle.page_io.specs.Content.{Told}
use Rattle.outcomes.specs.Lawful.{AreExclusive, AreQuiet, IsQuietAt}
use Rattle.outcomes.specs.Seen.{Seen, Held}
use Rattle.outcomes.specs.Stages.{EndsBy, PassesAll, Stage}
use Rattle.outcomes.specs.declared.status.Status.{Status}
use Rattle.outcomes.specs.declared.status.Status.TheVariants.{Ok, OutOfMemory}
use Rattle.outcomes.proofs.Callers.{ends_well, of_held, of_table}
use Rattle.js_values.specs.declared.event.Event.{Event}
use Rattle.read_files.specs.Page.{Page, IsAccepted, page_limit}
use Rattle.read_files.specs.Replay.{AreBoth, IsEventFile}
use Rattle.read_files.specs.Stages.{acceptance, event_file, page_file}
use Rattle.migrate.specs.Saving.{IsMovable}
use Rattle.migrate.specs.Stage.{moving, reading_to_move}
use Rattle.parking.specs.Rows.{AreUsed}
use Rattle.parking.specs.Stages.{next_row}
use Rattle.parking.specs.Works.{parking_stages}
use Rattle.command_line.specs.Laws.{CanBeMoved, LittlePagesAreParked, LittlePagesAreSaved}

-- a command of which nothing failed, and whose stages are all passed
well_or_memory : (gs : List Stage) (status : Status) (seen : Seen) (out out_now : SinkSeen) → AreExclusive gs → AreQuiet gs seen → ¬ Rose out.faults out_now.faults
    → PassesAll gs seen → EndsBy gs status seen out out_now → (status ≡ Ok) ⊎ (status ≡ OutOfMemory)
well_or_memory gs OutOfMemory seen out out_now x q puts p h = inr refl
well_or_memory gs status seen out out_now x q puts p h = inl (ends_well seen out out_now puts gs status x q (λ e. cc) p h)

is_told : (told : Told) (bytes : List ℕ) → told ≡ Some (Some bytes) → ¬ (told ≡ None)
is_told told bytes e n = let same : Some (Some bytes) ≡ None = sym e ∙ n in cc

module _ (p e : List ℕ) (seen : Seen) (can : CanBeMoved p e seen) where
  told_page : ¬ (seen.files_before.content p ≡ None)
  told_page = is_told _ can.bytes can.held

  told_events : ¬ (seen.files_before.content e ≡ None)
  told_events = is_told _ can.file can.holds

  quiet_page : IsQuietAt (page_file p) seen
  quiet_page = record { told = (told_page, tt); reads = λ some. can.reads; rows = λ e. cc; calls = λ e. cc }

  quiet_acceptance : IsQuietAt (acceptance p) seen
  quiet_acceptance = record { told = (told_page, tt); reads = λ some. can.reads; rows = λ e. cc; calls = λ e. cc }

  quiet_events : IsQuietAt (event_file e) seen
  quiet_events = record { told = (told_events, tt); reads = λ some. can.reads; rows = λ e. cc; calls = λ e. cc }

  quiet_moving : IsQuietAt (moving p e) seen
  quiet_moving = record { told = (told_page, (told_events, tt)); reads = λ some. can.reads; rows = λ e. cc; calls = λ e. cc }

  passes_page : (page_file p).passes seen
  passes_page = of_held _ can.bytes (λ bytes. length bytes ≤ page_limit) can.held can.of_page.fits

  passes_acceptance : (acceptance p).passes seen
  passes_acceptance = of_held _ can.bytes (λ bytes. (page : Page) × IsAccepted bytes page) can.held (can.page, can.of_page.accepted)

  passes_events : (event_file e).passes seen
  passes_events = of_held _ can.file (λ file. (events : List Event) × IsEventFile file events) can.holds (can.events, can.of_file)

  passes_moving : (moving p e).passes seen
  passes_moving = of_held _ can.bytes (λ bytes. Held seen e (λ file. AreBoth bytes file IsMovable)) can.held
      (of_held _ can.file (λ file. AreBoth can.bytes file IsMovable) can.holds
      (record { page = can.page; events = can.events; of_page = can.of_page; of_file = can.of_file; holds = can.little }))

pub little_are_saved : ((p e : List ℕ) → AreExclusive (reading_to_move p e)) → LittlePagesAreSaved
little_are_saved exclusive p e status seen out out_now can puts h =
    well_or_memory (reading_to_move p e) status seen out out_now (exclusive p e)
    (quiet_page p e seen can, (quiet_acceptance p e seen can, (quiet_events p e seen can, (quiet_moving p e seen can, tt)))) puts
    (passes_page p e seen can, (passes_acceptance p e seen can, (passes_events p e seen can, (passes_moving p e seen can, tt)))) h

pub little_are_parked : ((p e name : List ℕ) → AreExclusive (parking_stages p e name)) → LittlePagesAreParked
little_are_parked exclusive p e name status seen out out_now t can puts rows left calls h =
    well_or_memory (parking_stages p e name) status seen out out_now (exclusive p e name)
    (quiet_page p e seen can, (quiet_acceptance p e seen can, (quiet_events p e seen can, (quiet_moving p e seen can, (quiet_next, tt))))) puts
    (passes_page p e seen can, (passes_acceptance p e seen can, (passes_events p e seen can, (passes_moving p e seen can, (passes_next, tt))))) h
  where
    rows_told : ¬ (seen.keeper_before.table ≡ None)
    rows_told n = let same : Some t ≡ None = sym rows ∙ n in cc

    quiet_next : IsQuietAt (next_row name) seen
    quiet_next = record { told = tt; reads = λ some. absurd (some refl); rows = λ e. rows_told; calls = λ e. calls }

    passes_next : (next_row name).passes seen
    passes_next = of_table _ t (λ u. ¬ AreUsed name u) rows left
