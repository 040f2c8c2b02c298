-- What each command does.
use Rattle.std.specs.Prelude.{ℕ, List}
use Rattle.outcomes.specs.Seen.{KeepsRows}
use Rattle.outcomes.specs.Work.{Work}
use Rattle.read_files.specs.Replay.{HeldBoth}
use Rattle.read_files.specs.Works.{checking, instrumenting, replaying}
use Rattle.migrate.specs.Saving.{Begins, Saves}
use Rattle.migrate.specs.Stage.{reading_to_move}
use Rattle.parking.specs.Works.{dropping, fetching, listing, parking}
use Rattle.stress.specs.Works.{stressing}
use Rattle.command_line.specs.Command.{Command, check, instrument, replay, save, park, fetch, parked, drop_row, stress}

-- the page that is saved after the events is put piece by piece, so that memory may run out after a front of it
abbrev pub saving : List ℕ → List ℕ → Work
saving p e = record {
  stages = reading_to_move p e;
  text = λ seen text. HeldBoth seen p e (λ page events. Saves page events text);
  begins = λ seen begun. HeldBoth seen p e (λ page events. Begins page events begun);
  changes = KeepsRows;
  stopped = KeepsRows;
}

-- every accepted page is run, and saved where that is little enough
abbrev pub work_of : Command → Work
work_of (check p) = checking p
work_of (instrument p) = instrumenting p
work_of (replay p e) = replaying p e
work_of (save p e) = saving p e
work_of (park p e name) = parking p e name
work_of (fetch name version) = fetching name version
work_of parked = listing
work_of (drop_row name version) = dropping name version
work_of (stress n) = stressing n
