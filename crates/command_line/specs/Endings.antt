-- How the program ends, what it puts, and what becomes of the rows, by what the words ask for.
use Rattle.std.specs.Prelude.{◌≡◌, List, [], Option, Some, None}
use Rattle.page_io.specs.Seen.{SinkSeen}
use Rattle.outcomes.specs.Seen.{Seen, KeepsRows}
use Rattle.outcomes.specs.Stages.{Stage, EndsBy}
use Rattle.outcomes.specs.Work.{Leaves, PutsNothing, PutsText}
use Rattle.outcomes.specs.declared.status.Status.{Status}
use Rattle.outcomes.specs.declared.status.Status.TheVariants.{Usage}
use Rattle.command_line.specs.Command.{Command}
use Rattle.command_line.specs.Works.{work_of}

-- the stages of the work; words that are no command line have none
abbrev pub stages_of : Option Command → List Stage
stages_of None = []
stages_of (Some command) = (work_of command).stages

-- words that are no command line end with `Usage`, and a command as its work does
abbrev pub Ends : Option Command → Status → Seen → SinkSeen → SinkSeen → Type 0
Ends None status seen out out_now = status ≡ Usage
Ends (Some command) status seen out out_now = EndsBy (work_of command).stages status seen out out_now

-- nothing is put where the words are no command line
abbrev pub Puts : Option Command → Status → Seen → SinkSeen → SinkSeen → Type 0
Puts None status seen out out_now = PutsNothing out out_now
Puts (Some command) status seen out out_now = PutsText (work_of command) status seen out out_now

abbrev pub Rows : Option Command → Status → Seen → Type 0
Rows None status seen = KeepsRows seen
Rows (Some command) status seen = Leaves (work_of command) status seen
