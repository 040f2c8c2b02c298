-- How what is run ends, as an outcome of the meaning.
use Rattle.std.specs.Prelude.{ℕ}
use Rattle.page_machine.specs.declared.machine.End.{End}
use Rattle.page_machine.specs.declared.machine.End.TheVariants as end
use Rattle.page_meaning.specs.declared.signal.Signal.{Signal}
use Rattle.page_meaning.specs.Act.{Outcome, Ended, Stopped}
use Rattle.page_meaning.specs.Store.{Store}

abbrev pub outcome_of : End → Store → ℕ → Outcome Signal
outcome_of (end.Ended s) w n = Ended s w n
outcome_of end.Stopped w n = Stopped w
