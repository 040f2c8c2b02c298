-- What `check`, `instrument` and `replay` do.
use Rattle.std.specs.Prelude.{ℕ, List}
use Rattle.outcomes.specs.Seen.{Held}
use Rattle.outcomes.specs.Work.{Work, writing}
use Rattle.read_files.specs.Checking.{Tells}
use Rattle.read_files.specs.Opening.{OpensTo}
use Rattle.read_files.specs.Replay.{HeldBoth, Replays}
use Rattle.read_files.specs.Stages.{accepting, reading}

abbrev pub checking : List ℕ → Work
checking p = writing (accepting p) (λ seen text. Held seen p (λ bytes. Tells bytes text))

abbrev pub instrumenting : List ℕ → Work
instrumenting p = writing (accepting p) (λ seen text. Held seen p (λ bytes. OpensTo bytes text))

abbrev pub replaying : List ℕ → List ℕ → Work
replaying p e = writing (reading p e) (λ seen text. HeldBoth seen p e (λ page events. Replays page events text))
