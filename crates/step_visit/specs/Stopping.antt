-- What stops where no step is left for a turn.
use Rattle.std.specs.Prelude.{◌≡◌, Result, Ok, Err}
use Rattle.js_core.specs.declared.memory.OutOfMemory.{OutOfMemory}
use Rattle.page_frames.specs.declared.meter.Next.{Next}
use Rattle.page_frames.specs.declared.meter.Next.TheVariants.{Stopped as Halted}
use Rattle.page_state.specs.declared.turns.Halt.{Halt}
use Rattle.page_state.specs.declared.turns.Halt.TheVariants as halt

-- the task stops; nothing is said where memory ran out
abbrev pub Stops : Halt → Result Next OutOfMemory → Type 0
Stops halt.Stopped (Ok next) = next ≡ Halted
Stops (halt.Fault e) (Ok next) = ⊥
Stops h (Err e) = Unit {0}
