use Rattle.std.proofs.Common.{◌*◌, length, Result, IfOk}
use Rattle.js_core.specs.declared.memory.OutOfMemory.{OutOfMemory}
use Rattle.page_meaning.specs.Dispatch.{visit_places}
use Rattle.page_meaning.specs.Store.{Store}
use Rattle.page_frames.specs.declared.meter.Next.{Next}
use Rattle.page_frames.specs.Weight.{many}
use Rattle.event_dispatch.specs.Turning.{Turns}
use Rattle.event_dispatch.proofs.dispatch.visit_places.Given as goal

-- what the places from here on lead to is what all of them lead to
abbrev pub invariant-loop-place : goal.invariant-loop-place
invariant-loop-place l =
    (t : Store) (r : Result Next OutOfMemory) → IfOk r (λ n. Turns (length l.later * many) (λ calls. visit_places calls l.event l.later) l.state n t)
    → IfOk r (λ n. Turns (length l.initial.later * many) (λ calls. visit_places calls l.event l.initial.later) l.initial.state n t)

abbrev pub decreases-loop-place : goal.decreases-loop-place
decreases-loop-place l = length l.later
