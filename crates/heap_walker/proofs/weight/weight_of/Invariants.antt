use Rattle.std.proofs.Common.{drop}
use Rattle.heap_walker.specs.Weight.{Adds, load_of, things_load}
use Rattle.heap_walker.specs.declared.weight.Weight.{Weight}
use Rattle.heap_walker.proofs.weight.weight_of.Given as goal

abbrev pub invariant-loop-place : goal.invariant-loop-place
invariant-loop-place l =
    (w : Weight) → Adds l.weight w (things_load l.state (drop l.place-index l.walked.things.keys)) → Adds (record { things = 0; text = 0 }) w (load_of l.state l.walked.things.keys)
