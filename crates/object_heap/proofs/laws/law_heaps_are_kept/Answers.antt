use Rattle.object_heap.proofs.Callers.{fewer_steps, kinds_steps, only_there, sound_steps}
use Rattle.object_heap.proofs.laws.law_heaps_are_kept.Goals as goal

pub returns : goal.returns
returns c = record { stays_sound = sound_steps; keeps_kinds = kinds_steps; never_fewer = fewer_steps; only_there = only_there }
