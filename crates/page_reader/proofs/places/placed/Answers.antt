use Rattle.std.proofs.Common.{arith, refl, sym}
use Rattle.page_reader.proofs.Passing.{behind_none, bytes_none, place_short}
use Rattle.page_reader.proofs.places.placed.Goals as goal

pub loop-raw-init : goal.loop-raw-init
loop-raw-init c = (c.new-scripts.ensures.items, sym (behind_none c.args.units.now 0 refl), sym (bytes_none c.args.units.now 0 refl))

pub overflow_add-place : goal.overflow_add-place
overflow_add-place c = let short = place_short _ _ _ _ _ c.at_place-start.ensures.bytes c.requires.short in omega (arith, short)

pub overflow_add-place-in-loop-raw : goal.overflow_add-place-in-loop-raw
overflow_add-place-in-loop-raw c = let short = place_short _ _ _ _ _ c.at_place-end.ensures.bytes c.requires.short in omega (arith, short)
