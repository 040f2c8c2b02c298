use Rattle.std.proofs.Common.{refl}
use Rattle.page_meaning.specs.Places.{built_in_count}
use Rattle.page_meaning.specs.Pristine.{built_in_globals}
use Rattle.object_shapes.proofs.laws.law_built_ins_are_counted.Goals as goal

pub returns : goal.returns
unfolding built_in_count built_in_globals
returns c = (refl, refl)
