use Rattle.std.proofs.Common.{[], ◌∷◌}
use Rattle.object_heap.specs.declared.object.Class.TheVariants.{Math}
use Rattle.page_meaning.specs.Places.{object_prototype}
use Rattle.page_meaning.specs.Pristine.{built, methods, natives}
use Rattle.page_meaning.specs.Tables.{math_functions}
use Rattle.page_start.proofs.Youngest.{then_beside}
use Rattle.page_start.proofs.objects.push_math.Goals as goal

pub returns : goal.returns
returns c =
    then_beside c.push_natives.result c.args.heap.now c.push_built.new.heap c.push_natives.new.heap (built Math object_prototype (methods math_functions) ∷ []) (natives math_functions)
    (rw c.in_ok-props.ensures at c.in_ok-push_built.ensures) c.push_natives.ensures
