use Rattle.std.proofs.Common.{[], ◌∷◌, ◌++◌}
use Rattle.js_values.specs.declared.built_in.BuiltIn.TheVariants as built_in
use Rattle.page_meaning.specs.Places.{array_prototype, array_prototype_place}
use Rattle.page_meaning.specs.Pristine.{constructor, natives}
use Rattle.page_meaning.specs.Tables.{array_functions, array_prototype_functions}
use Rattle.page_start.specs.BuiltIns.{array_prototype_object}
use Rattle.page_start.proofs.Youngest.{then_beside}
use Rattle.page_start.proofs.objects.push_array.Goals as goal

pub returns : goal.returns
unfolding array_prototype_place
returns c =
    then_beside c.push_natives-2.result c.args.heap.now c.push_constructor.new.heap c.push_natives-2.new.heap (constructor built_in.Array array_prototype array_functions ∷ [])
    (array_prototype_object ∷ (natives array_prototype_functions ++ natives array_functions)) c.in_ok-push_constructor.ensures
    (then_beside c.push_natives-2.result c.push_constructor.new.heap c.push_array_prototype.new.heap c.push_natives-2.new.heap (array_prototype_object ∷ [])
    (natives array_prototype_functions ++ natives array_functions) c.in_ok-push_array_prototype.ensures
    (then_beside c.push_natives-2.result c.push_array_prototype.new.heap c.push_natives.new.heap c.push_natives-2.new.heap (natives array_prototype_functions) (natives array_functions)
    c.in_ok-push_natives.ensures c.push_natives-2.ensures))
