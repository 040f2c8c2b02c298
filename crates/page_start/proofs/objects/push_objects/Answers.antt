use Rattle.std.proofs.Common.{[], ◌∷◌, ◌++◌}
use Rattle.js_values.specs.declared.built_in.BuiltIn.TheVariants as built_in
use Rattle.page_meaning.specs.Places.{object_prototype}
use Rattle.page_meaning.specs.Pristine.{constructor, natives}
use Rattle.page_meaning.specs.Tables.{object_functions, object_prototype_functions}
use Rattle.page_start.proofs.Youngest.{then_beside}
use Rattle.page_start.proofs.objects.push_objects.Goals as goal

pub returns : goal.returns
returns c =
    then_beside c.push_natives-2.result c.args.heap.now c.push_constructor.new.heap c.push_natives-2.new.heap (constructor built_in.Object object_prototype object_functions ∷ [])
    (natives object_prototype_functions ++ natives object_functions) c.in_ok-push_constructor.ensures
    (then_beside c.push_natives-2.result c.push_constructor.new.heap c.push_natives.new.heap c.push_natives-2.new.heap (natives object_prototype_functions) (natives object_functions)
    c.in_ok-push_natives.ensures c.push_natives-2.ensures)
