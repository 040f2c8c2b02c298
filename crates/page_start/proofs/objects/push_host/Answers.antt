use Rattle.std.proofs.Common.{[], ◌∷◌, ◌++◌}
use Rattle.js_values.specs.declared.built_in.BuiltIn.TheVariants as built_in
use Rattle.object_heap.specs.declared.object.Class.TheVariants.{Plain}
use Rattle.page_meaning.specs.Places.{object_prototype}
use Rattle.page_meaning.specs.Pristine.{built, methods, native, natives}
use Rattle.page_meaning.specs.Tables.{console_functions, timer_functions}
use Rattle.page_start.proofs.Youngest.{then_beside}
use Rattle.page_start.proofs.objects.push_host.Goals as goal

pub returns : goal.returns
returns c =
    then_beside c.push_natives-2.result c.args.heap.now c.push_built.new.heap c.push_natives-2.new.heap (built Plain object_prototype (methods console_functions) ∷ [])
    (natives console_functions ++ native built_in.Alert 1 ∷ natives timer_functions) (rw c.in_ok-props.ensures at c.in_ok-push_built.ensures)
    (then_beside c.push_natives-2.result c.push_built.new.heap c.push_natives.new.heap c.push_natives-2.new.heap (natives console_functions)
    (native built_in.Alert 1 ∷ natives timer_functions) c.in_ok-push_natives.ensures
    (then_beside c.push_natives-2.result c.push_natives.new.heap c.push_native.new.heap c.push_natives-2.new.heap (native built_in.Alert 1 ∷ []) (natives timer_functions)
    c.in_ok-push_native.ensures c.push_natives-2.ensures))
