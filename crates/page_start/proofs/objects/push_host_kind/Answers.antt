use Rattle.std.proofs.Common.{[], ◌∷◌}
use Rattle.page_meaning.specs.Pristine.{host_prototype, native_with, natives, prototype_is}
use Rattle.page_start.specs.BuiltIns.{rows}
use Rattle.page_start.proofs.Youngest.{then_beside}
use Rattle.page_start.proofs.objects.push_host_kind.Goals as goal

pub returns : goal.returns
returns c =
    let ms = rows c.args.inherited.now in
    then_beside c.push_natives.result c.args.heap.now c.push_function.new.heap c.push_natives.new.heap (native_with c.args.which 0 (prototype_is c.args.prototype ∷ []) ∷ [])
    (host_prototype ms ∷ natives ms) (rw c.in_ok-props.ensures at c.in_ok-push_function.ensures)
    (then_beside c.push_natives.result c.push_function.new.heap c.push_built.new.heap c.push_natives.new.heap (host_prototype ms ∷ []) (natives ms)
    (rw c.in_ok-props-2.ensures at c.in_ok-push_built.ensures) c.push_natives.ensures)
