use Rattle.std.proofs.Common.{◌++◌}
use Rattle.page_meaning.specs.Places.{boolean_prototype_place, number_prototype_place, string_prototype_place}
use Rattle.page_meaning.specs.Pristine.{boolean_built_ins, number_built_ins, string_built_ins}
use Rattle.page_start.proofs.Youngest.{then_beside}
use Rattle.page_start.proofs.objects.push_primitives.Goals as goal

pub returns : goal.returns
unfolding string_prototype_place number_prototype_place boolean_prototype_place
returns c =
    then_beside c.push_value-3.result c.args.heap.now c.push_value.new.heap c.push_value-3.new.heap string_built_ins (number_built_ins ++ boolean_built_ins) c.in_ok-push_value.ensures
    (then_beside c.push_value-3.result c.push_value.new.heap c.push_value-2.new.heap c.push_value-3.new.heap number_built_ins boolean_built_ins c.in_ok-push_value-2.ensures c.push_value-3.ensures)
