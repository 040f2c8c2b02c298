use Rattle.js_values.specs.declared.built_in.BuiltIn.TheVariants as built_in
use Rattle.page_meaning.specs.Places.{event_prototype, event_prototype_place, node_prototype, node_prototype_place}
use Rattle.page_meaning.specs.Pristine.{constructor_built_ins_of, host_prototype}
use Rattle.page_meaning.specs.Tables.{event_prototype_functions, node_prototype_functions}
use Rattle.page_start.proofs.Youngest.{then_beside}
use Rattle.page_start.proofs.objects.push_hosts.Goals as goal

pub returns : goal.returns
unfolding node_prototype_place event_prototype_place
returns c =
    then_beside c.push_host_kind-2.result c.args.heap.now c.push_host_kind.new.heap c.push_host_kind-2.new.heap
    (constructor_built_ins_of 0 built_in.Node node_prototype (host_prototype node_prototype_functions) node_prototype_functions)
    (constructor_built_ins_of 0 built_in.Event event_prototype (host_prototype event_prototype_functions) event_prototype_functions)
    c.in_ok-push_host_kind.ensures c.push_host_kind-2.ensures
