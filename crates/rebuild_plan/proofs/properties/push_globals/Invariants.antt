use Rattle.std.proofs.Common.{◌≡◌, ◌++◌, ◌-◌, drop, false, length}
use Rattle.object_heap.specs.Chain.{object_at}
use Rattle.page_meaning.specs.Places.{window}
use Rattle.heap_walker.specs.Things.{globals_of, made_globals}
use Rattle.rebuild_plan.specs.Compact.{moved_props}
use Rattle.rebuild_plan.specs.Plan.{defines}
use Rattle.rebuild_plan.proofs.properties.push_globals.Given as goal

abbrev pub invariant-loop-name : goal.invariant-loop-name
invariant-loop-name l =
    l.plan.items ++ defines false false window (moved_props l.walked.things.keys (made_globals (drop l.place (object_at l.state.heap.objects window.0).props)))
    ≡ l.fn.plan.items ++ defines false false window (moved_props l.walked.things.keys (globals_of l.state))

abbrev pub decreases-loop-name : goal.decreases-loop-name
decreases-loop-name l = length (object_at l.state.heap.objects window.0).props - l.place
