use Rattle.js_values.specs.declared.value.Value.TheVariants.{Object}
use Rattle.object_heap.specs.Define.{length_name, number}
use Rattle.page_meaning.specs.Act.{also, give}
use Rattle.page_meaning.specs.Properties.{put_in}
use Rattle.page_frames.specs.Weight.{weigh}
use Rattle.page_frames.specs.Where.{spot_node}
use Rattle.step_expr.proofs.InTurn.{list_ends, list_runs}
use Rattle.step_expr.proofs.elements.elements_from.Goals as goal

pub returns-then-has_part : goal.returns-then-has_part
returns-then-has_part c =
    list_runs c.args.spot c.args.k c.next_element-next.result c.args.got c.args.list c.args.state.now c.args.meter.now c.run_part.result c.requires.kind c.next_element-next.ensures.skipped c.if-has_part.ensures
    c.requires.held c.run_part.ensures

pub returns-else-has_part : goal.returns-else-has_part
returns-else-has_part c =
    list_ends c.args.spot c.args.k c.next_element-next.result c.args.list c.args.state.now c.close_list.new.state c.args.meter.now c.give.result c.requires.kind c.next_element-next.ensures.skipped c.if-has_part.ensures
    c.next_element-next.ensures.found
    (c.give.ensures (λ _. also (put_in c.args.list length_name (number c.next_element-next.result)) (λ _. give (Object c.args.list))) c.args.state.now c.close_list.new.state (weigh (spot_node c.args.spot) c.next_element-next.result)
    c.args.meter.now c.close_list.ensures)
