use Rattle.std.proofs.Common.{suc}
use Rattle.std.specs.Fmt.{decimal}
use Rattle.page_meaning.specs.Act.{also}
use Rattle.page_meaning.specs.Properties.{define_member}
use Rattle.page_frames.specs.RestLiterals.{elements_from}
use Rattle.page_frames.specs.Weight.{weigh}
use Rattle.page_frames.specs.Where.{here_of, spot_node}
use Rattle.page_state.proofs.Callers.{also_raises}
use Rattle.step_expr.proofs.Filling.{list_filled}
use Rattle.step_expr.proofs.InTurn.{list_goes}
use Rattle.step_expr.proofs.elements.go_list.Goals as goal

pub returns-in-Ok : goal.returns-in-Ok
returns-in-Ok c =
    list_filled c.args.spot c.args.turn c.in_ok-next.next c.args.got c.in-Some.list c.args.value c.in-Ok.field-0 c.args.state.now c.define_element.new.state c.elements_from.new.state c.args.meter.now
    c.elements_from.result c.in-Some.ensures c.in_ok-next.ensures c.in-Ok.ensures c.elements_from.ensures

pub returns-in-Err : goal.returns-in-Err
returns-in-Err c =
    list_goes c.args.spot c.args.turn c.args.got c.in-Some.list c.args.value c.args.state.now c.define_element.new.state c.args.meter.now c.give.result c.in-Some.ensures
    (c.give.ensures
    (λ calls. also (define_member c.in-Some.list (decimal c.args.turn) c.args.value) (λ _. elements_from calls (here_of c.args.spot) (spot_node c.args.spot) c.in-Some.list (suc c.args.turn)))
    c.args.state.now c.define_element.new.state (weigh (spot_node c.args.spot) (suc c.args.turn)) c.args.meter.now
    (also_raises (λ _. define_member c.in-Some.list (decimal c.args.turn) c.args.value) (λ calls _. elements_from calls (here_of c.args.spot) (spot_node c.args.spot) c.in-Some.list (suc c.args.turn)) c.args.state.now
    c.define_element.new.state c.in-Err.fault c.in-Err.ensures))
