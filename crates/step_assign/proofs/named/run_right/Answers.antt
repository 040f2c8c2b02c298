use Rattle.code_table.specs.Kind.{kind_of}
use Rattle.page_frames.specs.Rest.{rest_name}
use Rattle.page_frames.specs.Weight.{weigh}
use Rattle.page_frames.specs.Where.{spot_node}
use Rattle.step_assign.proofs.Naming.{right_put, right_then}
use Rattle.step_assign.proofs.named.run_right.Goals as goal

pub returns-in-Some : goal.returns-in-Some
returns-in-Some c =
    right_put c.args.spot c.args.reference c.args.old c.part-number.result c.in-Some.value c.args.state.now c.put_named.new.state c.args.meter.now c.give.result c.part-number.ensures (rw c.in-Some.is at c.in_ok-value.ensures)
    (c.give.ensures (λ calls. rest_name calls (kind_of (spot_node c.args.spot)) c.args.reference c.args.old c.in-Some.value) c.args.state.now c.put_named.new.state (weigh (spot_node c.args.spot) 0) c.args.meter.now c.put_named.ensures)

pub returns-in_ok-boxed-in-None : goal.returns-in_ok-boxed-in-None
returns-in_ok-boxed-in-None c =
    rw (c.in_ok-boxed-in-None.ensures, c.in_ok-part-in-None.ensures) (right_then c.args.spot c.args.reference c.args.old c.part-number.result c.args.state.now c.args.meter.now c.part-number.ensures)
