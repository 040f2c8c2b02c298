use Rattle.std.proofs.Common.{length, suc, sym, ◌∙◌}
use Rattle.page_frames.specs.RestProperties.{put_right}
use Rattle.page_frames.specs.Weight.{weigh}
use Rattle.page_frames.specs.Where.{spot_node}
use Rattle.step_assign.proofs.Changing.{nothing_got}
use Rattle.step_assign.proofs.changes.go_member.Goals as goal

pub test_base-requires : goal.test_base-requires
test_base-requires c = rw c.in-None-op.is at c.requires

pub returns-in-None-op : goal.returns-in-None-op
returns-in-None-op c = rw (nothing_got c.args.got (rw c.as_slice.ensures at c.in-None.ensures.cases), c.in-None-op.is) c.test_base.ensures

pub read_base-requires : goal.read_base-requires
read_base-requires c = rw c.in-Some-op.is at c.requires

pub returns-in-None : goal.returns-in-None
returns-in-None c = rw (nothing_got c.args.got (rw c.as_slice.ensures at c.in-None.ensures.cases), c.in-Some-op.is) c.read_base.ensures

pub returns : goal.returns
returns c =
    rw (sym c.as_slice.ensures ∙ c.in-Some.ensures.cases.0)
    (c.give.ensures (λ calls. put_right calls c.args.op c.in-Some.base.now c.args.name.now c.in-Some.olds.now c.args.value) c.args.state.now c.put_right.new.state
    (weigh (spot_node c.args.spot) (suc (suc (length c.in-Some.olds.now)))) c.args.meter.now c.put_right.ensures)
