use Rattle.std.proofs.Common.{length, suc, sym, ◌∙◌}
use Rattle.page_meaning.specs.Convert.{text_in}
use Rattle.page_frames.specs.RestProperties.{put_right}
use Rattle.page_frames.specs.Weight.{weigh}
use Rattle.page_frames.specs.Where.{spot_node}
use Rattle.step_assign.proofs.Changing.{index_waits, nothing_got}
use Rattle.step_assign.proofs.changes.go_index.Goals as goal

pub returns-in-None : goal.returns-in-None
returns-in-None c =
    rw (nothing_got c.args.got (rw c.as_slice.ensures at c.in-None.ensures.cases))
    (index_waits c.args.spot c.args.op c.args.value c.args.state.now c.args.meter.now c.run_second.result c.requires c.run_second.ensures)

pub returns-in-None-split_first : goal.returns-in-None-split_first
returns-in-None-split_first c =
    rw (sym c.as_slice.ensures ∙ c.in-Some.ensures.cases.0, nothing_got c.in-Some.more.now c.in-None-split_first.ensures.cases) c.go_key.ensures

pub returns-in-Some-split_first : goal.returns-in-Some-split_first
returns-in-Some-split_first c =
    rw (sym c.as_slice.ensures ∙ c.in-Some.ensures.cases.0, c.in-Some-split_first.ensures.cases.0)
    (c.give.ensures (λ calls. put_right calls c.args.op c.in-Some.base.now (text_in c.in-Some-split_first.key.now) c.in-Some-split_first.olds.now c.args.value) c.args.state.now c.put_by_text.new.state
    (weigh (spot_node c.args.spot) (suc (suc (suc (length c.in-Some-split_first.olds.now))))) c.args.meter.now c.put_by_text.ensures)
