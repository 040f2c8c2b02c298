use Rattle.std.proofs.Common.{length, suc, sym, ◌∙◌}
use Rattle.page_frames.specs.RestProperties.{update_index}
use Rattle.page_frames.specs.Weight.{weigh}
use Rattle.page_frames.specs.Where.{spot_node}
use Rattle.step_assign.proofs.Changing.{nothing_got, update_waits}
use Rattle.step_assign.proofs.changes.go_update.Goals as goal

pub returns-in-None : goal.returns-in-None
returns-in-None c =
    rw (nothing_got c.args.got (rw c.as_slice.ensures at c.in-None.ensures.cases))
    (update_waits c.args.spot c.args.up c.args.prefix c.args.value c.args.state.now c.args.meter.now c.run_second.result c.requires c.run_second.ensures)

pub returns-in-Some : goal.returns-in-Some
returns-in-Some c =
    rw (sym c.as_slice.ensures ∙ c.in-Some.ensures.cases.0)
    (c.give.ensures (λ calls. update_index calls c.args.up c.args.prefix c.in-Some.base.now c.args.value) c.args.state.now c.update_index.new.state
    (weigh (spot_node c.args.spot) (suc (suc (length c.in-Some._more.now)))) c.args.meter.now c.update_index.ensures)
