use Rattle.std.proofs.Common.{Some, [], ◌∷◌}
use Rattle.page_meaning.specs.Act.{also}
use Rattle.page_meaning.specs.Properties.{get_member}
use Rattle.page_frames.specs.Parts.{part}
use Rattle.page_frames.specs.RestProperties.{put_right, rest_assign_member}
use Rattle.page_frames.specs.Weight.{weigh}
use Rattle.page_frames.specs.Where.{here_of, spot_node}
use Rattle.page_state.proofs.Callers.{also_raises}
use Rattle.step_assign.proofs.Changing.{old_waits}
use Rattle.step_assign.proofs.changes.read_base.Goals as goal

pub returns-in-Ok : goal.returns-in-Ok
returns-in-Ok c =
    old_waits c.args.spot c.args.op c.args.name.now c.args.base c.in-Ok.old c.args.state.now c.get_member.new.self c.args.meter.now c.run_beside.result c.requires c.in-Ok.ensures c.run_beside.ensures

pub returns-in-Err : goal.returns-in-Err
returns-in-Err c =
    c.give.ensures (λ calls. rest_assign_member calls (here_of c.args.spot) (spot_node c.args.spot) (Some c.args.op) c.args.name.now [] c.args.base) c.args.state.now c.get_member.new.self (weigh (spot_node c.args.spot) 1)
    c.args.meter.now (also_raises (λ _. get_member c.args.base c.args.name.now)
    (λ calls old. also (part calls (here_of c.args.spot) (spot_node c.args.spot) 1) (put_right calls (Some c.args.op) c.args.base c.args.name.now (old ∷ []))) c.args.state.now c.get_member.new.self c.in-Err.fault
    c.in-Err.ensures)
