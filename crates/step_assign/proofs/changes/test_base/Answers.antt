use Rattle.std.proofs.Common.{None, []}
use Rattle.page_meaning.specs.Act.{also}
use Rattle.page_meaning.specs.Properties.{with_properties}
use Rattle.page_frames.specs.Parts.{part}
use Rattle.page_frames.specs.RestProperties.{put_right, rest_assign_member}
use Rattle.page_frames.specs.Weight.{weigh}
use Rattle.page_frames.specs.Where.{here_of, spot_node}
use Rattle.page_state.proofs.Callers.{also_raises}
use Rattle.step_assign.proofs.Changing.{member_waits}
use Rattle.step_assign.proofs.changes.test_base.Goals as goal

pub returns-in-Ok : goal.returns-in-Ok
returns-in-Ok c =
    member_waits c.args.spot c.args.name.now c.args.base c.in-Ok.tested c.args.state.now c.with_properties.new.self c.args.meter.now c.run_second.result c.requires c.in-Ok.ensures c.run_second.ensures

pub returns-in-Err : goal.returns-in-Err
returns-in-Err c =
    c.give.ensures (λ calls. rest_assign_member calls (here_of c.args.spot) (spot_node c.args.spot) None c.args.name.now [] c.args.base) c.args.state.now c.with_properties.new.self (weigh (spot_node c.args.spot) 1) c.args.meter.now
    (also_raises (λ _. with_properties c.args.base) (λ calls o. also (part calls (here_of c.args.spot) (spot_node c.args.spot) 1) (put_right calls None o c.args.name.now [])) c.args.state.now
    c.with_properties.new.self c.in-Err.fault c.in-Err.ensures)
