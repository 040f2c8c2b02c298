use Rattle.std.proofs.Common.{Some, [], ◌∷◌}
use Rattle.page_meaning.specs.Act.{also}
use Rattle.page_meaning.specs.Properties.{read_property}
use Rattle.page_frames.specs.Parts.{part}
use Rattle.page_frames.specs.RestProperties.{put_right, then_right}
use Rattle.page_frames.specs.Weight.{weigh}
use Rattle.page_frames.specs.Where.{here_of, spot_node}
use Rattle.page_state.proofs.Callers.{also_raises}
use Rattle.step_assign.proofs.Changing.{right_beside}
use Rattle.step_assign.proofs.changes.read_named.Goals as goal

pub returns-in-Ok : goal.returns-in-Ok
returns-in-Ok c =
    right_beside c.args.spot c.args.op c.args.base.now c.in-Ok.old c.args.name c.args.state.now c.read_property.new.self c.args.meter.now c.run_known.result c.requires c.in-Ok.ensures c.run_known.ensures

pub returns-in-Err : goal.returns-in-Err
returns-in-Err c =
    c.give.ensures (λ calls. then_right calls (here_of c.args.spot) (spot_node c.args.spot) (Some c.args.op) 2 c.args.base.now c.args.name) c.args.state.now c.read_property.new.self (weigh (spot_node c.args.spot) 2)
    c.args.meter.now (also_raises (λ _. read_property c.args.base.now c.args.name)
    (λ calls old. also (part calls (here_of c.args.spot) (spot_node c.args.spot) 2) (put_right calls (Some c.args.op) c.args.base.now c.args.name (old ∷ []))) c.args.state.now c.read_property.new.self c.in-Err.fault
    c.in-Err.ensures)
