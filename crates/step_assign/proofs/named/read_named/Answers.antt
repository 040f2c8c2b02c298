use Rattle.std.proofs.Common.{Some}
use Rattle.code_table.specs.declared.kind.Kind.TheVariants.{AssignName}
use Rattle.page_meaning.specs.Act.{also}
use Rattle.page_meaning.specs.Names.{read}
use Rattle.page_frames.specs.Parts.{part}
use Rattle.page_frames.specs.Rest.{rest_name}
use Rattle.page_frames.specs.Weight.{weigh}
use Rattle.page_frames.specs.Where.{here_of, spot_node}
use Rattle.page_state.proofs.Callers.{also_raises}
use Rattle.step_assign.proofs.Naming.{read_waits}
use Rattle.step_assign.proofs.named.read_named.Goals as goal

pub returns-in-Ok : goal.returns-in-Ok
returns-in-Ok c =
    read_waits c.args.spot c.args.op c.args.name.now c.args.reference c.in-Ok.old c.args.state.now c.read.new.self c.run_right.new.state c.args.meter.now c.run_right.result c.requires c.in-Ok.ensures c.run_right.ensures

pub returns-in-Err : goal.returns-in-Err
returns-in-Err c =
    c.give.ensures (λ calls. also (read c.args.name.now c.args.reference) (λ old. also (part calls (here_of c.args.spot) (spot_node c.args.spot) 0) (rest_name calls (AssignName (Some c.args.op) c.args.name.now) c.args.reference (Some old)))) c.args.state.now c.read.new.self (weigh (spot_node c.args.spot) 0) c.args.meter.now
    (also_raises (λ _. read c.args.name.now c.args.reference) (λ calls old. also (part calls (here_of c.args.spot) (spot_node c.args.spot) 0) (rest_name calls (AssignName (Some c.args.op) c.args.name.now) c.args.reference (Some old))) c.args.state.now c.read.new.self c.in-Err.fault c.in-Err.ensures)
