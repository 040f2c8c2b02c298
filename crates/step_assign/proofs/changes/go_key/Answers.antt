use Rattle.page_meaning.specs.Convert.{text_in}
use Rattle.page_meaning.specs.Properties.{key_of}
use Rattle.page_frames.specs.RestProperties.{then_key, then_right}
use Rattle.page_frames.specs.Weight.{weigh}
use Rattle.page_frames.specs.Where.{here_of, spot_node}
use Rattle.page_state.proofs.Callers.{also_raises}
use Rattle.step_assign.proofs.Changing.{key_known}
use Rattle.step_assign.proofs.changes.go_key.Goals as goal

pub returns-in-Ok : goal.returns-in-Ok
returns-in-Ok c =
    key_known c.args.spot c.args.op c.args.base.now c.args.key.now c.in-Ok.name c.args.state.now c.key_of.new.self c.run_right.new.state c.args.meter.now c.run_right.result c.in-Ok.ensures c.run_right.ensures

pub returns-in-Err : goal.returns-in-Err
returns-in-Err c =
    c.give.ensures (λ calls. then_key calls (here_of c.args.spot) (spot_node c.args.spot) c.args.op c.args.base.now c.args.key.now) c.args.state.now c.key_of.new.self (weigh (spot_node c.args.spot) 2) c.args.meter.now
    (also_raises (λ calls. key_of calls c.args.base.now c.args.key.now)
    (λ calls k. then_right calls (here_of c.args.spot) (spot_node c.args.spot) c.args.op 2 c.args.base.now (text_in k)) c.args.state.now c.key_of.new.self c.in-Err.fault c.in-Err.ensures)
