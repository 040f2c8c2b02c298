use Rattle.code_table.specs.Kind.{kind_of}
use Rattle.page_frames.specs.Start.{start_of}
use Rattle.page_frames.specs.Weight.{cost}
use Rattle.page_frames.specs.Where.{here_of, spot_node}
use Rattle.step_expr.proofs.Opening.{opens}
use Rattle.step_expr.proofs.plain.begin_plain.Goals as goal

pub returns : goal.returns
returns c =
    opens c.args.spot.now c.args.state.now c.plain_value.new.state c.args.meter.now c.args.meter.now c.give.result
    (c.give.ensures (λ calls. start_of calls (here_of c.args.spot.now) (spot_node c.args.spot.now) (kind_of (spot_node c.args.spot.now))) c.args.state.now c.plain_value.new.state (cost (spot_node c.args.spot.now)) c.args.meter.now
    c.plain_value.ensures)
