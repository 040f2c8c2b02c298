use Rattle.code_table.specs.Kind.{kind_of}
use Rattle.page_meaning.specs.Calls.{calls_at}
use Rattle.page_frames.specs.Rest.{rest_name}
use Rattle.page_frames.specs.Weight.{weigh}
use Rattle.page_frames.specs.Where.{spot_node}
use Rattle.step_parts.proofs.Callers.{passes}
use Rattle.step_assign.proofs.named.go_name.Goals as goal

pub returns-in-Value : goal.returns-in-Value
returns-in-Value c =
    rw c.in-Value.is
    (c.give.ensures (λ calls. rest_name calls (kind_of (spot_node c.args.frame.spot)) c.args.frame.reference c.args.frame.old c.in-Value.value) c.args.state.now c.put_named.new.state (weigh (spot_node c.args.frame.spot) 1) c.args.meter.now
    c.put_named.ensures)

pub returns : goal.returns
returns c =
    passes (rest_name (calls_at c.args.meter.now.depth) (kind_of (spot_node c.args.frame.spot)) c.args.frame.reference c.args.frame.old) c.args.end (weigh (spot_node c.args.frame.spot) 1) c.args.state.now c.args.meter.now c.in_default.not-Value
