use Rattle.code_table.specs.Kind.{kind_of}
use Rattle.page_meaning.specs.Calls.{calls_at}
use Rattle.page_frames.specs.Rest.{rest_target}
use Rattle.page_frames.specs.Weight.{weigh_target}
use Rattle.page_frames.specs.Where.{here_of, spot_node}
use Rattle.step_parts.proofs.Callers.{passes}
use Rattle.step_assign.proofs.targets.go_target.Goals as goal

pub returns-in-Value : goal.returns-in-Value
returns-in-Value c = rw c.in-Value.is c.go_part.ensures

pub returns-in_default : goal.returns-in_default
returns-in_default c =
    passes (rest_target (calls_at c.args.meter.now.depth) (here_of c.args.frame.spot) (spot_node c.args.frame.spot) (kind_of (spot_node c.args.frame.spot)) c.args.frame.value c.args.frame.base) c.args.end
    (weigh_target (spot_node c.args.frame.spot) c.args.frame.base) c.args.state.now c.args.meter.now c.in_default.not-Value
