use Rattle.page_meaning.specs.Act.{also, done}
use Rattle.page_meaning.specs.Calls.{calls_at}
use Rattle.page_frames.specs.Where.{here_of, spot_node}
use Rattle.page_frames.specs.RestLoops.{while_loop}
use Rattle.step_stmt.proofs.Looping.{while_goes, while_pays}
use Rattle.step_stmt.proofs.loops.while_tested.Goals as goal

pub turn_when-requires : goal.turn_when-requires
turn_when-requires c = while_pays c.args.spot c.requires c.is_small.ensures

pub returns : goal.returns
returns c = c.turn_when.ensures (also done (λ _. while_loop (calls_at c.args.meter.now.depth) (here_of c.args.spot) (spot_node c.args.spot))) (while_goes c.args.spot c.args.meter.now.depth c.requires)
