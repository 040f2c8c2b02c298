use Rattle.page_meaning.specs.Calls.{calls_at}
use Rattle.page_frames.specs.Where.{here_of, spot_node}
use Rattle.page_frames.specs.RestLoops.{do_loop}
use Rattle.step_stmt.proofs.Looping.{do_pays, do_starts}
use Rattle.step_stmt.proofs.loops.do_begun.Goals as goal

pub take_turn-requires : goal.take_turn-requires
take_turn-requires c = do_pays c.args.spot c.requires c.is_small.ensures

pub returns : goal.returns
returns c = c.take_turn.ensures (do_loop (calls_at c.args.meter.now.depth) (here_of c.args.spot) (spot_node c.args.spot)) (do_starts c.args.spot c.args.meter.now.depth c.requires)
