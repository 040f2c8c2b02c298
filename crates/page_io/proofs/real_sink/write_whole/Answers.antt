use Rattle.std.proofs.Common.{rules}
use Rattle.page_io.proofs.StreamSteps.{Appends_step}
use Rattle.page_io.proofs.real_sink.write_whole.Goals as goal

pub loop-done-preserved : goal.loop-done-preserved
loop-done-preserved g c = record {
  within = search rules;
  front = Appends_step _ _ _ c.loop-done.done c.in-Ok.count c.args.piece.now c.loop-done.invariant.front c.in-Ok.ensures.bytes;
}
