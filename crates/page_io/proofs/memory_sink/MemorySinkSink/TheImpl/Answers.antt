use Rattle.page_io.proofs.MemoryPuts.{put_ok, put_err, put_counts}
use Rattle.page_io.proofs.memory_sink.MemorySinkSink.TheImpl.Goals as goal

pub put-tells : goal.put-tells
put-tells c = rw (c.ensures.answer, c.ensures.after) (record {
  ok = put_ok c.args.self.now c.args.piece.now;
  fault = put_err c.args.self.now c.args.piece.now;
  counts = put_counts c.args.self.now c.args.piece.now;
})
