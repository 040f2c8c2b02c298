use Rattle.std.proofs.Common.{refl}
use Rattle.page_io.proofs.RealReads.{real_counts, real_name, untold_fault}
use Rattle.page_io.proofs.real_files.RealFilesFiles.TheImpl.Goals as goal

pub read-tells : goal.read-tells
read-tells g c = rw c.ensures.after (record {
  bytes = c.ensures.bytes;
  fault = untold_fault c.args.limit c.result;
  same = λ n. refl;
  counts = real_counts c.args.self.now c.args.name.now c.result;
  name = real_name c.args.self.now c.args.name.now c.result;
})
