use Rattle.std.proofs.Common.{ap, Some}
use Rattle.page_io.specs.MemoryFilesOf.{content_of}
use Rattle.page_io.proofs.MemoryReads.{read_bytes, read_fault, read_same, read_counts, read_name}
use Rattle.page_io.proofs.memory_files.MemoryFilesFiles.TheImpl.Goals as goal

pub read-tells : goal.read-tells
read-tells c = rw c.ensures.after (record {
  bytes = read_bytes c.args.self.now c.args.name.now c.args.limit c.result c.ensures.answer;
  fault = read_fault c.args.self.now c.args.name.now c.args.limit c.result c.ensures.answer;
  same = λ n. ap (λ files. Some (content_of files n)) (read_same c.args.self.now c.args.name.now c.result);
  counts = read_counts c.args.self.now c.args.name.now c.result;
  name = read_name c.args.self.now c.args.name.now c.result;
})
