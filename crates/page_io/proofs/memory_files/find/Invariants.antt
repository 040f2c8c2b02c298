use Rattle.std.proofs.Common.{◌≡◌, drop}
use Rattle.page_io.specs.MemoryFilesOf.{named, content_of}
use Rattle.page_io.proofs.memory_files.find.Given as goal

abbrev pub invariant-loop-file : goal.invariant-loop-file
invariant-loop-file l = content_of (named (drop l.file-index l.files)) l.name ≡ content_of (named l.files) l.name
