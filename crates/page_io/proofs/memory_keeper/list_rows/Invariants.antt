use Rattle.std.proofs.Common.{◌≡◌, map}
use Rattle.std.specs.Map.Iter.{deref_pair}
use Rattle.page_io.specs.Table.{kept_name}
use Rattle.page_io.specs.MemoryKeeperOf.{row_of}
use Rattle.page_io.proofs.memory_keeper.list_rows.Given as goal

abbrev pub invariant-loop-key : goal.invariant-loop-key
invariant-loop-key l = l.names.items ≡ map kept_name (map row_of (map deref_pair l.yielded))
