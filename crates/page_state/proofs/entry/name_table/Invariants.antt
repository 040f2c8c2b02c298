use Rattle.std.proofs.Common.{take}
use Rattle.page_state.specs.Entry.{AreSeen}
use Rattle.page_state.proofs.entry.name_table.Given as goal

abbrev pub invariant-loop-name : goal.invariant-loop-name
invariant-loop-name l = AreSeen l.seen.keys (take l.name-index l.names)
