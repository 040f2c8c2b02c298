use Rattle.page_io.proofs.Tables.{get_rows}
use Rattle.page_io.proofs.memory_keeper.get_row.Goals as goal

pub returns-in-None : goal.returns-in-None
returns-in-None c = rw (← c.in_ok-from_str.ensures.ok, get_rows, ← c.in-None.ensures.value)

pub returns : goal.returns
returns c = rw (← c.in_ok-from_str.ensures.ok, get_rows, ← c.in-Some.ensures.value, c.in_ok-from_slice-in-Some.ensures.items, c.as_slice.ensures.value)
