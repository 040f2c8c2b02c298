use Rattle.page_io.proofs.Tables.{table_insert}
use Rattle.page_io.proofs.memory_keeper.put_row.Goals as goal

pub returns-clause-ok : goal.returns-clause-ok
returns-clause-ok c =
    rw (c.in_ok-insert.ensures.entries, table_insert, c.in_ok-from_str.ensures.ok, c.in_ok-from_slice.ensures.items)
