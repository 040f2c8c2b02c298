use Rattle.page_io.proofs.Tables.{contains_rows, table_remove}
use Rattle.page_io.proofs.memory_keeper.remove_row.Goals as goal

pub returns-clause-ok : goal.returns-clause-ok
returns-clause-ok c = rw (← c.in_ok-from_str.ensures.ok, contains_rows, c.is_some.ensures, c.remove.ensures.value)

pub returns-clause-removed : goal.returns-clause-removed
returns-clause-removed c =
    rw (← c.in_ok-from_str.ensures.ok) (table_remove (c.in_ok-from_str.field-0, c.args.version) c.args.rows.now.entries c.remove.new.self.entries c.remove.ensures.updates.3 c.remove.ensures.updates.1)
