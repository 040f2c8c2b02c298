use Rattle.code_table.specs.Table.{code_of}
use Rattle.code_table.proofs.Told.{told}
use Rattle.code_table.proofs.code.FunctionCode.entry.Goals as goal

pub returns : goal.returns
returns c =
    rw (← c.self.view_is, c.entry_at.ensures, c.as_slice.ensures.value, c.deref.ensures)
    (told (code_of c.self.inside.table.value) c.self.inside.table.value.entries.items c.args.node c.self.invariant.rows c.self.invariant.few)
