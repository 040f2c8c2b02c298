-- Nodes that are numbered. A function among them has no table yet, and is seen as its code.
use Rattle.code_table.specs.declared.kind.Kind.{Kind}
use Rattle.code_table.specs.declared.kind.Kind.TheVariants.{Func}
use Rattle.code_numbering.specs.declared.rows.NodeKind.{NodeKind}
use Rattle.code_numbering.specs.declared.rows.NodeKind.TheVariants as node
use Rattle.code_numbering.specs.declared.rows.Numbered.{Numbered}
use Rattle.code_table.specs.Rows.{Row}

abbrev pub known : NodeKind → Kind
known (node.Known k) = k
known (node.Function c) = Func c.value

abbrev pub numbered_row : Numbered → Row
numbered_row n = record { kind = known n.kind; parts = n.parts.items }
