use Rattle.std.proofs.Common.{◌≡◌, ◌++◌, drop}
use Rattle.parking.specs.Rows.{listed_text}
use Rattle.parking.proofs.row_lines.listed_text.Given as goal

abbrev pub invariant-loop-row : goal.invariant-loop-row
invariant-loop-row l = l.text.items ++ listed_text (drop l.row-index l.rows) ≡ listed_text l.rows
