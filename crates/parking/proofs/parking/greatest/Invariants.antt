use Rattle.std.proofs.Common.{◌≡◌, drop, max}
use Rattle.parking.specs.Rows.{greatest}
use Rattle.parking.proofs.parking.greatest.Given as goal

abbrev pub invariant-loop-row : goal.invariant-loop-row
invariant-loop-row l = max l.version (greatest l.name (drop l.row-index l.rows)) ≡ greatest l.name l.rows
