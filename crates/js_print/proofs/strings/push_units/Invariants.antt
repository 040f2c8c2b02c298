use Rattle.std.proofs.Common.{◌≡◌, ◌++◌, take, length}
use Rattle.std.specs.List.{flat_map}
use Rattle.js_print.specs.Spelling.{string_unit}
use Rattle.js_print.proofs.strings.push_units.Given as goal

abbrev pub invariant-loop-rest : goal.invariant-loop-rest
invariant-loop-rest l = record {
  printed : l.out.items ++ flat_map string_unit l.rest ≡ l.initial.out.items ++ flat_map string_unit l.units;
  kept : take (length l.initial.out.items) l.out.items ≡ l.initial.out.items;
}

abbrev pub decreases-loop-rest : goal.decreases-loop-rest
decreases-loop-rest l = length l.rest
