use Rattle.std.proofs.Common.{◌≡◌, ◌++◌, length, take}
use Rattle.js_core.specs.LineText.{line_text}
use Rattle.js_core.proofs.line_text.push_line_text.Given as goal

abbrev pub invariant-loop-point : goal.invariant-loop-point
invariant-loop-point l = record {
  whole : l.out.items ++ line_text l.rest ≡ l.initial.out.items ++ line_text l.units;
  kept : take (length l.initial.out.items) l.out.items ≡ l.initial.out.items;
}

abbrev pub decreases-loop-point : goal.decreases-loop-point
decreases-loop-point l = length l.rest
