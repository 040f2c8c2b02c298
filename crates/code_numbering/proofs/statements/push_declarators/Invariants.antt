-- The declarators that are numbered, and those that are left.
use Rattle.std.proofs.Common.{◌≡◌, length}
use Rattle.js_core.specs.Views.{declarators_of}
use Rattle.code_table.specs.Node.{declarators_parts}
use Rattle.code_table.specs.Rows.{with_parts, with_numbers}
use Rattle.code_numbering.proofs.statements.push_declarators.Given as goal

abbrev pub invariant-loop-rest : goal.invariant-loop-rest
invariant-loop-rest l = record {
  rows : with_parts l.rows (declarators_parts (declarators_of l.rest)) ≡ with_parts l.initial.rows (declarators_parts (declarators_of l.ds));
  numbers : with_numbers l.rows l.parts.items (declarators_parts (declarators_of l.rest)) ≡ with_numbers l.initial.rows l.initial.parts.items (declarators_parts (declarators_of l.ds));
}

abbrev pub decreases-loop-rest : goal.decreases-loop-rest
decreases-loop-rest l = length l.rest
