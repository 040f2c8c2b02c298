-- The recursion of numbering expressions: each measure is eight times the size of what is looked at, and a little more where a function comes
-- before another one at the same parts.
use Rattle.std.proofs.Common.{◌≡◌, ◌≤◌, ◌+◌, ◌*◌, length}
use Rattle.js_core.specs.Tree.{exprs_of, maybe_expr, holes_of, fields_of}
use Rattle.js_core.specs.Sizes.{expr_size, exprs_size, maybe_expr_size, holes_size, fields_size}
use Rattle.code_table.specs.Node.{exprs_parts, holes_parts, fields_parts}
use Rattle.code_table.specs.Rows.{with_parts, with_numbers}
use Rattle.code_numbering.proofs.expressions.+expressions.Given as goal

abbrev pub decreases-push_expr : goal.decreases-push_expr
decreases-push_expr l = 8 * expr_size l.e.now + 3

abbrev pub decreases-push_expr_parts : goal.decreases-push_expr_parts
decreases-push_expr_parts l = 8 * expr_size l.e.now + 1

abbrev pub decreases-push_two : goal.decreases-push_two
decreases-push_two l = 8 * (expr_size l.a.now + expr_size l.b.now) + 5

abbrev pub decreases-push_three : goal.decreases-push_three
decreases-push_three l = 8 * (expr_size l.a.now + expr_size l.b.now + expr_size l.c.now) + 6

abbrev pub decreases-push_new : goal.decreases-push_new
decreases-push_new l = 8 * (expr_size l.f.now + exprs_size (exprs_of l.es.now)) + 5

abbrev pub decreases-push_call : goal.decreases-push_call
decreases-push_call l = 8 * (expr_size l.f.now + exprs_size (exprs_of l.es.now)) + 5

abbrev pub decreases-push_place : goal.decreases-push_place
decreases-push_place l = 8 * expr_size l.e.now + 4

abbrev pub decreases-push_operand : goal.decreases-push_operand
decreases-push_operand l = 8 * expr_size l.e.now + 5

abbrev pub decreases-push_assign : goal.decreases-push_assign
decreases-push_assign l = 8 * (expr_size l.a.now + expr_size l.b.now) + 5

abbrev pub decreases-push_exprs : goal.decreases-push_exprs
decreases-push_exprs l = 8 * exprs_size (exprs_of l.es.now) + 4

abbrev pub decreases-push_maybe_expr : goal.decreases-push_maybe_expr
decreases-push_maybe_expr l = 8 * maybe_expr_size (maybe_expr l.e.now)

abbrev pub decreases-push_holes : goal.decreases-push_holes
decreases-push_holes l = 8 * holes_size (holes_of l.es.now) + 1

abbrev pub decreases-push_fields : goal.decreases-push_fields
decreases-push_fields l = 8 * fields_size (fields_of l.fs.now) + 1

abbrev pub invariant-push_exprs-loop-rest : goal.invariant-push_exprs-loop-rest
invariant-push_exprs-loop-rest l = record {
  rows : with_parts l.rows (exprs_parts (exprs_of l.rest)) ≡ with_parts l.initial.rows (exprs_parts (exprs_of l.es));
  numbers : with_numbers l.rows l.parts.items (exprs_parts (exprs_of l.rest)) ≡ with_numbers l.initial.rows l.initial.parts.items (exprs_parts (exprs_of l.es));
  left : exprs_size (exprs_of l.rest) ≤ exprs_size (exprs_of l.es);
}

abbrev pub decreases-push_exprs-loop-rest : goal.decreases-push_exprs-loop-rest
decreases-push_exprs-loop-rest l = length l.rest

abbrev pub invariant-push_holes-loop-rest : goal.invariant-push_holes-loop-rest
invariant-push_holes-loop-rest l = record {
  rows : with_parts l.rows (holes_parts (holes_of l.rest)) ≡ with_parts l.initial.rows (holes_parts (holes_of l.es));
  numbers : with_numbers l.rows l.parts.items (holes_parts (holes_of l.rest)) ≡ with_numbers l.initial.rows l.initial.parts.items (holes_parts (holes_of l.es));
  left : holes_size (holes_of l.rest) ≤ holes_size (holes_of l.es);
}

abbrev pub decreases-push_holes-loop-rest : goal.decreases-push_holes-loop-rest
decreases-push_holes-loop-rest l = length l.rest

abbrev pub invariant-push_fields-loop-rest : goal.invariant-push_fields-loop-rest
invariant-push_fields-loop-rest l = record {
  rows : with_parts l.rows (fields_parts (fields_of l.rest)) ≡ with_parts l.initial.rows (fields_parts (fields_of l.fs));
  numbers : with_numbers l.rows l.parts.items (fields_parts (fields_of l.rest)) ≡ with_numbers l.initial.rows l.initial.parts.items (fields_parts (fields_of l.fs));
  left : fields_size (fields_of l.rest) ≤ fields_size (fields_of l.fs);
}

abbrev pub decreases-push_fields-loop-rest : goal.decreases-push_fields-loop-rest
decreases-push_fields-loop-rest l = length l.rest
