use Rattle.std.proofs.Common.{rules, arith}
use Rattle.std.proofs.lemmas.Grind.{common_steps}
use Rattle.script_rules.proofs.Steps.{cases_step, expressions_step, statements_step}
use Rattle.scope_analysis.proofs.Callers.{noted_append}
use Rattle.script_rules.proofs.uses.+using_names.Goals as goal

pub note_expression-returns-in-Call-clause-found : goal.note_expression-returns-in-Call-clause-found
note_expression-returns-in-Call-clause-found t c = rw (← c.expression.view_is, c.in-Call.is, ← c.deref-in-Call.ensures, ← c.as_slice-in-Call.ensures.value) c.note_call.ensures.found

pub note_expression-returns-else-in_target-clause-found : goal.note_expression-returns-else-in_target-clause-found
note_expression-returns-else-in_target-clause-found t c =
    rw (← c.expression.view_is, c.in-Assign.is, ← c.deref-in-Assign.ensures, ← c.deref-in-Assign-2.ensures, ← c.in_ok-in_target-in-Assign.ensures.found, c.if-in_target.false)
    c.in_ok-in_value-in-Assign.ensures.found

pub note_expression-returns-else-in_callee-clause-found : goal.note_expression-returns-else-in_callee-clause-found
note_expression-returns-else-in_callee-clause-found t c =
    rw (← c.expression.view_is, c.in-New.is, ← c.deref-in-New.ensures, ← c.as_slice-in-New.ensures.value, ← c.in_ok-in_callee-in-New.ensures.found, c.if-in_callee.false)
    c.in_ok-in_arguments-in-New.ensures.found

pub note_expression-returns-else-in_condition-clause-found : goal.note_expression-returns-else-in_condition-clause-found
note_expression-returns-else-in_condition-clause-found t c =
    rw (← c.expression.view_is, c.in-Cond.is, ← c.deref-in-Cond.ensures, ← c.deref-in-Cond-2.ensures, ← c.deref-in-Cond-3.ensures, ← c.in_ok-in_condition-in-Cond.ensures.found, c.if-in_condition.false)
    c.in_ok-in_branches-in-Cond.ensures.found

pub note_expressions-loop-rest-preserved : goal.note_expressions-loop-rest-preserved
note_expressions-loop-rest-preserved t c = record {
  uses = grind (arith, common_steps, noted_append);
  left = first_of (search (rules, expressions_step), grind (arith, expressions_step));
  inside = grind (arith, common_steps);
}

pub note_statement-returns-in-If-clause-found : goal.note_statement-returns-in-If-clause-found
note_statement-returns-in-If-clause-found t c = rw (← c.statement.view_is, c.in-If.is, ← c.deref-in-If.ensures) c.note_if.ensures.found

pub note_statement-returns-else-in_body-clause-found : goal.note_statement-returns-else-in_body-clause-found
note_statement-returns-else-in_body-clause-found t c =
    rw (← c.statement.view_is, c.in-Do.is, ← c.as_slice-in-Do.ensures.value, ← c.deref-in-Do.ensures, ← c.in_ok-in_body-in-Do.ensures.found, c.if-in_body.false) c.in_ok-in_value-in-Do.ensures.found

pub note_statement-returns-else-in_value-clause-found : goal.note_statement-returns-else-in_value-clause-found
note_statement-returns-else-in_value-clause-found t c =
    rw (← c.statement.view_is, c.in-While.is, ← c.deref-in-While.ensures, ← c.as_slice-in-While.ensures.value, ← c.in_ok-in_value-in-While.ensures.found, c.if-in_value.false)
    c.in_ok-in_body-in-While.ensures.found

pub note_statement-returns-else-in_subject-clause-found : goal.note_statement-returns-else-in_subject-clause-found
note_statement-returns-else-in_subject-clause-found t c =
    rw (← c.statement.view_is, c.in-Switch.is, ← c.deref-in-Switch.ensures, ← c.as_slice-in-Switch.ensures.value, ← c.in_ok-in_subject-in-Switch.ensures.found, c.if-in_subject.false)
    c.in_ok-in_cases-in-Switch.ensures.found

pub note_statement-returns-in-For-clause-found : goal.note_statement-returns-in-For-clause-found
note_statement-returns-in-For-clause-found t c = rw (← c.statement.view_is, c.in-For.is, ← c.deref-in-For.ensures) c.note_for.ensures.found

pub note_statement-returns-in-ForIn-clause-found : goal.note_statement-returns-in-ForIn-clause-found
note_statement-returns-in-ForIn-clause-found t c = rw (← c.statement.view_is, c.in-ForIn.is, ← c.deref-in-ForIn.ensures, ← c.deref-in-ForIn-2.ensures, ← c.as_slice-in-ForIn.ensures.value) c.note_for_in.ensures.found

pub note_statement-returns-in-Try-clause-found : goal.note_statement-returns-in-Try-clause-found
note_statement-returns-in-Try-clause-found t c = rw (← c.statement.view_is, c.in-Try.is, ← c.deref-in-Try.ensures) c.note_try.ensures.found

pub note_statements-loop-rest-preserved : goal.note_statements-loop-rest-preserved
note_statements-loop-rest-preserved t c = record {
  uses = grind (arith, common_steps, noted_append);
  left = first_of (search (rules, statements_step), grind (arith, statements_step));
  inside = grind (arith, common_steps);
}

pub note_expression-returns-in-Index-clause-found : goal.note_expression-returns-in-Index-clause-found
note_expression-returns-in-Index-clause-found t c = rw (← c.expression.view_is, c.in-Index.is, ← c.deref-in-Index.ensures, ← c.deref-in-Index-2.ensures) c.note_both.ensures.found

pub note_expression-returns-in-Binary-clause-found : goal.note_expression-returns-in-Binary-clause-found
note_expression-returns-in-Binary-clause-found t c = rw (← c.expression.view_is, c.in-Binary.is, ← c.deref-in-Binary.ensures, ← c.deref-in-Binary-2.ensures) c.note_both-in-Binary.ensures.found

pub note_expression-returns-in-And-clause-found : goal.note_expression-returns-in-And-clause-found
note_expression-returns-in-And-clause-found t c = rw (← c.expression.view_is, c.in-And.is, ← c.deref-in-And.ensures, ← c.deref-in-And-2.ensures) c.note_both-in-And.ensures.found

pub note_expression-returns-in-Or-clause-found : goal.note_expression-returns-in-Or-clause-found
note_expression-returns-in-Or-clause-found t c = rw (← c.expression.view_is, c.in-Or.is, ← c.deref-in-Or.ensures, ← c.deref-in-Or-2.ensures) c.note_both-in-Or.ensures.found

pub note_cases-loop-rest-preserved-then-in_label : goal.note_cases-loop-rest-preserved-then-in_label
note_cases-loop-rest-preserved-then-in_label t c = record {
  uses = grind (arith, common_steps, noted_append);
  left = first_of (search rules, grind (arith, common_steps));
  inside = grind (arith, common_steps);
}

pub note_cases-loop-rest-preserved : goal.note_cases-loop-rest-preserved
note_cases-loop-rest-preserved t c = record {
  uses = grind (arith, common_steps, noted_append);
  left = first_of (search (rules, cases_step), grind (arith, cases_step));
  inside = grind (arith, common_steps);
}

pub note_declarators-loop-rest-preserved-then-found : goal.note_declarators-loop-rest-preserved-then-found
note_declarators-loop-rest-preserved-then-found t c = record {
  uses = grind (arith, common_steps, noted_append);
  left = first_of (search rules, grind (arith, common_steps));
  inside = grind (arith, common_steps);
}

pub note_declarators-loop-rest-preserved : goal.note_declarators-loop-rest-preserved
note_declarators-loop-rest-preserved t c = record {
  uses = grind (arith, common_steps, noted_append);
  left = first_of (search rules, grind (arith, common_steps));
  inside = grind (arith, common_steps);
}

pub note_elements-loop-rest-preserved-then-found : goal.note_elements-loop-rest-preserved-then-found
note_elements-loop-rest-preserved-then-found t c = record {
  uses = grind (arith, common_steps, noted_append);
  left = first_of (search rules, grind (arith, common_steps));
  inside = grind (arith, common_steps);
}

pub note_elements-loop-rest-preserved : goal.note_elements-loop-rest-preserved
note_elements-loop-rest-preserved t c = record {
  uses = grind (arith, common_steps, noted_append);
  left = first_of (search rules, grind (arith, common_steps));
  inside = grind (arith, common_steps);
}

pub note_expressions-loop-rest-preserved-then-found : goal.note_expressions-loop-rest-preserved-then-found
note_expressions-loop-rest-preserved-then-found t c = record {
  uses = grind (arith, common_steps, noted_append);
  left = first_of (search rules, grind (arith, common_steps));
  inside = grind (arith, common_steps);
}

pub note_fields-loop-rest-preserved-then-found : goal.note_fields-loop-rest-preserved-then-found
note_fields-loop-rest-preserved-then-found t c = record {
  uses = grind (arith, common_steps, noted_append);
  left = first_of (search rules, grind (arith, common_steps));
  inside = grind (arith, common_steps);
}

pub note_fields-loop-rest-preserved : goal.note_fields-loop-rest-preserved
note_fields-loop-rest-preserved t c = record {
  uses = grind (arith, common_steps, noted_append);
  left = first_of (search rules, grind (arith, common_steps));
  inside = grind (arith, common_steps);
}

pub note_statements-loop-rest-preserved-then-found : goal.note_statements-loop-rest-preserved-then-found
note_statements-loop-rest-preserved-then-found t c = record {
  uses = grind (arith, common_steps, noted_append);
  left = first_of (search rules, grind (arith, common_steps));
  inside = grind (arith, common_steps);
}
