-- What is left of the recursion of opening.
use Rattle.std.proofs.Common.{◌≡◌, ◌≤◌, ◌+◌, ◌∙◌, None, map, refl, sym, ap, arith}
use Rattle.std.proofs.lemmas.Grind.{common_steps}
use Rattle.std.specs.Rc.{rc_value}
use Rattle.js_core.specs.Height.{exprs_height, stmts_height}
use Rattle.js_core.specs.Tree as tree
use Rattle.js_core.specs.Tree.{code, exprs_of, fields_of, holes_of, maybe_expr, no_stmts, stmts_of, then_stmt}
use Rattle.js_core.specs.Views.{declarators_of, init_of, stmt_of}
use Rattle.scope_analysis.proofs.Callers.{next_of}
use Rattle.scope_analysis.specs.Names.{code_body}
use Rattle.instrumenter.specs.Around.{append, as_statements, assignments, callee, clause_object, in_clause, in_function, next_number, parameter, scope_object, valued_names, without_this}
use Rattle.instrumenter.specs.Counting.{count_of, stmts_scopes}
use Rattle.instrumenter.specs.Fields.{declaration_fields}
use Rattle.instrumenter.specs.Levels.{around_of}
use Rattle.instrumenter.specs.Opening.{open_declarators, open_expr, open_exprs, open_function, open_stmt, open_stmts, open_declarations}
use Rattle.instrumenter.proofs.Appended.{append_nothing, assigned_list, assigned_opened, called, declarator_list, declarators_opened, expr_list, exprs_opened, field_list, fields_opened, hole_list, holes_opened, number_behind}
use Rattle.instrumenter.proofs.Bodies.{clause_opened, declared_opened, func_opened, function_low, function_opened}
use Rattle.instrumenter.proofs.Low.{assignments_low, declarators_low}
use Rattle.instrumenter.proofs.Turns.{assignments_turn, cases_rest, cases_turn, changed_opened, declarations_turn, for_in_opened, for_opened, list_end, ok_is, on_any, on_ok, stmts_end, stmts_turn, undeclared}
use Rattle.instrumenter.proofs.+opening.Goals as goal

pub catches::open_clause-returns-clause-opened : goal.catches::open_clause-returns-clause-opened
catches::open_clause-returns-clause-opened t c =
    let a = around_of (map rc_value c.args.levels.now) in
    let n = c.args.next.now in
    let x = c.args.clause.now.name in
    let round : around_of (map rc_value c.as_slice-5.result.now) ≡ in_clause a n c.in_ok-fields.fields.items x =
    ap (λ z. around_of (map rc_value z)) c.as_slice-5.ensures.value ∙ c.in_ok-inner.ensures ∙ ap (λ z. in_clause a n z x) c.as_slice.ensures.value in
    let number : c.in_ok-next.field-0 ≡ next_number c.in_ok-fields.fields.items n =
    c.in_ok-next.ensures ∙ ap (λ z. next_number z n) c.as_slice-2.ensures.value in
    let name : c.in_ok-name.name ≡ parameter n c.in_ok-fields.fields.items x =
    c.in_ok-name.ensures ∙ ap (λ z. parameter n z x) c.as_slice-3.ensures.value in
    let object : stmts_of c.push_clause_object.new.out.items ≡ clause_object n c.in_ok-fields.fields.items no_stmts =
    c.in_ok-push_clause_object.ensures ∙ ap (λ z. append (stmts_of z) (clause_object n c.as_slice-4.result.now no_stmts)) c.new-body.ensures.items
    ∙ ap (λ z. clause_object n z no_stmts) c.as_slice-4.ensures.value in
    let rest : stmts_of c.push_statements.new.out.items
    ≡ append (stmts_of c.push_clause_object.new.out.items) (open_stmts (around_of (map rc_value c.as_slice-5.result.now)) c.in_ok-next.field-0 (stmts_of c.args.clause.now.body.items)) =
    c.in_ok-push_statements.ensures.opened
    ∙ ap (λ z. append (stmts_of c.push_clause_object.new.out.items) (open_stmts (around_of (map rc_value c.as_slice-5.result.now)) c.in_ok-next.field-0 (stmts_of z)))
    c.as_slice-6.ensures.value in
    clause_opened a _ n _ _ x _ (stmts_of c.args.clause.now.body.items) _ _ refl c.in_ok-fields.ensures round number name object rest

pub expressions::open_call-returns-clause-opened : goal.expressions::open_call-returns-clause-opened
expressions::open_call-returns-clause-opened t c =
    let ls = map rc_value c.args.levels.now in
    let f = c.args.callee.now in
    let boxed : c.in_ok-new.field-0.value ≡ c.in_ok-called.called = grind (arith, common_steps) in
    c.new-2.ensures
    ∙ ap (λ z. tree.call z (exprs_of c.in_ok-values.values.items))
    (boxed ∙ c.in_ok-called.ensures ∙ ap (λ z. without_this z c.in_ok-opened.opened) c.called_field.ensures
    ∙ sym (called ls f c.in_ok-opened.opened) ∙ ap (callee (around_of ls) f) c.in_ok-opened.ensures.opened)
    ∙ ap (tree.call (callee (around_of ls) f (open_expr (around_of ls) c.args.next.now f)))
    (c.in_ok-values.ensures.opened ∙ ap (λ k. open_exprs (around_of ls) k (exprs_of c.args.values.now)) c.in_ok-opened.ensures.counted)

pub expressions::open_elements-returns-clause-opened : goal.expressions::open_elements-returns-clause-opened
expressions::open_elements-returns-clause-opened t c =
    let a = around_of (map rc_value c.args.levels.now) in
    ap holes_of (list_end (hole_list a c.loop-rest.next) _ _ c.loop-rest.rest.now (omega arith) refl c.loop-rest.invariant.opened)
    ∙ holes_opened a c.args.next.now c.args.elements.now

pub expressions::open_expressions-returns-clause-opened : goal.expressions::open_expressions-returns-clause-opened
expressions::open_expressions-returns-clause-opened t c =
    let a = around_of (map rc_value c.args.levels.now) in
    ap exprs_of (list_end (expr_list a c.loop-rest.next) _ _ c.loop-rest.rest.now (omega arith) refl c.loop-rest.invariant.opened)
    ∙ exprs_opened a c.args.next.now c.args.expressions.now

pub expressions::open_fields-returns-clause-opened : goal.expressions::open_fields-returns-clause-opened
expressions::open_fields-returns-clause-opened t c =
    let a = around_of (map rc_value c.args.levels.now) in
    ap fields_of (list_end (field_list a c.loop-rest.next) _ _ c.loop-rest.rest.now (omega arith) refl c.loop-rest.invariant.opened)
    ∙ fields_opened a c.args.next.now c.args.fields.now

pub variables::open_declarators-returns-clause-opened : goal.variables::open_declarators-returns-clause-opened
variables::open_declarators-returns-clause-opened t c =
    let a = around_of (map rc_value c.args.levels.now) in
    ap declarators_of (list_end (declarator_list a c.loop-rest.next) _ _ c.loop-rest.rest.now (omega arith) refl c.loop-rest.invariant.opened)
    ∙ declarators_opened a c.args.next.now c.args.declarators.now

pub variables::open_initialisers-returns-clause-opened : goal.variables::open_initialisers-returns-clause-opened
variables::open_initialisers-returns-clause-opened t c =
    let a = around_of (map rc_value c.args.levels.now) in
    ap exprs_of (list_end (assigned_list a c.loop-rest.next) _ _ c.loop-rest.rest.now (omega arith) refl c.loop-rest.invariant.opened)
    ∙ assigned_opened a c.args.next.now c.args.declarators.now

pub functions::open_function-returns-clause-opened : goal.functions::open_function-returns-clause-opened
functions::open_function-returns-clause-opened t c =
    let a = around_of (map rc_value c.args.levels.now) in
    let n = c.args.next.now in
    let fields = c.args.fields.now in
    let own = c.args.own.now in
    let d = c.args.code.now in
    let ss = stmts_of c.as_slice-2.result.now in
    let inner = around_of (map rc_value c.as_slice.result.now) in
    let whole : code c.code.inside.name c.code.inside.formals.items ss ≡ d = grind (arith, common_steps) in
    let round : inner ≡ in_function a n fields own d = ap (λ z. around_of (map rc_value z)) c.as_slice.ensures.value ∙ c.in_ok-inner.ensures in
    let object : stmts_of c.push_scope_object.new.out.items ≡ scope_object n (valued_names own d) fields no_stmts =
    c.in_ok-push_scope_object.ensures ∙ ap (λ z. append (stmts_of z) (scope_object n (valued_names own d) fields no_stmts)) c.new-opened.ensures.items in
    let others : stmts_of c.push_body.new.others.items ≡ open_stmts inner c.in_ok-next.field-0 ss =
    c.in_ok-push_body.ensures.others ∙ ap (λ z. append (stmts_of z) (open_stmts inner c.in_ok-next.field-0 ss)) c.new-others.ensures.items in
    ap stmts_of c.in_ok-append.ensures.items
    ∙ function_opened a inner n c.in_ok-next.field-0 fields own d _ _ ss _ _ _ refl whole round c.in_ok-next.ensures object c.in_ok-push_body.ensures.declared others

pub functions::open_function-returns-clause-counted : goal.functions::open_function-returns-clause-counted
functions::open_function-returns-clause-counted t c =
    let body : stmts_of c.as_slice-2.result.now ≡ code_body c.args.code.now = grind (arith, common_steps) in
    let inside : stmts_scopes (stmts_of c.as_slice-2.result.now) ≡ stmts_scopes (code_body c.args.code.now) = ap stmts_scopes body in
    let own : c.in_ok-next.field-0 ≡ c.args.next.now + count_of c.args.fields.now = c.in_ok-next.ensures ∙ number_behind c.args.next.now c.args.fields.now in
    omega (arith, own, inside, c.in_ok-push_body.ensures.counted)

pub functions::open_function_expression-function-requires : goal.functions::open_function_expression-function-requires
functions::open_function_expression-function-requires t c =
    let a = around_of (map rc_value c.args.levels.now) in
    let low : stmts_height (open_function a c.args.next.now c.as_slice.result.now c.in_ok-own.own c.args.code.now) ≤ 401 =
    function_low a c.args.next.now c.as_slice.result.now c.in_ok-own.own c.args.code.now (c.as_slice.ensures.value ∙ c.in_ok-fields.ensures) (omega arith) in
    rw (c.in_ok-body.ensures.opened) (omega (arith, low))

pub functions::open_function_expression-returns-clause-opened : goal.functions::open_function_expression-returns-clause-opened
functions::open_function_expression-returns-clause-opened t c =
    let a = around_of (map rc_value c.args.levels.now) in
    let d = c.args.code.now in
    ok_is c.function.result (λ e. e)
    (func_opened a c.args.next.now d c.code.inside.name _ c.code.inside.formals.items c.as_slice-2.result.now c.in_ok-own.own c.as_slice.result.now
    _ _ refl c.code.view_is c.in_ok-same_name.ensures c.as_slice-2.ensures.value c.in_ok-own.ensures (c.as_slice.ensures.value ∙ c.in_ok-fields.ensures) c.in_ok-body.ensures.opened)
    c.function.ensures

pub functions::push_body-loop-rest-preserved : goal.functions::push_body-loop-rest-preserved
functions::push_body-loop-rest-preserved t c =
    let a = around_of (map rc_value c.args.levels.now) in
    let whole = next_of c.loop-rest.rest.now c.statement-item.result (omega arith) (grind (arith, common_steps)) in
    record {
      declared = declarations_turn a c.loop-rest.next _ _ _ _ _ _ _ whole c.in_ok-push_part.ensures.counted c.in_ok-push_part.ensures.declared c.loop-rest.invariant.declared;
      others = stmts_turn a c.loop-rest.next _ _ _ _ _ _ _ whole c.in_ok-push_part.ensures.counted c.in_ok-push_part.ensures.others c.loop-rest.invariant.others;
      counted = grind (arith, common_steps);
      low = grind (arith, common_steps);
      inside = grind (arith, common_steps);
    }

pub functions::push_body-returns-clause-declared : goal.functions::push_body-returns-clause-declared
functions::push_body-returns-clause-declared t c =
    let a = around_of (map rc_value c.args.levels.now) in
    stmts_end (λ z. open_declarations a c.loop-rest.next (stmts_of z)) _ _ c.loop-rest.rest.now (omega arith) refl c.loop-rest.invariant.declared

pub functions::push_body-returns-clause-others : goal.functions::push_body-returns-clause-others
functions::push_body-returns-clause-others t c =
    let a = around_of (map rc_value c.args.levels.now) in
    stmts_end (λ z. open_stmts a c.loop-rest.next (stmts_of z)) _ _ c.loop-rest.rest.now (omega arith) refl c.loop-rest.invariant.others

pub statements::push_statements-returns-clause-opened : goal.statements::push_statements-returns-clause-opened
statements::push_statements-returns-clause-opened t c =
    let a = around_of (map rc_value c.args.levels.now) in
    stmts_end (λ z. open_stmts a c.loop-rest.next (stmts_of z)) _ _ c.loop-rest.rest.now (omega arith) refl c.loop-rest.invariant.opened

pub variables::push_assignments-returns-clause-opened : goal.variables::push_assignments-returns-clause-opened
variables::push_assignments-returns-clause-opened t c =
    let a = around_of (map rc_value c.args.levels.now) in
    stmts_end (λ z. as_statements (assignments a (open_declarators a c.loop-rest.next (declarators_of z)))) _ _ c.loop-rest.rest.now (omega arith) refl c.loop-rest.invariant.opened

pub functions::push_declaration-function-requires : goal.functions::push_declaration-function-requires
functions::push_declaration-function-requires t c =
    let a = around_of (map rc_value c.args.levels.now) in
    let low : stmts_height (open_function a c.args.next.now (declaration_fields c.args.code.now) None c.args.code.now) ≤ 401 =
    function_low a c.args.next.now (declaration_fields c.args.code.now) None c.args.code.now refl (omega arith) in
    rw (c.in_ok-body.ensures.opened) (omega (arith, low))

pub functions::push_declaration-push_named_function-requires : goal.functions::push_declaration-push_named_function-requires
functions::push_declaration-push_named_function-requires t c =
    let a = around_of (map rc_value c.args.levels.now) in
    let low : stmts_height (open_function a c.args.next.now (declaration_fields c.args.code.now) None c.args.code.now) ≤ 401 =
    function_low a c.args.next.now (declaration_fields c.args.code.now) None c.args.code.now refl (omega arith) in
    rw (c.in_ok-value.ensures, c.in_ok-body.ensures.opened) (omega (arith, low))

pub functions::push_declaration-returns-clause-opened : goal.functions::push_declaration-returns-clause-opened
functions::push_declaration-returns-clause-opened t c =
    let a = around_of (map rc_value c.args.levels.now) in
    on_ok c.push_named_function.result _
    (ap (append (stmts_of c.args.out.now.items))
    (declared_opened a c.args.next.now c.args.code.now c.code.inside.name _ c.code.inside.formals.items c.as_slice.result.now _ _ _
    refl c.code.view_is refl c.as_slice.ensures.value c.in_ok-body.ensures.opened c.in_ok-value.ensures))
    c.push_named_function.ensures

pub functions::push_part-returns-in-Function-clause-declared : goal.functions::push_part-returns-in-Function-clause-declared
functions::push_part-returns-in-Function-clause-declared t c =
    rw (← c.statement.view_is, c.in-Function.is, ← c.deref.ensures) c.push_declaration.ensures.opened

pub functions::push_part-returns-in-Function-clause-others : goal.functions::push_part-returns-in-Function-clause-others
functions::push_part-returns-in-Function-clause-others t c =
    let a = around_of (map rc_value c.args.levels.now) in
    let e : tree.function c.in-Function.code.value ≡ c.args.statement.now = sym (ap stmt_of c.in-Function.is) ∙ c.statement.view_is in
    on_any c.push_declaration.result
    (sym (append_nothing (stmts_of c.args.others.now.items)) ∙ ap (λ s. append (stmts_of c.args.others.now.items) (open_stmt a c.args.next.now s)) e)

pub functions::push_part-returns-in_default : goal.functions::push_part-returns-in_default
functions::push_part-returns-in_default t c =
    let a = around_of (map rc_value c.args.levels.now) in
    let e : open_declarations a c.args.next.now (then_stmt c.args.statement.now no_stmts) ≡ no_stmts =
    undeclared a c.args.next.now c.statement.inside.node c.args.statement.now c.in_default.not-Function c.statement.view_is in
    record {
      declared = on_any c.push_statement.result (sym (append_nothing (stmts_of c.args.declared.now.items)) ∙ ap (append (stmts_of c.args.declared.now.items)) (sym e));
      others = c.push_statement.ensures.opened;
      counted = c.push_statement.ensures.counted;
    }

pub loops::push_for-returns-clause-opened : goal.loops::push_for-returns-clause-opened
loops::push_for-returns-clause-opened t c =
    let a = around_of (map rc_value c.args.levels.now) in
    let parts = c.in_ok-new.field-0.value in
    let boxed : parts ≡ record { init = c.in_ok-init.init; test = c.in_ok-test.test; step = c.in_ok-step.step; body = c.in_ok-body.body } =
    grind (arith, common_steps) in
    on_ok c.push_node.result _
    (for_opened a c.args.next.now c.open_init.new.next c.open_maybe_expression.new.next c.open_maybe_expression-2.new.next
    (init_of c.args.init.now) (init_of parts.init) (maybe_expr c.args.test.now) (maybe_expr parts.test)
    (maybe_expr c.args.step.now) (maybe_expr parts.step) (stmts_of c.args.body.now) (stmts_of parts.body.items)
    (stmts_of c.args.out.now.items) _ (ap (λ z. init_of z.init) boxed ∙ c.in_ok-init.ensures.opened) c.in_ok-init.ensures.counted
    (ap (λ z. maybe_expr z.test) boxed ∙ c.in_ok-test.ensures.opened) c.in_ok-test.ensures.counted
    (ap (λ z. maybe_expr z.step) boxed ∙ c.in_ok-step.ensures.opened) c.in_ok-step.ensures.counted
    (ap (λ z. stmts_of z.body.items) boxed ∙ c.in_ok-body.ensures.opened) c.in_ok-push_names_before.ensures)
    c.push_node.ensures

pub loops::push_for_in-returns-clause-opened : goal.loops::push_for_in-returns-clause-opened
loops::push_for_in-returns-clause-opened t c =
    let a = around_of (map rc_value c.args.levels.now) in
    let target : c.in_ok-new.field-0.value ≡ c.in_ok-target.target = grind (arith, common_steps) in
    let object : c.in_ok-new-2.field-0.value ≡ c.in_ok-object.object = grind (arith, common_steps) in
    on_ok c.push_node.result _
    (for_in_opened a c.args.next.now c.open_expression.new.next c.open_expression-2.new.next c.args.declared c.stays_declared-declared.result
    c.args.target.now c.in_ok-new.field-0.value c.args.object.now c.in_ok-new-2.field-0.value (stmts_of c.args.body.now)
    (stmts_of c.in_ok-body.body.items) (stmts_of c.args.out.now.items) _ c.stays_declared-declared.ensures
    (target ∙ c.in_ok-target.ensures.opened) c.in_ok-target.ensures.counted (object ∙ c.in_ok-object.ensures.opened)
    c.in_ok-object.ensures.counted c.in_ok-body.ensures.opened c.in_ok-push_name_before.ensures)
    c.push_node.ensures

pub statements::open_cases-loop-rest-preserved : goal.statements::open_cases-loop-rest-preserved
statements::open_cases-loop-rest-preserved t c =
    let a = around_of (map rc_value c.args.levels.now) in
    let whole = next_of c.loop-rest.rest.now c.case-item.result (omega arith) (grind (arith, common_steps)) in
    let body : stmts_of c.in_ok-body.body.items ≡ open_stmts a c.open_maybe_expression.new.next (stmts_of c.case-item.result.body.items) =
    c.in_ok-body.ensures.opened ∙ ap (λ z. open_stmts a c.open_maybe_expression.new.next (stmts_of z)) c.as_slice.ensures.value in
    let counted : c.open_statements.new.next ≡ c.open_maybe_expression.new.next + stmts_scopes (stmts_of c.case-item.result.body.items) =
    c.in_ok-body.ensures.counted ∙ ap (λ z. c.open_maybe_expression.new.next + stmts_scopes (stmts_of z)) c.as_slice.ensures.value in
    record {
      opened = cases_turn a c.loop-rest.next _ _ _ _ _ _ _ _ _ whole c.in_ok-test.ensures.opened body c.in_ok-test.ensures.counted counted c.in_ok-push.ensures.items c.loop-rest.invariant.opened;
      counted = grind (arith, common_steps);
      low = grind (arith, common_steps);
      inside = grind (arith, common_steps);
    }

pub statements::open_cases-returns-clause-opened : goal.statements::open_cases-returns-clause-opened
statements::open_cases-returns-clause-opened t c =
    let a = around_of (map rc_value c.args.levels.now) in
    cases_rest a c.loop-rest.next _ _ c.loop-rest.rest.now (omega arith) c.loop-rest.invariant.opened

pub statements::push_statements-loop-rest-preserved : goal.statements::push_statements-loop-rest-preserved
statements::push_statements-loop-rest-preserved t c =
    let a = around_of (map rc_value c.args.levels.now) in
    let whole = next_of c.loop-rest.rest.now c.statement-item.result (omega arith) (grind (arith, common_steps)) in
    record {
      opened = stmts_turn a c.loop-rest.next _ _ _ _ _ _ _ whole c.in_ok-push_statement.ensures.counted c.in_ok-push_statement.ensures.opened c.loop-rest.invariant.opened;
      counted = grind (arith, common_steps);
      low = grind (arith, common_steps);
      inside = grind (arith, common_steps);
    }

pub variables::open_header-as_init-requires : goal.variables::open_header-as_init-requires
variables::open_header-as_init-requires t c =
    let a = around_of (map rc_value c.args.levels.now) in
    let low : exprs_height (assignments a (open_declarators a c.args.next.now (declarators_of c.args.declarators.now))) ≤ 400 =
    assignments_low a c.args.next.now (declarators_of c.args.declarators.now) c.requires in
    rw (c.in_ok-assignments.ensures.opened) (omega (arith, low))

pub variables::push_assignments-loop-rest-preserved : goal.variables::push_assignments-loop-rest-preserved
variables::push_assignments-loop-rest-preserved t c =
    let a = around_of (map rc_value c.args.levels.now) in
    let whole = next_of c.loop-rest.rest.now c.declarator-item.result (omega arith) (grind (arith, common_steps)) in
    record {
      opened = assignments_turn a c.loop-rest.next _ _ _ _ _ _ _ whole c.in_ok-push_initialiser.ensures.counted c.in_ok-push_initialiser.ensures.opened c.loop-rest.invariant.opened;
      counted = grind (arith, common_steps);
      low = grind (arith, common_steps);
      inside = grind (arith, common_steps);
    }

pub variables::push_variables-returns-then-is_changed-clause-opened : goal.variables::push_variables-returns-then-is_changed-clause-opened
variables::push_variables-returns-then-is_changed-clause-opened t c =
    let a = around_of (map rc_value c.args.levels.now) in
    on_ok c.push_assignments.result _
    (changed_opened a (declarators_of c.args.declarators.now) (open_declarators a c.args.next.now (declarators_of c.args.declarators.now)) (stmts_of c.args.out.now.items) _ (sym c.is_changed.ensures ∙ c.if-is_changed.true) c.in_ok-push_plain_names.ensures)
    c.push_assignments.ensures.opened

pub variables::push_variables-push_node-requires : goal.variables::push_variables-push_node-requires
variables::push_variables-push_node-requires t c =
    let a = around_of (map rc_value c.args.levels.now) in
    rw (c.in_ok-declarators.ensures.opened) (omega (arith, declarators_low a c.args.next.now (declarators_of c.args.declarators.now) (omega arith)))
