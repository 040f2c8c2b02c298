-- An opened script: what its top statements and the functions that it declares there become.
use Rattle.std.proofs.Common.{◌≡◌, refl, ◌∙◌, ℕ, ◌+◌, Bool, true, false, List, Option, None}
use Rattle.std.proofs.lemmas.Bool.{or_from, or_parts}
use Rattle.js_core.specs.Tree as tree
use Rattle.js_core.specs.Tree.{code, func, function, no_stmts, then_stmt, var, expr, empty, block, if_else, do_while, while, for, for_in, continue, break, return, throw, try, switch, name, no_declarators, then_declarator, no_expr, one_expr, no_init, init_var, init_expr, no_exprs, then_expr}
use Rattle.js_grammar.specs.Syntax.{AreStmts}
use Rattle.early_rules.specs.declared.jump.Jump.{Jump}
use Rattle.early_rules.specs.EarlyRules.{declares_global, redeclares_global}
use Rattle.script_rules.specs.Form.{has_inner_declaration}
use Rattle.early_rules.specs.FormNodes.{is_declaration}
use Rattle.early_rules.specs.Jumps.{leaves}
use Rattle.scope_analysis.specs.Names.{bound_names, declared_names, is_among, maybe_name, stmt_names}
use Rattle.scope_analysis.specs.Nodes.{Node, stmt_any, stmts_any, statement}
use Rattle.scope_analysis.specs.Uses.{Use, leaving_function, stmt_uses, stmts_uses}
use Rattle.instrumenter.specs.Around.{append, next_number, valued_names}
use Rattle.instrumenter.specs.Counting.{stmt_scopes}
use Rattle.instrumenter.specs.Fields.{declaration_fields}
use Rattle.instrumenter.specs.Opening.{open_stmt, open_tops}
use Rattle.instrumenter.proofs.Each.{Each, each_both, each_parts}
use Rattle.instrumenter.proofs.FormScopes.{after}
use Rattle.instrumenter.proofs.Jumps.{leaves_append, or_same, stmt_jumps}
use Rattle.instrumenter.proofs.Leaving.{Leaving, Through, bound_after, declarations_inside, fields_inside, function_step, statements_inside, uses_append}
use Rattle.instrumenter.proofs.NodePieces.{KeptFunction, any_append, inner, inner_tests, kept, kept_declaration, object_nodes, opened_tests, top_node, valued_free}
use Rattle.instrumenter.proofs.NodeTests.{narrow, passes}
use Rattle.instrumenter.proofs.OnceNames.{fields_apart}
use Rattle.instrumenter.proofs.OpenedNames.{append_both, opening, stmt_from}
use Rattle.instrumenter.proofs.OpenedNodes.{declarations_nodes, none_named, stmt_nodes, stmts_nodes}
use Rattle.instrumenter.proofs.OpenedUses.{declarations_opened, stmt_opened, stmts_opened}

module _ (f : List ℕ → Option ℕ) (w : List ℕ → Bool) where
  -- ---- uses and names

  pub tops_uses : (P : Use → Type 0) (n : ℕ) (ss : tree.Stmts) → AreStmts true ss → Each (Through P f) (stmts_uses ss) → Each P (stmts_uses (open_tops (opening f w) n ss))
  tops_uses P n no_stmts is h = tt
  tops_uses P n (then_stmt (function (code x formals body)) ss) is h =
      let fields : List (List ℕ) = declaration_fields (code x formals body) in
      let parts = each_parts (Through P f) (leaving_function (bound_names (code x formals body)) (stmts_uses body)) (stmts_uses ss) h in
      let Q : Use → Type 0 = Leaving P (bound_after f n fields None x None formals body is.0.1.2) in
      let inside : List ℕ → Option ℕ = fields_inside f n fields None x formals body in
      each_both P _ _
      (function_step f n fields None x None formals body is.0.1.2 P (bound_names (code x formals body)) (λ y e. e) (λ y e. e)
      (declarations_opened Q inside (λ y. is_among y fields) (next_number fields n) body is.0.1.2)
      (stmts_opened Q inside (λ y. is_among y fields) (next_number fields n) true body is.0.1.2) parts.0)
      (tops_uses P (n + stmt_scopes (function (code x formals body))) ss is.1 parts.1)
  tops_uses P n (then_stmt s ss) is h =
      let parts = each_parts (Through P f) (stmt_uses s) (stmts_uses ss) h in
      rw (uses_append (open_stmt (opening f w) n s) (open_tops (opening f w) (n + stmt_scopes s) ss))
      (each_both P (stmts_uses (open_stmt (opening f w) n s)) (stmts_uses (open_tops (opening f w) (n + stmt_scopes s) ss)) (stmt_opened P f w n true s is.0 parts.0) (tops_uses P (n + stmt_scopes s) ss is.1 parts.1))

  pub tops_names : (P : List ℕ → Type 0) (n : ℕ) (ss : tree.Stmts) → Each P (declared_names ss) → Each P (declared_names (open_tops (opening f w) n ss))
  tops_names P n no_stmts h = tt
  tops_names P n (then_stmt (function (code x formals body)) ss) h =
      let parts = each_parts P (maybe_name x) (declared_names ss) h in
      each_both P (maybe_name x) (declared_names (open_tops (opening f w) (n + stmt_scopes (function (code x formals body))) ss)) parts.0
      (tops_names P (n + stmt_scopes (function (code x formals body))) ss parts.1)
  tops_names P n (then_stmt s ss) h =
      let parts = each_parts P (stmt_names s) (declared_names ss) h in
      append_both P (open_stmt (opening f w) n s) (open_tops (opening f w) (n + stmt_scopes s) ss)
      (stmt_from P f w n s parts.0) (tops_names P (n + stmt_scopes s) ss parts.1)

  -- ---- nodes

  function_nodes : (n : ℕ) (x : Option (List ℕ)) (formals : List (List ℕ)) (body : tree.Stmts) → AreStmts true body → KeptFunction x formals body → stmts_any kept body ≡ false
      → stmts_any inner (after f n None x formals body) ≡ false
  function_nodes n x formals body is facts h =
      let fields : List (List ℕ) = declaration_fields (code x formals body) in
      let inside : List ℕ → Option ℕ = fields_inside f n fields None x formals body in
      object_nodes n (valued_names None (code x formals body)) fields _ (valued_free None x formals body facts (λ y there. none_named x y there)) (fields_apart None x formals body)
      (any_append inner (declarations_inside f n fields None x formals body) (statements_inside f n fields None x formals body)
      (declarations_nodes inside (λ y. is_among y fields) (next_number fields n) body is h)
      (stmts_nodes inside (λ y. is_among y fields) (next_number fields n) true body is h))

  outer_fails : (m : Node) → inner m ≡ false → passes opened_tests m ≡ false
  outer_fails m e = (or_parts (is_declaration m) (passes opened_tests m) e).1

  outer : (ss : tree.Stmts) → stmts_any inner ss ≡ false → stmts_any (passes opened_tests) ss ≡ false
  outer ss h = narrow inner_tests (passes opened_tests) outer_fails ss h

  undeclared : (ss : tree.Stmts) → stmts_any inner ss ≡ false → stmts_any is_declaration ss ≡ false
  undeclared ss h = narrow inner_tests is_declaration (λ m e. (or_parts (is_declaration m) (passes opened_tests m) e).0) ss h

  pub tops_nodes : (n : ℕ) (ss : tree.Stmts) → AreStmts true ss → stmts_any kept ss ≡ false → stmts_any (passes opened_tests) (open_tops (opening f w) n ss) ≡ false
  tops_nodes n no_stmts is h = refl
  tops_nodes n (then_stmt (function (code x formals body)) ss) is h =
      let one : stmt_any kept (function (code x formals body)) ≡ false = (or_parts _ (stmts_any kept ss) h).0 in
      let rest : stmts_any kept body ≡ false = (or_parts (kept (statement (function (code x formals body)))) (stmts_any kept body) one).1 in
      let facts = kept_declaration x formals body one in
      or_from _ _
      (or_from (passes opened_tests (statement (function (code x formals (after f n None x formals body))))) (stmts_any (passes opened_tests) (after f n None x formals body))
      (top_node f n x formals body is.0.1.2 facts) (outer (after f n None x formals body) (function_nodes n x formals body is.0.1.2 facts rest)))
      (tops_nodes (n + stmt_scopes (function (code x formals body))) ss is.1 (or_parts (stmt_any kept (function (code x formals body))) (stmts_any kept ss) h).1)
  tops_nodes n (then_stmt s ss) is h =
      any_append (passes opened_tests) (open_stmt (opening f w) n s) (open_tops (opening f w) (n + stmt_scopes s) ss)
      (outer (open_stmt (opening f w) n s) (stmt_nodes f w n true s is.0 (or_parts (stmt_any kept s) (stmts_any kept ss) h).0))
      (tops_nodes (n + stmt_scopes s) ss is.1 (or_parts (stmt_any kept s) (stmts_any kept ss) h).1)

  declared_behind : (s t : tree.Stmts) → stmts_any is_declaration s ≡ false → has_inner_declaration t ≡ false → has_inner_declaration (append s t) ≡ false
  declared_behind no_stmts t h k = k
  declared_behind (then_stmt (function c) ss) t h k = cc h
  declared_behind (then_stmt s ss) t h k =
      or_from _ _ (or_parts (stmt_any is_declaration s) (stmts_any is_declaration ss) h).0
      (declared_behind ss t (or_parts (stmt_any is_declaration s) (stmts_any is_declaration ss) h).1 k)

  pub tops_declare : (n : ℕ) (ss : tree.Stmts) → AreStmts true ss → stmts_any kept ss ≡ false → has_inner_declaration (open_tops (opening f w) n ss) ≡ false
  tops_declare n no_stmts is h = refl
  tops_declare n (then_stmt (function (code x formals body)) ss) is h =
      let one : stmt_any kept (function (code x formals body)) ≡ false = (or_parts _ (stmts_any kept ss) h).0 in
      let rest : stmts_any kept body ≡ false = (or_parts (kept (statement (function (code x formals body)))) (stmts_any kept body) one).1 in
      or_from _ _ (undeclared (after f n None x formals body) (function_nodes n x formals body is.0.1.2 (kept_declaration x formals body one) rest))
      (tops_declare (n + stmt_scopes (function (code x formals body))) ss is.1 (or_parts (stmt_any kept (function (code x formals body))) (stmts_any kept ss) h).1)
  tops_declare n (then_stmt s ss) is h =
      declared_behind (open_stmt (opening f w) n s) (open_tops (opening f w) (n + stmt_scopes s) ss)
      (undeclared (open_stmt (opening f w) n s) (stmt_nodes f w n true s is.0 (or_parts (stmt_any kept s) (stmts_any kept ss) h).0))
      (tops_declare (n + stmt_scopes s) ss is.1 (or_parts (stmt_any kept s) (stmts_any kept ss) h).1)

  -- ---- jumps, and functions with global names

  pub tops_jumps : (j : Jump) (n : ℕ) (ss : tree.Stmts) → leaves j (open_tops (opening f w) n ss) ≡ leaves j ss
  tops_jumps j n no_stmts = refl
  tops_jumps j n (then_stmt (function (code x formals body)) ss) = tops_jumps j (n + stmt_scopes (function (code x formals body))) ss
  tops_jumps j n (then_stmt s ss) =
      leaves_append j (open_stmt (opening f w) n s) (open_tops (opening f w) (n + stmt_scopes s) ss)
      ∙ or_same (stmt_jumps j f w n s) (tops_jumps j (n + stmt_scopes s) ss)

  globals_behind : (s t : tree.Stmts) → stmts_any is_declaration s ≡ false → redeclares_global t ≡ false → redeclares_global (append s t) ≡ false
  globals_behind no_stmts t h k = k
  globals_behind (then_stmt (function c) ss) t h k = cc h
  globals_behind (then_stmt s ss) t h k = globals_behind ss t (or_parts (stmt_any is_declaration s) (stmts_any is_declaration ss) h).1 k

  pub tops_globals : (n : ℕ) (ss : tree.Stmts) → AreStmts true ss → stmts_any kept ss ≡ false → redeclares_global ss ≡ false → redeclares_global (open_tops (opening f w) n ss) ≡ false
  tops_globals n no_stmts is h k = refl
  tops_globals n (then_stmt (function (code x formals body)) ss) is h k =
      or_from _ _ (or_parts _ (redeclares_global ss) k).0
      (tops_globals (n + stmt_scopes (function (code x formals body))) ss is.1 (or_parts (stmt_any kept (function (code x formals body))) (stmts_any kept ss) h).1
      (or_parts (declares_global (function (code x formals body))) (redeclares_global ss) k).1)
  tops_globals n (then_stmt s ss) is h k =
      globals_behind (open_stmt (opening f w) n s) (open_tops (opening f w) (n + stmt_scopes s) ss)
      (undeclared (open_stmt (opening f w) n s) (stmt_nodes f w n true s is.0 (or_parts (stmt_any kept s) (stmts_any kept ss) h).0))
      (tops_globals (n + stmt_scopes s) ss is.1 (or_parts (stmt_any kept s) (stmts_any kept ss) h).1 (or_parts (declares_global s) (redeclares_global ss) k).1)
