-- The jumps that leave statements (ECMA-262 5.1 sections 8.9 and 12.7 to 12.9).
use Rattle.std.specs.Prelude.{Bool, true, false, ◌||◌, ◌&&◌}
use Rattle.js_core.specs.Tree as tree
use Rattle.js_core.specs.Tree.{name, num, text, bool, null, this, list, literal, func, member, index, call, construct, unary, update, binary, logical_and, logical_or, conditional, assign, comma, no_exprs, then_expr, no_expr, one_expr, no_holes, then_hole, no_fields, then_field, code, var, function, expr, empty, block, if_else, do_while, while, for, for_in, continue, break, return, throw, try, switch, no_stmts, then_stmt, no_body, one_body, no_declarators, then_declarator, no_init, init_var, init_expr, no_catch, one_catch, no_cases, then_case}
use Rattle.early_rules.specs.declared.jump.Jump.{Jump}
use Rattle.early_rules.specs.declared.jump.Jump.TheVariants as jump

abbrev pub is_return : Jump → Bool
is_return jump.Return = true
is_return jump.Break = false
is_return jump.Continue = false

abbrev pub is_break : Jump → Bool
is_break jump.Return = false
is_break jump.Break = true
is_break jump.Continue = false

abbrev pub is_continue : Jump → Bool
is_continue jump.Return = false
is_continue jump.Break = false
is_continue jump.Continue = true

-- whether a jump of this kind stands among these statements of a function, and not in a loop or, if it is a `break`, in
-- a `switch` among them; functions inside are not entered
abbrev mutual
  pub stmt_leaves : Jump → tree.Stmt → Bool
  stmt_leaves j (var ds) = false
  stmt_leaves j (function c) = false
  stmt_leaves j (expr e) = false
  stmt_leaves j empty = false
  stmt_leaves j (block ss) = leaves j ss
  stmt_leaves j (if_else e a b) = leaves j a || maybe_body_leaves j b
  stmt_leaves j (do_while body e) = is_return j && leaves j body
  stmt_leaves j (while e body) = is_return j && leaves j body
  stmt_leaves j (for i t s body) = is_return j && leaves j body
  stmt_leaves j (for_in declared t e body) = is_return j && leaves j body
  stmt_leaves j continue = is_continue j
  stmt_leaves j break = is_break j
  stmt_leaves j (return e) = is_return j
  stmt_leaves j (throw e) = false
  stmt_leaves j (try b c l) = leaves j b || (catch_leaves j c || maybe_body_leaves j l)
  stmt_leaves j (switch e cs) = (is_return j || is_continue j) && cases_leave j cs

  pub leaves : Jump → tree.Stmts → Bool
  leaves j no_stmts = false
  leaves j (then_stmt s ss) = stmt_leaves j s || leaves j ss

  pub maybe_body_leaves : Jump → tree.MaybeStmts → Bool
  maybe_body_leaves j no_body = false
  maybe_body_leaves j (one_body ss) = leaves j ss

  pub catch_leaves : Jump → tree.MaybeCatch → Bool
  catch_leaves j no_catch = false
  catch_leaves j (one_catch x ss) = leaves j ss

  pub cases_leave : Jump → tree.Cases → Bool
  cases_leave j no_cases = false
  cases_leave j (then_case e ss cs) = leaves j ss || cases_leave j cs

-- a `break` outside a loop or `switch`, or a `continue` outside a loop, of the statements' own function
abbrev pub strays : tree.Stmts → Bool
strays ss = leaves jump.Break ss || leaves jump.Continue ss
