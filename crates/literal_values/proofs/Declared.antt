-- What a literal function declares is literal.
use Rattle.std.proofs.Common.{ℕ, Bool, true, false, List, [], ◌∷◌, ◌++◌}
use Rattle.js_core.specs.Tree as tree
use Rattle.js_core.specs.Tree.{name, code, var, function, expr, empty, block, if_else, do_while, while, for, for_in, continue, break, return, throw, try, switch, no_stmts, then_stmt, no_body, one_body, no_declarators, then_declarator, no_init, init_var, init_expr, no_catch, one_catch, no_cases, then_case}
use Rattle.code_table.specs.Declarations.{body_variables, case_variables, catch_variables, declarator_names, functions_of, init_names, stmt_variables, target_names, variables_of}
use Rattle.literal_values.specs.Trees.{LiteralBody, LiteralCases, LiteralCatch, LiteralDeclarators, LiteralDeclared, LiteralExpr, LiteralInit, LiteralStmt, LiteralStmts}
use Rattle.literal_values.proofs.Units.{name_text}
use Rattle.literal_values.specs.Values.{AreTexts}

pub texts_joined : (xs ys : List (List ℕ)) → AreTexts xs → AreTexts ys → AreTexts (xs ++ ys)
texts_joined [] ys h k = k
texts_joined (x ∷ xs) ys h k = (h.0, texts_joined xs ys h.1 k)

declarators_literal : (ds : tree.Declarators) → LiteralDeclarators ds → AreTexts (declarator_names ds)
declarators_literal no_declarators h = tt
declarators_literal (then_declarator x e ds) h = (name_text x h.0, declarators_literal ds h.2)

init_literal : (i : tree.ForInit) → LiteralInit i → AreTexts (init_names i)
init_literal no_init h = tt
init_literal (init_var ds) h = declarators_literal ds h
init_literal (init_expr a) h = tt

target_literal : (declared : Bool) (t : tree.Expr) → LiteralExpr t → AreTexts (target_names declared t)
target_literal true (name x) h = (name_text x h, tt)
target_literal true t h = tt
target_literal false t h = tt

mutual
  stmt_variables_literal : (s : tree.Stmt) → LiteralStmt s → AreTexts (stmt_variables s)
  stmt_variables_literal (var ds) h = declarators_literal ds h
  stmt_variables_literal (block ss) h = variables_literal ss h
  stmt_variables_literal (if_else e a b) h = texts_joined (variables_of a) (body_variables b) (variables_literal a h.1) (body_variables_literal b h.2)
  stmt_variables_literal (do_while a e) h = variables_literal a h.0
  stmt_variables_literal (while e a) h = variables_literal a h.1
  stmt_variables_literal (for i t s a) h = texts_joined (init_names i) (variables_of a) (init_literal i h.0) (variables_literal a h.3)
  stmt_variables_literal (for_in declared t e a) h = texts_joined (target_names declared t) (variables_of a) (target_literal declared t h.0) (variables_literal a h.2)
  stmt_variables_literal (try a c l) h =
      texts_joined (variables_of a) (catch_variables c ++ body_variables l) (variables_literal a h.0)
      (texts_joined (catch_variables c) (body_variables l) (catch_variables_literal c h.1) (body_variables_literal l h.2))
  stmt_variables_literal (switch e cs) h = case_variables_literal cs h.1
  stmt_variables_literal (function c) h = tt
  stmt_variables_literal (expr a) h = tt
  stmt_variables_literal empty h = tt
  stmt_variables_literal continue h = tt
  stmt_variables_literal break h = tt
  stmt_variables_literal (return e) h = tt
  stmt_variables_literal (throw a) h = tt

  pub variables_literal : (ss : tree.Stmts) → LiteralStmts ss → AreTexts (variables_of ss)
  variables_literal no_stmts h = tt
  variables_literal (then_stmt s ss) h = texts_joined (stmt_variables s) (variables_of ss) (stmt_variables_literal s h.0) (variables_literal ss h.1)

  body_variables_literal : (b : tree.MaybeStmts) → LiteralBody b → AreTexts (body_variables b)
  body_variables_literal no_body h = tt
  body_variables_literal (one_body ss) h = variables_literal ss h

  catch_variables_literal : (c : tree.MaybeCatch) → LiteralCatch c → AreTexts (catch_variables c)
  catch_variables_literal no_catch h = tt
  catch_variables_literal (one_catch x ss) h = variables_literal ss h.1

  case_variables_literal : (cs : tree.Cases) → LiteralCases cs → AreTexts (case_variables cs)
  case_variables_literal no_cases h = tt
  case_variables_literal (then_case e ss cs) h = texts_joined (variables_of ss) (case_variables cs) (variables_literal ss h.1) (case_variables_literal cs h.2)

pub functions_literal : (ss : tree.Stmts) → LiteralStmts ss → LiteralDeclared (functions_of ss)
functions_literal no_stmts h = tt
functions_literal (then_stmt (function (code x formals body)) ss) h = (h.0.0, (tt, h.0.1, h.0.2, h.0.3), functions_literal ss h.1)
functions_literal (then_stmt (var ds) ss) h = functions_literal ss h.1
functions_literal (then_stmt (block b) ss) h = functions_literal ss h.1
functions_literal (then_stmt (if_else e a b) ss) h = functions_literal ss h.1
functions_literal (then_stmt (do_while a e) ss) h = functions_literal ss h.1
functions_literal (then_stmt (while e a) ss) h = functions_literal ss h.1
functions_literal (then_stmt (for i t l a) ss) h = functions_literal ss h.1
functions_literal (then_stmt (for_in declared t e a) ss) h = functions_literal ss h.1
functions_literal (then_stmt (try a c l) ss) h = functions_literal ss h.1
functions_literal (then_stmt (switch e cs) ss) h = functions_literal ss h.1
functions_literal (then_stmt (expr a) ss) h = functions_literal ss h.1
functions_literal (then_stmt empty ss) h = functions_literal ss h.1
functions_literal (then_stmt continue ss) h = functions_literal ss h.1
functions_literal (then_stmt break ss) h = functions_literal ss h.1
functions_literal (then_stmt (return e) ss) h = functions_literal ss h.1
functions_literal (then_stmt (throw a) ss) h = functions_literal ss h.1
