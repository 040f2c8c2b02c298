-- How the logic stores a tree.
use Rattle.std.proofs.Common.{◌≡◌, ℕ, List, Option, ap, refl, sym, ◌∙◌, true≢false}
use Rattle.std.proofs.lemmas.Bool.{eq-eqb}
use Rattle.std.specs.Coded.{Coded, coded_ℕ, coded_ℤ, coded_bool, coded_list, coded_option}
use Rattle.std.specs.Prelude.{ℤ, IsTrue, not, ◌==◌}
use base.Stored.{Gv, gnil, gnum, gcons, num as number}
use Rattle.js_core.specs.declared.operators.BinaryOp.{BinaryOp}
use Rattle.js_core.specs.contracts.operators.UnaryOp as unary
use Rattle.js_core.specs.contracts.operators.BinaryOp as binary
use Rattle.js_core.specs.Tree.{Expr, Exprs, MaybeExpr, Holes, Fields, Code, Stmt, Stmts, MaybeStmts, Declarators, ForInit, MaybeCatch, Cases, name, num, text, bool, null, this, list, literal, func, member, index, call, construct, unary, update, binary, logical_and, logical_or, conditional, assign, comma, no_exprs, then_expr, no_expr, one_expr, no_holes, then_hole, no_fields, then_field, code, var, function, expr, empty, block, if_else, do_while, while, for, for_in, continue, break, return, throw, try, switch, no_stmts, then_stmt, no_body, one_body, no_declarators, then_declarator, no_init, init_var, init_expr, no_catch, one_catch, no_cases, then_case}

abbrev head : Gv → Gv
head gnil = gnil
head (gnum n) = gnil
head (gcons a b) = a

abbrev tail : Gv → Gv
tail gnil = gnil
tail (gnum n) = gnil
tail (gcons a b) = b

abbrev tag : Gv → ℕ
tag g = number (head g)

apart : (m n : ℕ) → IsTrue (not (m == n)) → m ≡ n → ⊥
apart m n d p = absurd (true≢false (sym d ∙ ap not (eq-eqb m n p)))

abbrev coded_text : Coded (List ℕ)
coded_text = coded_list coded_ℕ

abbrev coded_texts : Coded (List (List ℕ))
coded_texts = coded_list coded_text

abbrev coded_name : Coded (Option (List ℕ))
coded_name = coded_option coded_text

abbrev coded_whole : Coded (Option ℤ)
coded_whole = coded_option coded_ℤ

abbrev coded_op : Coded (Option BinaryOp)
coded_op = coded_option binary.the_row.coded

abbrev mutual
  pub of_expr : Expr → Gv
  of_expr (name a0) = gcons (gnum 0) (gcons (coded_text.code a0) gnil)
  of_expr (num a0) = gcons (gnum 1) (gcons (coded_whole.code a0) gnil)
  of_expr (text a0) = gcons (gnum 2) (gcons (coded_text.code a0) gnil)
  of_expr (bool a0) = gcons (gnum 3) (gcons (coded_bool.code a0) gnil)
  of_expr null = gcons (gnum 4) gnil
  of_expr this = gcons (gnum 5) gnil
  of_expr (list a0) = gcons (gnum 6) (gcons (of_holes a0) gnil)
  of_expr (literal a0) = gcons (gnum 7) (gcons (of_fields a0) gnil)
  of_expr (func a0) = gcons (gnum 8) (gcons (of_code a0) gnil)
  of_expr (member a0 a1) = gcons (gnum 9) (gcons (of_expr a0) (gcons (coded_text.code a1) gnil))
  of_expr (index a0 a1) = gcons (gnum 10) (gcons (of_expr a0) (gcons (of_expr a1) gnil))
  of_expr (call a0 a1) = gcons (gnum 11) (gcons (of_expr a0) (gcons (of_exprs a1) gnil))
  of_expr (construct a0 a1) = gcons (gnum 12) (gcons (of_expr a0) (gcons (of_exprs a1) gnil))
  of_expr (unary a0 a1) = gcons (gnum 13) (gcons (unary.the_row.coded.code a0) (gcons (of_expr a1) gnil))
  of_expr (update a0 a1 a2) = gcons (gnum 14) (gcons (coded_bool.code a0) (gcons (coded_bool.code a1) (gcons (of_expr a2) gnil)))
  of_expr (binary a0 a1 a2) = gcons (gnum 15) (gcons (binary.the_row.coded.code a0) (gcons (of_expr a1) (gcons (of_expr a2) gnil)))
  of_expr (logical_and a0 a1) = gcons (gnum 16) (gcons (of_expr a0) (gcons (of_expr a1) gnil))
  of_expr (logical_or a0 a1) = gcons (gnum 17) (gcons (of_expr a0) (gcons (of_expr a1) gnil))
  of_expr (conditional a0 a1 a2) = gcons (gnum 18) (gcons (of_expr a0) (gcons (of_expr a1) (gcons (of_expr a2) gnil)))
  of_expr (assign a0 a1 a2) = gcons (gnum 19) (gcons (coded_op.code a0) (gcons (of_expr a1) (gcons (of_expr a2) gnil)))
  of_expr (comma a0) = gcons (gnum 20) (gcons (of_exprs a0) gnil)

  pub of_exprs : Exprs → Gv
  of_exprs no_exprs = gcons (gnum 0) gnil
  of_exprs (then_expr a0 a1) = gcons (gnum 1) (gcons (of_expr a0) (gcons (of_exprs a1) gnil))

  pub of_maybe_expr : MaybeExpr → Gv
  of_maybe_expr no_expr = gcons (gnum 0) gnil
  of_maybe_expr (one_expr a0) = gcons (gnum 1) (gcons (of_expr a0) gnil)

  pub of_holes : Holes → Gv
  of_holes no_holes = gcons (gnum 0) gnil
  of_holes (then_hole a0 a1) = gcons (gnum 1) (gcons (of_maybe_expr a0) (gcons (of_holes a1) gnil))

  pub of_fields : Fields → Gv
  of_fields no_fields = gcons (gnum 0) gnil
  of_fields (then_field a0 a1 a2) = gcons (gnum 1) (gcons (coded_text.code a0) (gcons (of_expr a1) (gcons (of_fields a2) gnil)))

  pub of_code : Code → Gv
  of_code (code a0 a1 a2) = gcons (gnum 0) (gcons (coded_name.code a0) (gcons (coded_texts.code a1) (gcons (of_stmts a2) gnil)))

  pub of_stmt : Stmt → Gv
  of_stmt (var a0) = gcons (gnum 0) (gcons (of_declarators a0) gnil)
  of_stmt (function a0) = gcons (gnum 1) (gcons (of_code a0) gnil)
  of_stmt (expr a0) = gcons (gnum 2) (gcons (of_expr a0) gnil)
  of_stmt empty = gcons (gnum 3) gnil
  of_stmt (block a0) = gcons (gnum 4) (gcons (of_stmts a0) gnil)
  of_stmt (if_else a0 a1 a2) = gcons (gnum 5) (gcons (of_expr a0) (gcons (of_stmts a1) (gcons (of_maybe_stmts a2) gnil)))
  of_stmt (do_while a0 a1) = gcons (gnum 6) (gcons (of_stmts a0) (gcons (of_expr a1) gnil))
  of_stmt (while a0 a1) = gcons (gnum 7) (gcons (of_expr a0) (gcons (of_stmts a1) gnil))
  of_stmt (for a0 a1 a2 a3) = gcons (gnum 8) (gcons (of_for_init a0) (gcons (of_maybe_expr a1) (gcons (of_maybe_expr a2) (gcons (of_stmts a3) gnil))))
  of_stmt (for_in a0 a1 a2 a3) = gcons (gnum 9) (gcons (coded_bool.code a0) (gcons (of_expr a1) (gcons (of_expr a2) (gcons (of_stmts a3) gnil))))
  of_stmt continue = gcons (gnum 10) gnil
  of_stmt break = gcons (gnum 11) gnil
  of_stmt (return a0) = gcons (gnum 12) (gcons (of_maybe_expr a0) gnil)
  of_stmt (throw a0) = gcons (gnum 13) (gcons (of_expr a0) gnil)
  of_stmt (try a0 a1 a2) = gcons (gnum 14) (gcons (of_stmts a0) (gcons (of_maybe_catch a1) (gcons (of_maybe_stmts a2) gnil)))
  of_stmt (switch a0 a1) = gcons (gnum 15) (gcons (of_expr a0) (gcons (of_cases a1) gnil))

  pub of_stmts : Stmts → Gv
  of_stmts no_stmts = gcons (gnum 0) gnil
  of_stmts (then_stmt a0 a1) = gcons (gnum 1) (gcons (of_stmt a0) (gcons (of_stmts a1) gnil))

  pub of_maybe_stmts : MaybeStmts → Gv
  of_maybe_stmts no_body = gcons (gnum 0) gnil
  of_maybe_stmts (one_body a0) = gcons (gnum 1) (gcons (of_stmts a0) gnil)

  pub of_declarators : Declarators → Gv
  of_declarators no_declarators = gcons (gnum 0) gnil
  of_declarators (then_declarator a0 a1 a2) = gcons (gnum 1) (gcons (coded_text.code a0) (gcons (of_maybe_expr a1) (gcons (of_declarators a2) gnil)))

  pub of_for_init : ForInit → Gv
  of_for_init no_init = gcons (gnum 0) gnil
  of_for_init (init_var a0) = gcons (gnum 1) (gcons (of_declarators a0) gnil)
  of_for_init (init_expr a0) = gcons (gnum 2) (gcons (of_expr a0) gnil)

  pub of_maybe_catch : MaybeCatch → Gv
  of_maybe_catch no_catch = gcons (gnum 0) gnil
  of_maybe_catch (one_catch a0 a1) = gcons (gnum 1) (gcons (coded_text.code a0) (gcons (of_stmts a1) gnil))

  pub of_cases : Cases → Gv
  of_cases no_cases = gcons (gnum 0) gnil
  of_cases (then_case a0 a1 a2) = gcons (gnum 1) (gcons (of_maybe_expr a0) (gcons (of_stmts a1) (gcons (of_cases a2) gnil)))

mutual
  pub expr_inj : (x y : Expr) → of_expr x ≡ of_expr y → x ≡ y
  expr_inj (name a0) (name b0) p = λ i. name (coded_text.inj a0 b0 (ap (λ g. head (tail g)) p) i)
  expr_inj (num a0) (num b0) p = λ i. num (coded_whole.inj a0 b0 (ap (λ g. head (tail g)) p) i)
  expr_inj (text a0) (text b0) p = λ i. text (coded_text.inj a0 b0 (ap (λ g. head (tail g)) p) i)
  expr_inj (bool a0) (bool b0) p = λ i. bool (coded_bool.inj a0 b0 (ap (λ g. head (tail g)) p) i)
  expr_inj null null p = refl
  expr_inj this this p = refl
  expr_inj (list a0) (list b0) p = λ i. list (holes_inj a0 b0 (ap (λ g. head (tail g)) p) i)
  expr_inj (literal a0) (literal b0) p = λ i. literal (fields_inj a0 b0 (ap (λ g. head (tail g)) p) i)
  expr_inj (func a0) (func b0) p = λ i. func (code_inj a0 b0 (ap (λ g. head (tail g)) p) i)
  expr_inj (member a0 a1) (member b0 b1) p = λ i. member (expr_inj a0 b0 (ap (λ g. head (tail g)) p) i) (coded_text.inj a1 b1 (ap (λ g. head (tail (tail g))) p) i)
  expr_inj (index a0 a1) (index b0 b1) p = λ i. index (expr_inj a0 b0 (ap (λ g. head (tail g)) p) i) (expr_inj a1 b1 (ap (λ g. head (tail (tail g))) p) i)
  expr_inj (call a0 a1) (call b0 b1) p = λ i. call (expr_inj a0 b0 (ap (λ g. head (tail g)) p) i) (exprs_inj a1 b1 (ap (λ g. head (tail (tail g))) p) i)
  expr_inj (construct a0 a1) (construct b0 b1) p = λ i. construct (expr_inj a0 b0 (ap (λ g. head (tail g)) p) i) (exprs_inj a1 b1 (ap (λ g. head (tail (tail g))) p) i)
  expr_inj (unary a0 a1) (unary b0 b1) p = λ i. unary (unary.the_row.coded.inj a0 b0 (ap (λ g. head (tail g)) p) i) (expr_inj a1 b1 (ap (λ g. head (tail (tail g))) p) i)
  expr_inj (update a0 a1 a2) (update b0 b1 b2) p = λ i. update (coded_bool.inj a0 b0 (ap (λ g. head (tail g)) p) i) (coded_bool.inj a1 b1 (ap (λ g. head (tail (tail g))) p) i) (expr_inj a2 b2 (ap (λ g. head (tail (tail (tail g)))) p) i)
  expr_inj (binary a0 a1 a2) (binary b0 b1 b2) p = λ i. binary (binary.the_row.coded.inj a0 b0 (ap (λ g. head (tail g)) p) i) (expr_inj a1 b1 (ap (λ g. head (tail (tail g))) p) i) (expr_inj a2 b2 (ap (λ g. head (tail (tail (tail g)))) p) i)
  expr_inj (logical_and a0 a1) (logical_and b0 b1) p = λ i. logical_and (expr_inj a0 b0 (ap (λ g. head (tail g)) p) i) (expr_inj a1 b1 (ap (λ g. head (tail (tail g))) p) i)
  expr_inj (logical_or a0 a1) (logical_or b0 b1) p = λ i. logical_or (expr_inj a0 b0 (ap (λ g. head (tail g)) p) i) (expr_inj a1 b1 (ap (λ g. head (tail (tail g))) p) i)
  expr_inj (conditional a0 a1 a2) (conditional b0 b1 b2) p = λ i. conditional (expr_inj a0 b0 (ap (λ g. head (tail g)) p) i) (expr_inj a1 b1 (ap (λ g. head (tail (tail g))) p) i) (expr_inj a2 b2 (ap (λ g. head (tail (tail (tail g)))) p) i)
  expr_inj (assign a0 a1 a2) (assign b0 b1 b2) p = λ i. assign (coded_op.inj a0 b0 (ap (λ g. head (tail g)) p) i) (expr_inj a1 b1 (ap (λ g. head (tail (tail g))) p) i) (expr_inj a2 b2 (ap (λ g. head (tail (tail (tail g)))) p) i)
  expr_inj (comma a0) (comma b0) p = λ i. comma (exprs_inj a0 b0 (ap (λ g. head (tail g)) p) i)
  expr_inj x y p = absurd (apart (tag (of_expr x)) (tag (of_expr y)) refl (ap tag p))

  pub exprs_inj : (x y : Exprs) → of_exprs x ≡ of_exprs y → x ≡ y
  exprs_inj no_exprs no_exprs p = refl
  exprs_inj (then_expr a0 a1) (then_expr b0 b1) p = λ i. then_expr (expr_inj a0 b0 (ap (λ g. head (tail g)) p) i) (exprs_inj a1 b1 (ap (λ g. head (tail (tail g))) p) i)
  exprs_inj x y p = absurd (apart (tag (of_exprs x)) (tag (of_exprs y)) refl (ap tag p))

  pub maybe_expr_inj : (x y : MaybeExpr) → of_maybe_expr x ≡ of_maybe_expr y → x ≡ y
  maybe_expr_inj no_expr no_expr p = refl
  maybe_expr_inj (one_expr a0) (one_expr b0) p = λ i. one_expr (expr_inj a0 b0 (ap (λ g. head (tail g)) p) i)
  maybe_expr_inj x y p = absurd (apart (tag (of_maybe_expr x)) (tag (of_maybe_expr y)) refl (ap tag p))

  pub holes_inj : (x y : Holes) → of_holes x ≡ of_holes y → x ≡ y
  holes_inj no_holes no_holes p = refl
  holes_inj (then_hole a0 a1) (then_hole b0 b1) p = λ i. then_hole (maybe_expr_inj a0 b0 (ap (λ g. head (tail g)) p) i) (holes_inj a1 b1 (ap (λ g. head (tail (tail g))) p) i)
  holes_inj x y p = absurd (apart (tag (of_holes x)) (tag (of_holes y)) refl (ap tag p))

  pub fields_inj : (x y : Fields) → of_fields x ≡ of_fields y → x ≡ y
  fields_inj no_fields no_fields p = refl
  fields_inj (then_field a0 a1 a2) (then_field b0 b1 b2) p = λ i. then_field (coded_text.inj a0 b0 (ap (λ g. head (tail g)) p) i) (expr_inj a1 b1 (ap (λ g. head (tail (tail g))) p) i) (fields_inj a2 b2 (ap (λ g. head (tail (tail (tail g)))) p) i)
  fields_inj x y p = absurd (apart (tag (of_fields x)) (tag (of_fields y)) refl (ap tag p))

  pub code_inj : (x y : Code) → of_code x ≡ of_code y → x ≡ y
  code_inj (code a0 a1 a2) (code b0 b1 b2) p = λ i. code (coded_name.inj a0 b0 (ap (λ g. head (tail g)) p) i) (coded_texts.inj a1 b1 (ap (λ g. head (tail (tail g))) p) i) (stmts_inj a2 b2 (ap (λ g. head (tail (tail (tail g)))) p) i)

  pub stmt_inj : (x y : Stmt) → of_stmt x ≡ of_stmt y → x ≡ y
  stmt_inj (var a0) (var b0) p = λ i. var (declarators_inj a0 b0 (ap (λ g. head (tail g)) p) i)
  stmt_inj (function a0) (function b0) p = λ i. function (code_inj a0 b0 (ap (λ g. head (tail g)) p) i)
  stmt_inj (expr a0) (expr b0) p = λ i. expr (expr_inj a0 b0 (ap (λ g. head (tail g)) p) i)
  stmt_inj empty empty p = refl
  stmt_inj (block a0) (block b0) p = λ i. block (stmts_inj a0 b0 (ap (λ g. head (tail g)) p) i)
  stmt_inj (if_else a0 a1 a2) (if_else b0 b1 b2) p = λ i. if_else (expr_inj a0 b0 (ap (λ g. head (tail g)) p) i) (stmts_inj a1 b1 (ap (λ g. head (tail (tail g))) p) i) (maybe_stmts_inj a2 b2 (ap (λ g. head (tail (tail (tail g)))) p) i)
  stmt_inj (do_while a0 a1) (do_while b0 b1) p = λ i. do_while (stmts_inj a0 b0 (ap (λ g. head (tail g)) p) i) (expr_inj a1 b1 (ap (λ g. head (tail (tail g))) p) i)
  stmt_inj (while a0 a1) (while b0 b1) p = λ i. while (expr_inj a0 b0 (ap (λ g. head (tail g)) p) i) (stmts_inj a1 b1 (ap (λ g. head (tail (tail g))) p) i)
  stmt_inj (for a0 a1 a2 a3) (for b0 b1 b2 b3) p = λ i. for (for_init_inj a0 b0 (ap (λ g. head (tail g)) p) i) (maybe_expr_inj a1 b1 (ap (λ g. head (tail (tail g))) p) i) (maybe_expr_inj a2 b2 (ap (λ g. head (tail (tail (tail g)))) p) i) (stmts_inj a3 b3 (ap (λ g. head (tail (tail (tail (tail g))))) p) i)
  stmt_inj (for_in a0 a1 a2 a3) (for_in b0 b1 b2 b3) p = λ i. for_in (coded_bool.inj a0 b0 (ap (λ g. head (tail g)) p) i) (expr_inj a1 b1 (ap (λ g. head (tail (tail g))) p) i) (expr_inj a2 b2 (ap (λ g. head (tail (tail (tail g)))) p) i) (stmts_inj a3 b3 (ap (λ g. head (tail (tail (tail (tail g))))) p) i)
  stmt_inj continue continue p = refl
  stmt_inj break break p = refl
  stmt_inj (return a0) (return b0) p = λ i. return (maybe_expr_inj a0 b0 (ap (λ g. head (tail g)) p) i)
  stmt_inj (throw a0) (throw b0) p = λ i. throw (expr_inj a0 b0 (ap (λ g. head (tail g)) p) i)
  stmt_inj (try a0 a1 a2) (try b0 b1 b2) p = λ i. try (stmts_inj a0 b0 (ap (λ g. head (tail g)) p) i) (maybe_catch_inj a1 b1 (ap (λ g. head (tail (tail g))) p) i) (maybe_stmts_inj a2 b2 (ap (λ g. head (tail (tail (tail g)))) p) i)
  stmt_inj (switch a0 a1) (switch b0 b1) p = λ i. switch (expr_inj a0 b0 (ap (λ g. head (tail g)) p) i) (cases_inj a1 b1 (ap (λ g. head (tail (tail g))) p) i)
  stmt_inj x y p = absurd (apart (tag (of_stmt x)) (tag (of_stmt y)) refl (ap tag p))

  pub stmts_inj : (x y : Stmts) → of_stmts x ≡ of_stmts y → x ≡ y
  stmts_inj no_stmts no_stmts p = refl
  stmts_inj (then_stmt a0 a1) (then_stmt b0 b1) p = λ i. then_stmt (stmt_inj a0 b0 (ap (λ g. head (tail g)) p) i) (stmts_inj a1 b1 (ap (λ g. head (tail (tail g))) p) i)
  stmts_inj x y p = absurd (apart (tag (of_stmts x)) (tag (of_stmts y)) refl (ap tag p))

  pub maybe_stmts_inj : (x y : MaybeStmts) → of_maybe_stmts x ≡ of_maybe_stmts y → x ≡ y
  maybe_stmts_inj no_body no_body p = refl
  maybe_stmts_inj (one_body a0) (one_body b0) p = λ i. one_body (stmts_inj a0 b0 (ap (λ g. head (tail g)) p) i)
  maybe_stmts_inj x y p = absurd (apart (tag (of_maybe_stmts x)) (tag (of_maybe_stmts y)) refl (ap tag p))

  pub declarators_inj : (x y : Declarators) → of_declarators x ≡ of_declarators y → x ≡ y
  declarators_inj no_declarators no_declarators p = refl
  declarators_inj (then_declarator a0 a1 a2) (then_declarator b0 b1 b2) p = λ i. then_declarator (coded_text.inj a0 b0 (ap (λ g. head (tail g)) p) i) (maybe_expr_inj a1 b1 (ap (λ g. head (tail (tail g))) p) i) (declarators_inj a2 b2 (ap (λ g. head (tail (tail (tail g)))) p) i)
  declarators_inj x y p = absurd (apart (tag (of_declarators x)) (tag (of_declarators y)) refl (ap tag p))

  pub for_init_inj : (x y : ForInit) → of_for_init x ≡ of_for_init y → x ≡ y
  for_init_inj no_init no_init p = refl
  for_init_inj (init_var a0) (init_var b0) p = λ i. init_var (declarators_inj a0 b0 (ap (λ g. head (tail g)) p) i)
  for_init_inj (init_expr a0) (init_expr b0) p = λ i. init_expr (expr_inj a0 b0 (ap (λ g. head (tail g)) p) i)
  for_init_inj x y p = absurd (apart (tag (of_for_init x)) (tag (of_for_init y)) refl (ap tag p))

  pub maybe_catch_inj : (x y : MaybeCatch) → of_maybe_catch x ≡ of_maybe_catch y → x ≡ y
  maybe_catch_inj no_catch no_catch p = refl
  maybe_catch_inj (one_catch a0 a1) (one_catch b0 b1) p = λ i. one_catch (coded_text.inj a0 b0 (ap (λ g. head (tail g)) p) i) (stmts_inj a1 b1 (ap (λ g. head (tail (tail g))) p) i)
  maybe_catch_inj x y p = absurd (apart (tag (of_maybe_catch x)) (tag (of_maybe_catch y)) refl (ap tag p))

  pub cases_inj : (x y : Cases) → of_cases x ≡ of_cases y → x ≡ y
  cases_inj no_cases no_cases p = refl
  cases_inj (then_case a0 a1 a2) (then_case b0 b1 b2) p = λ i. then_case (maybe_expr_inj a0 b0 (ap (λ g. head (tail g)) p) i) (stmts_inj a1 b1 (ap (λ g. head (tail (tail g))) p) i) (cases_inj a2 b2 (ap (λ g. head (tail (tail (tail g)))) p) i)
  cases_inj x y p = absurd (apart (tag (of_cases x)) (tag (of_cases y)) refl (ap tag p))

abbrev pub coded_expr : Coded Expr
coded_expr = record { code = of_expr; inj = expr_inj }

abbrev pub coded_stmt : Coded Stmt
coded_stmt = record { code = of_stmt; inj = stmt_inj }

abbrev pub coded_stmts : Coded Stmts
coded_stmts = record { code = of_stmts; inj = stmts_inj }

abbrev pub coded_code : Coded Code
coded_code = record { code = of_code; inj = code_inj }
