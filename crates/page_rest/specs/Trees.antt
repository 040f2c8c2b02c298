-- Whether a tree keeps the rules on trees, as a test: the same rules, one by one, as those of the grammar (ECMA-262 5.1 sections 7.6, 11 to 14).
use Rattle.std.specs.Prelude.{Bool, true, false, ◌&&◌}
use Rattle.std.specs.List.{list_all}
use Rattle.js_core.specs.Tree as tree
use Rattle.js_core.specs.Tree.{name, num, text, bool, null, this, list, literal, func, member, index, call, construct, unary, update, binary, logical_and, logical_or, conditional, assign, comma, no_exprs, then_expr, no_expr, one_expr, no_holes, then_hole, no_fields, then_field, code, var, function, expr, empty, block, if_else, do_while, while, for, for_in, continue, break, return, throw, try, switch, no_stmts, then_stmt, no_body, one_body, no_declarators, then_declarator, no_init, init_var, init_expr, no_catch, one_catch, no_cases, then_case}
use Rattle.js_grammar.specs.Syntax.{are_several, are_some, assigns, has_one_default, is_handled, is_identifier, is_maybe_identifier, is_named, is_target}
use Rattle.js_lexer.specs.Written.{can_be_written}
use Rattle.js_core.specs.declared.token.TokenKind.TheVariants.{Number, Text, Word}

abbrev mutual
  pub keeps_expr : tree.Expr → Bool
  keeps_expr (name w) = is_identifier w
  keeps_expr (num n) = can_be_written (Number n)
  keeps_expr (text t) = can_be_written (Text t)
  keeps_expr (bool b) = true
  keeps_expr null = true
  keeps_expr this = true
  keeps_expr (list es) = keep_holes es
  keeps_expr (literal fs) = keep_fields fs
  keeps_expr (func c) = keeps_code c
  keeps_expr (member a w) = keeps_expr a && can_be_written (Word w)
  keeps_expr (index a b) = keeps_expr a && keeps_expr b
  keeps_expr (call f es) = keeps_expr f && keep_exprs es
  keeps_expr (construct f es) = keeps_expr f && keep_exprs es
  keeps_expr (unary f a) = keeps_expr a
  keeps_expr (update up prefix a) = keeps_expr a
  keeps_expr (binary f a b) = keeps_expr a && keeps_expr b
  keeps_expr (logical_and a b) = keeps_expr a && keeps_expr b
  keeps_expr (logical_or a b) = keeps_expr a && keeps_expr b
  keeps_expr (conditional a b c) = keeps_expr a && (keeps_expr b && keeps_expr c)
  keeps_expr (assign f a b) = assigns f && (keeps_expr a && keeps_expr b)
  keeps_expr (comma es) = are_several es && keep_exprs es

  pub keep_exprs : tree.Exprs → Bool
  keep_exprs no_exprs = true
  keep_exprs (then_expr a es) = keeps_expr a && keep_exprs es

  pub keeps_maybe : tree.MaybeExpr → Bool
  keeps_maybe no_expr = true
  keeps_maybe (one_expr a) = keeps_expr a

  pub keep_holes : tree.Holes → Bool
  keep_holes no_holes = true
  keep_holes (then_hole e es) = keeps_maybe e && keep_holes es

  pub keep_fields : tree.Fields → Bool
  keep_fields no_fields = true
  keep_fields (then_field w a fs) = can_be_written (Text w) && (keeps_expr a && keep_fields fs)

  pub keeps_code : tree.Code → Bool
  keeps_code (code own formals body) = is_maybe_identifier own && (list_all is_identifier formals && keep_stmts true body)

  pub keeps_stmt : Bool → tree.Stmt → Bool
  keeps_stmt top (var ds) = are_some ds && keep_declarators ds
  keeps_stmt top (function c) = (top && is_named c) && keeps_code c
  keeps_stmt top (expr a) = keeps_expr a
  keeps_stmt top empty = true
  keeps_stmt top (block ss) = keep_stmts false ss
  keeps_stmt top (if_else a ss b) = keeps_expr a && (keep_stmts false ss && keeps_body b)
  keeps_stmt top (do_while ss a) = keep_stmts false ss && keeps_expr a
  keeps_stmt top (while a ss) = keeps_expr a && keep_stmts false ss
  keeps_stmt top (for i t s ss) = keeps_init i && (keeps_maybe t && (keeps_maybe s && keep_stmts false ss))
  keeps_stmt top (for_in declared a o ss) = is_target declared a && (keeps_expr a && (keeps_expr o && keep_stmts false ss))
  keeps_stmt top continue = true
  keeps_stmt top break = true
  keeps_stmt top (return e) = keeps_maybe e
  keeps_stmt top (throw a) = keeps_expr a
  keeps_stmt top (try ss c l) = is_handled c l && (keep_stmts false ss && (keeps_catch c && keeps_body l))
  keeps_stmt top (switch a cs) = keeps_expr a && (has_one_default cs && keep_cases cs)

  pub keep_stmts : Bool → tree.Stmts → Bool
  keep_stmts top no_stmts = true
  keep_stmts top (then_stmt s ss) = keeps_stmt top s && keep_stmts top ss

  pub keeps_body : tree.MaybeStmts → Bool
  keeps_body no_body = true
  keeps_body (one_body ss) = keep_stmts false ss

  pub keep_declarators : tree.Declarators → Bool
  keep_declarators no_declarators = true
  keep_declarators (then_declarator w e ds) = is_identifier w && (keeps_maybe e && keep_declarators ds)

  pub keeps_init : tree.ForInit → Bool
  keeps_init no_init = true
  keeps_init (init_var ds) = are_some ds && keep_declarators ds
  keeps_init (init_expr a) = keeps_expr a

  pub keeps_catch : tree.MaybeCatch → Bool
  keeps_catch no_catch = true
  keeps_catch (one_catch w ss) = is_identifier w && keep_stmts false ss

  pub keep_cases : tree.Cases → Bool
  keep_cases no_cases = true
  keep_cases (then_case e ss cs) = keeps_maybe e && (keep_stmts false ss && keep_cases cs)
