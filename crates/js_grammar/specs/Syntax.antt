-- Which trees some tokens have: rules on trees alone (sections 7.6, 11 to 14). Every part of such a tree is one, too.
use Rattle.std.specs.Prelude.{ℕ, Bool, true, false, not, ◌&&◌, IsTrue, List, Option, Some, None}
use Rattle.std.specs.List.{list_all}
use Rattle.js_core.specs.Spelling.{is_reserved_word}
use Rattle.js_core.specs.Tree as tree
use Rattle.js_core.specs.Tree.{name, num, text, bool, null, this, list, literal, func, member, index, call, construct, unary, update, binary, logical_and, logical_or, conditional, assign, comma, no_exprs, then_expr, no_expr, one_expr, no_holes, then_hole, no_fields, then_field, code, var, function, expr, empty, block, if_else, do_while, while, for, for_in, continue, break, return, throw, try, switch, no_stmts, then_stmt, no_body, one_body, no_declarators, then_declarator, no_init, init_var, init_expr, no_catch, one_catch, no_cases, then_case}
use Rattle.js_core.specs.declared.operators.BinaryOp.{BinaryOp}
use Rattle.js_core.specs.declared.operators.BinaryOp.TheVariants as op
use Rattle.js_core.specs.declared.token.TokenKind.TheVariants.{Word, Number, Text}
use Rattle.js_lexer.specs.Written.{can_be_written}

-- an identifier: an identifier name that is not reserved
abbrev pub is_identifier : List ℕ → Bool
is_identifier w = can_be_written (Word w) && not (is_reserved_word w)

-- the name of a function, if it has one
abbrev pub is_maybe_identifier : Option (List ℕ) → Bool
is_maybe_identifier None = true
is_maybe_identifier (Some w) = is_identifier w

-- two expressions or more
abbrev pub are_several : tree.Exprs → Bool
are_several (then_expr a (then_expr b es)) = true
are_several es = false

-- one declarator or more
abbrev pub are_some : tree.Declarators → Bool
are_some no_declarators = false
are_some (then_declarator w e ds) = true

-- `=`, or an operator that assigns
abbrev pub assigns : Option BinaryOp → Bool
assigns None = true
assigns (Some op.Mul) = true
assigns (Some op.Div) = true
assigns (Some op.Rem) = true
assigns (Some op.Add) = true
assigns (Some op.Sub) = true
assigns (Some op.Shl) = true
assigns (Some op.Shr) = true
assigns (Some op.Ushr) = true
assigns (Some op.BitAnd) = true
assigns (Some op.BitXor) = true
assigns (Some op.BitOr) = true
assigns f = false

-- a function with a name
abbrev pub is_named : tree.Code → Bool
is_named (code None formals body) = false
is_named (code (Some w) formals body) = true

-- what `for` and `in` assign: after `var` it is a name
abbrev pub is_target : Bool → tree.Expr → Bool
is_target true (name w) = true
is_target true a = false
is_target false a = true

-- a `try` has a `catch` or a `finally`
abbrev pub is_handled : tree.MaybeCatch → tree.MaybeStmts → Bool
is_handled no_catch no_body = false
is_handled c l = true

abbrev pub has_default : tree.Cases → Bool
has_default no_cases = false
has_default (then_case no_expr ss cs) = true
has_default (then_case (one_expr e) ss cs) = has_default cs

-- no second clause is `default`
abbrev pub has_one_default : tree.Cases → Bool
has_one_default no_cases = true
has_one_default (then_case no_expr ss cs) = not (has_default cs)
has_one_default (then_case (one_expr e) ss cs) = has_one_default cs

abbrev mutual
  pub IsExpr : tree.Expr → Type 0
  IsExpr (name w) = IsTrue (is_identifier w)
  IsExpr (num n) = IsTrue (can_be_written (Number n))
  IsExpr (text t) = IsTrue (can_be_written (Text t))
  IsExpr (bool b) = Unit {0}
  IsExpr null = Unit {0}
  IsExpr this = Unit {0}
  IsExpr (list es) = AreHoles es
  IsExpr (literal fs) = AreFields fs
  IsExpr (func c) = IsCode c
  -- behind a point stands any word, in brackets any expression
  IsExpr (member a w) = IsExpr a × IsTrue (can_be_written (Word w))
  IsExpr (index a b) = IsExpr a × IsExpr b
  IsExpr (call f es) = IsExpr f × AreExprs es
  IsExpr (construct f es) = IsExpr f × AreExprs es
  IsExpr (unary f a) = IsExpr a
  IsExpr (update up prefix a) = IsExpr a
  IsExpr (binary f a b) = IsExpr a × IsExpr b
  IsExpr (logical_and a b) = IsExpr a × IsExpr b
  IsExpr (logical_or a b) = IsExpr a × IsExpr b
  IsExpr (conditional a b c) = IsExpr a × IsExpr b × IsExpr c
  IsExpr (assign f a b) = IsTrue (assigns f) × IsExpr a × IsExpr b
  IsExpr (comma es) = IsTrue (are_several es) × AreExprs es

  pub AreExprs : tree.Exprs → Type 0
  AreExprs no_exprs = Unit {0}
  AreExprs (then_expr a es) = IsExpr a × AreExprs es

  pub IsMaybeExpr : tree.MaybeExpr → Type 0
  IsMaybeExpr no_expr = Unit {0}
  IsMaybeExpr (one_expr a) = IsExpr a

  pub AreHoles : tree.Holes → Type 0
  AreHoles no_holes = Unit {0}
  AreHoles (then_hole e es) = IsMaybeExpr e × AreHoles es

  -- any text names a property
  pub AreFields : tree.Fields → Type 0
  AreFields no_fields = Unit {0}
  AreFields (then_field w a fs) = IsTrue (can_be_written (Text w)) × IsExpr a × AreFields fs

  pub IsCode : tree.Code → Type 0
  IsCode (code own formals body) = IsTrue (is_maybe_identifier own) × IsTrue (list_all is_identifier formals) × AreStmts true body

  -- Functions are declared where the Boolean is true, at the top of a script or of a function's body, alone.
  pub IsStmt : Bool → tree.Stmt → Type 0
  IsStmt top (var ds) = IsTrue (are_some ds) × AreDeclarators ds
  IsStmt top (function c) = IsTrue (top && is_named c) × IsCode c
  IsStmt top (expr a) = IsExpr a
  IsStmt top empty = Unit {0}
  IsStmt top (block ss) = AreStmts false ss
  IsStmt top (if_else a ss b) = IsExpr a × AreStmts false ss × IsMaybeBody b
  IsStmt top (do_while ss a) = AreStmts false ss × IsExpr a
  IsStmt top (while a ss) = IsExpr a × AreStmts false ss
  IsStmt top (for i t s ss) = IsInit i × IsMaybeExpr t × IsMaybeExpr s × AreStmts false ss
  IsStmt top (for_in declared a o ss) = IsTrue (is_target declared a) × IsExpr a × IsExpr o × AreStmts false ss
  IsStmt top continue = Unit {0}
  IsStmt top break = Unit {0}
  IsStmt top (return e) = IsMaybeExpr e
  IsStmt top (throw a) = IsExpr a
  IsStmt top (try ss c l) = IsTrue (is_handled c l) × AreStmts false ss × IsMaybeCatch c × IsMaybeBody l
  IsStmt top (switch a cs) = IsExpr a × IsTrue (has_one_default cs) × AreCases cs

  pub AreStmts : Bool → tree.Stmts → Type 0
  AreStmts top no_stmts = Unit {0}
  AreStmts top (then_stmt s ss) = IsStmt top s × AreStmts top ss

  pub IsMaybeBody : tree.MaybeStmts → Type 0
  IsMaybeBody no_body = Unit {0}
  IsMaybeBody (one_body ss) = AreStmts false ss

  pub AreDeclarators : tree.Declarators → Type 0
  AreDeclarators no_declarators = Unit {0}
  AreDeclarators (then_declarator w e ds) = IsTrue (is_identifier w) × IsMaybeExpr e × AreDeclarators ds

  pub IsInit : tree.ForInit → Type 0
  IsInit no_init = Unit {0}
  IsInit (init_var ds) = IsTrue (are_some ds) × AreDeclarators ds
  IsInit (init_expr a) = IsExpr a

  pub IsMaybeCatch : tree.MaybeCatch → Type 0
  IsMaybeCatch no_catch = Unit {0}
  IsMaybeCatch (one_catch w ss) = IsTrue (is_identifier w) × AreStmts false ss

  pub AreCases : tree.Cases → Type 0
  AreCases no_cases = Unit {0}
  AreCases (then_case e ss cs) = IsMaybeExpr e × AreStmts false ss × AreCases cs

-- the tree of a script
abbrev pub IsSyntax : tree.Stmts → Type 0
IsSyntax script = AreStmts true script
