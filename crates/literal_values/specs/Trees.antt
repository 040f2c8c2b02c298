-- Trees whose numbers and texts can be written: each number is one of the language, and so is the length of each text and list of formals.
use Rattle.std.specs.Prelude.{ℕ, ◌≤◌, List, [], ◌∷◌, length, Option, ⊤}
use Rattle.js_core.specs.Tree as tree
use Rattle.js_core.specs.Whole.{largest}
use Rattle.js_core.specs.Tree.{name, num, text, bool, null, this, list, literal, func, member, index, call, construct, unary, update, binary, logical_and, logical_or, conditional, assign, comma, no_exprs, then_expr, no_expr, one_expr, no_holes, then_hole, no_fields, then_field, code, var, function, expr, empty, block, if_else, do_while, while, for, for_in, continue, break, return, throw, try, switch, no_stmts, then_stmt, no_body, one_body, no_declarators, then_declarator, no_init, init_var, init_expr, no_catch, one_catch, no_cases, then_case}
use Rattle.literal_values.specs.Values.{AreTexts, IsName, IsNumber, IsText, MaybeText}

abbrev mutual
  pub LiteralExpr : tree.Expr → Type 0
  LiteralExpr (name x) = IsName x
  LiteralExpr (num n) = IsNumber n
  LiteralExpr (text t) = IsText t
  LiteralExpr (bool b) = ⊤
  LiteralExpr null = ⊤
  LiteralExpr this = ⊤
  LiteralExpr (list hs) = LiteralHoles hs
  LiteralExpr (literal fs) = LiteralFields fs
  LiteralExpr (func c) = LiteralCode c
  LiteralExpr (member a x) = LiteralExpr a × IsText x
  LiteralExpr (index a b) = LiteralExpr a × LiteralExpr b
  LiteralExpr (call f es) = LiteralExpr f × LiteralExprs es
  LiteralExpr (construct f es) = LiteralExpr f × LiteralExprs es
  LiteralExpr (unary op a) = LiteralExpr a
  LiteralExpr (update up prefix a) = LiteralExpr a
  LiteralExpr (binary op a b) = LiteralExpr a × LiteralExpr b
  LiteralExpr (logical_and a b) = LiteralExpr a × LiteralExpr b
  LiteralExpr (logical_or a b) = LiteralExpr a × LiteralExpr b
  LiteralExpr (conditional a b c) = LiteralExpr a × LiteralExpr b × LiteralExpr c
  LiteralExpr (assign op a b) = LiteralExpr a × LiteralExpr b
  LiteralExpr (comma es) = LiteralExprs es

  pub LiteralExprs : tree.Exprs → Type 0
  LiteralExprs no_exprs = ⊤
  LiteralExprs (then_expr a es) = LiteralExpr a × LiteralExprs es

  pub LiteralMaybeExpr : tree.MaybeExpr → Type 0
  LiteralMaybeExpr no_expr = ⊤
  LiteralMaybeExpr (one_expr a) = LiteralExpr a

  pub LiteralHoles : tree.Holes → Type 0
  LiteralHoles no_holes = ⊤
  LiteralHoles (then_hole e hs) = LiteralMaybeExpr e × LiteralHoles hs

  pub LiteralFields : tree.Fields → Type 0
  LiteralFields no_fields = ⊤
  LiteralFields (then_field x a fs) = IsText x × LiteralExpr a × LiteralFields fs

  pub LiteralCode : tree.Code → Type 0
  LiteralCode (code own formals body) = MaybeText own × AreTexts formals × (length formals ≤ largest) × LiteralStmts body

  pub LiteralStmt : tree.Stmt → Type 0
  LiteralStmt (var ds) = LiteralDeclarators ds
  LiteralStmt (function c) = LiteralCode c
  LiteralStmt (expr a) = LiteralExpr a
  LiteralStmt empty = ⊤
  LiteralStmt (block ss) = LiteralStmts ss
  LiteralStmt (if_else a ss b) = LiteralExpr a × LiteralStmts ss × LiteralBody b
  LiteralStmt (do_while ss a) = LiteralStmts ss × LiteralExpr a
  LiteralStmt (while a ss) = LiteralExpr a × LiteralStmts ss
  LiteralStmt (for i t l ss) = LiteralInit i × LiteralMaybeExpr t × LiteralMaybeExpr l × LiteralStmts ss
  LiteralStmt (for_in declared t a ss) = LiteralExpr t × LiteralExpr a × LiteralStmts ss
  LiteralStmt continue = ⊤
  LiteralStmt break = ⊤
  LiteralStmt (return e) = LiteralMaybeExpr e
  LiteralStmt (throw a) = LiteralExpr a
  LiteralStmt (try ss c l) = LiteralStmts ss × LiteralCatch c × LiteralBody l
  LiteralStmt (switch a cs) = LiteralExpr a × LiteralCases cs

  pub LiteralStmts : tree.Stmts → Type 0
  LiteralStmts no_stmts = ⊤
  LiteralStmts (then_stmt s ss) = LiteralStmt s × LiteralStmts ss

  pub LiteralBody : tree.MaybeStmts → Type 0
  LiteralBody no_body = ⊤
  LiteralBody (one_body ss) = LiteralStmts ss

  pub LiteralDeclarators : tree.Declarators → Type 0
  LiteralDeclarators no_declarators = ⊤
  LiteralDeclarators (then_declarator x e ds) = IsName x × LiteralMaybeExpr e × LiteralDeclarators ds

  pub LiteralInit : tree.ForInit → Type 0
  LiteralInit no_init = ⊤
  LiteralInit (init_var ds) = LiteralDeclarators ds
  LiteralInit (init_expr a) = LiteralExpr a

  pub LiteralCatch : tree.MaybeCatch → Type 0
  LiteralCatch no_catch = ⊤
  LiteralCatch (one_catch x ss) = IsText x × LiteralStmts ss

  pub LiteralCases : tree.Cases → Type 0
  LiteralCases no_cases = ⊤
  LiteralCases (then_case e ss cs) = LiteralMaybeExpr e × LiteralStmts ss × LiteralCases cs

-- the scripts of a page
abbrev pub LiteralScripts : List tree.Stmts → Type 0
LiteralScripts [] = ⊤
LiteralScripts (body ∷ bodies) = LiteralStmts body × LiteralScripts bodies

-- function declarations, each by its name and its code
abbrev pub LiteralDeclared : List (Option (List ℕ) × tree.Code) → Type 0
LiteralDeclared [] = ⊤
LiteralDeclared (f ∷ fs) = MaybeText f.0 × LiteralCode f.1 × LiteralDeclared fs
