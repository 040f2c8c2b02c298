-- The lexemes of a tree, in order, with parentheses by place and braces round every body.
use Rattle.std.specs.Prelude.{ℕ, Bool, true, false, List, [], ◌∷◌, ◌++◌, Option, Some, None}
use Rattle.js_core.specs.Tree as tree
use Rattle.js_core.specs.Tree.{name, num, text, bool, null, this, list, literal, func, member, index, call, construct, unary, update, binary, logical_and, logical_or, conditional, assign, comma, no_exprs, then_expr, no_expr, one_expr, no_holes, then_hole, no_fields, then_field, code, var, function, expr, empty, block, if_else, do_while, while, for, for_in, continue, break, return, throw, try, switch, no_stmts, then_stmt, no_body, one_body, no_declarators, then_declarator, no_init, init_var, init_expr, no_catch, one_catch, no_cases, then_case}
use Rattle.js_core.specs.declared.token.Punct.TheVariants as punct
use Rattle.js_core.specs.declared.keyword.Keyword.{Keyword as Word}
use Rattle.js_core.specs.declared.keyword.Keyword.TheVariants as keyword
use Rattle.js_print.specs.declared.lexeme.Lexeme.{Lexeme}
use Rattle.js_print.specs.declared.lexeme.Lexeme.TheVariants.{Keyword, Name, Number, Text, Punct}
use Rattle.js_print.specs.declared.place.Place.TheVariants.{Operand, Base, Constructor, Part, Whole, Statement}
use Rattle.js_print.specs.Operators.{unary_lexeme, update_punct, binary_lexeme, assign_punct}
use Rattle.js_print.specs.Places.{placed, parenthesised, braced}

abbrev pub boolean_lexeme : Bool → Lexeme
boolean_lexeme true = Keyword keyword.True
boolean_lexeme false = Keyword keyword.False

-- `++` or `--` before its target, or after it
abbrev pub updated : Bool → Bool → List Lexeme → List Lexeme
updated up true target = Punct (update_punct up) ∷ target
updated up false target = target ++ Punct (update_punct up) ∷ []

-- the comma after an element of an array literal: none after a last one that is there
abbrev pub separator : tree.MaybeExpr → tree.Holes → List Lexeme
separator (one_expr e) no_holes = []
separator e es = Punct punct.Comma ∷ []

-- the name of a function, or nothing
abbrev pub maybe_name : Option (List ℕ) → List Lexeme
maybe_name None = []
maybe_name (Some x) = Name x ∷ []

-- names, each after a comma
abbrev pub more_names : List (List ℕ) → List Lexeme
more_names [] = []
more_names (x ∷ xs) = Punct punct.Comma ∷ Name x ∷ more_names xs

-- names with commas between them
abbrev pub names : List (List ℕ) → List Lexeme
names [] = []
names (x ∷ xs) = Name x ∷ more_names xs

-- the `var` of a target of `for` and `in`
abbrev pub maybe_var : Bool → List Lexeme
maybe_var true = Keyword keyword.Var ∷ []
maybe_var false = []

abbrev mutual
  pub expr_lexemes : tree.Expr → List Lexeme
  expr_lexemes (name x) = Name x ∷ []
  expr_lexemes (num n) = Number n ∷ []
  expr_lexemes (text x) = Text x ∷ []
  expr_lexemes (bool b) = boolean_lexeme b ∷ []
  expr_lexemes null = Keyword keyword.Null ∷ []
  expr_lexemes this = Keyword keyword.This ∷ []
  expr_lexemes (list es) = Punct punct.LeftBracket ∷ (holes_lexemes es ++ Punct punct.RightBracket ∷ [])
  expr_lexemes (literal fs) = braced (fields_lexemes fs)
  expr_lexemes (func c) = code_lexemes c
  expr_lexemes (member e x) = placed Base e (expr_lexemes e) ++ Punct punct.Dot ∷ Name x ∷ []
  expr_lexemes (index a b) = placed Base a (expr_lexemes a) ++ Punct punct.LeftBracket ∷ (placed Part b (expr_lexemes b) ++ Punct punct.RightBracket ∷ [])
  expr_lexemes (call f es) = placed Operand f (expr_lexemes f) ++ parenthesised (parts_lexemes es)
  expr_lexemes (construct f es) = Keyword keyword.New ∷ (placed Constructor f (expr_lexemes f) ++ parenthesised (parts_lexemes es))
  expr_lexemes (unary op a) = unary_lexeme op ∷ placed Operand a (expr_lexemes a)
  expr_lexemes (update up prefix a) = updated up prefix (placed Operand a (expr_lexemes a))
  expr_lexemes (binary op a b) = placed Operand a (expr_lexemes a) ++ binary_lexeme op ∷ placed Operand b (expr_lexemes b)
  expr_lexemes (logical_and a b) = placed Operand a (expr_lexemes a) ++ Punct punct.DoubleAmpersand ∷ placed Operand b (expr_lexemes b)
  expr_lexemes (logical_or a b) = placed Operand a (expr_lexemes a) ++ Punct punct.DoubleVerticalBar ∷ placed Operand b (expr_lexemes b)
  expr_lexemes (conditional a b c) = placed Operand a (expr_lexemes a) ++ Punct punct.QuestionMark ∷ (placed Operand b (expr_lexemes b) ++ Punct punct.Colon ∷ placed Operand c (expr_lexemes c))
  expr_lexemes (assign op a b) = placed Operand a (expr_lexemes a) ++ Punct (assign_punct op) ∷ placed Part b (expr_lexemes b)
  expr_lexemes (comma es) = parts_lexemes es

  -- with commas between them
  pub parts_lexemes : tree.Exprs → List Lexeme
  parts_lexemes no_exprs = []
  parts_lexemes (then_expr e es) = placed Part e (expr_lexemes e) ++ more_parts_lexemes es

  -- each after a comma
  pub more_parts_lexemes : tree.Exprs → List Lexeme
  more_parts_lexemes no_exprs = []
  more_parts_lexemes (then_expr e es) = Punct punct.Comma ∷ (placed Part e (expr_lexemes e) ++ more_parts_lexemes es)

  -- an element of an array literal, or nothing
  pub hole_lexemes : tree.MaybeExpr → List Lexeme
  hole_lexemes no_expr = []
  hole_lexemes (one_expr e) = placed Part e (expr_lexemes e)

  pub holes_lexemes : tree.Holes → List Lexeme
  holes_lexemes no_holes = []
  holes_lexemes (then_hole e es) = hole_lexemes e ++ (separator e es ++ holes_lexemes es)

  -- names as strings with their values, with commas between them
  pub fields_lexemes : tree.Fields → List Lexeme
  fields_lexemes no_fields = []
  fields_lexemes (then_field x e fs) = Text x ∷ Punct punct.Colon ∷ (placed Part e (expr_lexemes e) ++ more_fields_lexemes fs)

  -- each after a comma
  pub more_fields_lexemes : tree.Fields → List Lexeme
  more_fields_lexemes no_fields = []
  more_fields_lexemes (then_field x e fs) = Punct punct.Comma ∷ Text x ∷ Punct punct.Colon ∷ (placed Part e (expr_lexemes e) ++ more_fields_lexemes fs)

  pub code_lexemes : tree.Code → List Lexeme
  code_lexemes (code x formals body) = Keyword keyword.Function ∷ (maybe_name x ++ (parenthesised (names formals) ++ braced (stmts_lexemes body)))

  pub stmt_lexemes : tree.Stmt → List Lexeme
  stmt_lexemes (var ds) = Keyword keyword.Var ∷ (declarators_lexemes ds ++ Punct punct.Semicolon ∷ [])
  stmt_lexemes (function c) = code_lexemes c
  stmt_lexemes (expr e) = placed Statement e (expr_lexemes e) ++ Punct punct.Semicolon ∷ []
  stmt_lexemes empty = Punct punct.Semicolon ∷ []
  stmt_lexemes (block ss) = braced (stmts_lexemes ss)
  stmt_lexemes (if_else e a b) = Keyword keyword.If ∷ (parenthesised (placed Whole e (expr_lexemes e)) ++ (braced (stmts_lexemes a) ++ maybe_body_lexemes keyword.Else b))
  stmt_lexemes (do_while body e) = Keyword keyword.Do ∷ (braced (stmts_lexemes body) ++ Keyword keyword.While ∷ (parenthesised (placed Whole e (expr_lexemes e)) ++ Punct punct.Semicolon ∷ []))
  stmt_lexemes (while e body) = Keyword keyword.While ∷ (parenthesised (placed Whole e (expr_lexemes e)) ++ braced (stmts_lexemes body))
  stmt_lexemes (for i t s body) =
      Keyword keyword.For ∷ (parenthesised (init_lexemes i ++ Punct punct.Semicolon ∷ (maybe_whole_lexemes t ++ Punct punct.Semicolon ∷ maybe_whole_lexemes s)) ++ braced (stmts_lexemes body))
  stmt_lexemes (for_in declared t e body) =
      Keyword keyword.For ∷ (parenthesised (maybe_var declared ++ (placed Operand t (expr_lexemes t) ++ Keyword keyword.In ∷ placed Whole e (expr_lexemes e))) ++ braced (stmts_lexemes body))
  stmt_lexemes continue = Keyword keyword.Continue ∷ Punct punct.Semicolon ∷ []
  stmt_lexemes break = Keyword keyword.Break ∷ Punct punct.Semicolon ∷ []
  stmt_lexemes (return e) = Keyword keyword.Return ∷ (maybe_whole_lexemes e ++ Punct punct.Semicolon ∷ [])
  stmt_lexemes (throw e) = Keyword keyword.Throw ∷ (placed Whole e (expr_lexemes e) ++ Punct punct.Semicolon ∷ [])
  stmt_lexemes (try b c l) = Keyword keyword.Try ∷ (braced (stmts_lexemes b) ++ (maybe_catch_lexemes c ++ maybe_body_lexemes keyword.Finally l))
  stmt_lexemes (switch e cs) = Keyword keyword.Switch ∷ (parenthesised (placed Whole e (expr_lexemes e)) ++ braced (cases_lexemes cs))

  pub stmts_lexemes : tree.Stmts → List Lexeme
  stmts_lexemes no_stmts = []
  stmts_lexemes (then_stmt s ss) = stmt_lexemes s ++ stmts_lexemes ss

  pub maybe_whole_lexemes : tree.MaybeExpr → List Lexeme
  maybe_whole_lexemes no_expr = []
  maybe_whole_lexemes (one_expr e) = placed Whole e (expr_lexemes e)

  -- a body after its keyword, or nothing
  pub maybe_body_lexemes : Word → tree.MaybeStmts → List Lexeme
  maybe_body_lexemes k no_body = []
  maybe_body_lexemes k (one_body ss) = Keyword k ∷ braced (stmts_lexemes ss)

  pub maybe_catch_lexemes : tree.MaybeCatch → List Lexeme
  maybe_catch_lexemes no_catch = []
  maybe_catch_lexemes (one_catch x ss) = Keyword keyword.Catch ∷ (parenthesised (Name x ∷ []) ++ braced (stmts_lexemes ss))

  pub initialiser_lexemes : tree.MaybeExpr → List Lexeme
  initialiser_lexemes no_expr = []
  initialiser_lexemes (one_expr e) = Punct punct.SimpleAssign ∷ placed Part e (expr_lexemes e)

  -- with commas between them
  pub declarators_lexemes : tree.Declarators → List Lexeme
  declarators_lexemes no_declarators = []
  declarators_lexemes (then_declarator x e ds) = Name x ∷ (initialiser_lexemes e ++ more_declarators_lexemes ds)

  -- each after a comma
  pub more_declarators_lexemes : tree.Declarators → List Lexeme
  more_declarators_lexemes no_declarators = []
  more_declarators_lexemes (then_declarator x e ds) = Punct punct.Comma ∷ Name x ∷ (initialiser_lexemes e ++ more_declarators_lexemes ds)

  pub init_lexemes : tree.ForInit → List Lexeme
  init_lexemes no_init = []
  init_lexemes (init_var ds) = Keyword keyword.Var ∷ declarators_lexemes ds
  init_lexemes (init_expr e) = placed Whole e (expr_lexemes e)

  -- `case` with its expression, or `default`
  pub case_label_lexemes : tree.MaybeExpr → List Lexeme
  case_label_lexemes no_expr = Keyword keyword.Default ∷ Punct punct.Colon ∷ []
  case_label_lexemes (one_expr e) = Keyword keyword.Case ∷ (placed Part e (expr_lexemes e) ++ Punct punct.Colon ∷ [])

  pub cases_lexemes : tree.Cases → List Lexeme
  cases_lexemes no_cases = []
  cases_lexemes (then_case e ss cs) = case_label_lexemes e ++ (stmts_lexemes ss ++ cases_lexemes cs)
