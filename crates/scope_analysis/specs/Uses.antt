-- The uses of names: where a name of a variable is read, assigned to, or taken by an operator (ECMA-262 5.1 sections
-- 10.2.2.1 and 11.1.2), and which of them a function or a catch clause leaves to the scopes round it.
use Rattle.std.specs.Prelude.{ℕ, Bool, true, false, not, ◌&&◌, List, [], ◌∷◌, ◌++◌, bytes_eq, if◌then◌else◌}
use Rattle.std.specs.List.{list_any}
use Rattle.js_core.specs.Tree as tree
use Rattle.js_core.specs.Tree.{name, num, text, bool, null, this, list, literal, func, member, index, call, construct, unary, update, binary, logical_and, logical_or, conditional, assign, comma, no_exprs, then_expr, no_expr, one_expr, no_holes, then_hole, no_fields, then_field, code, var, function, expr, empty, block, if_else, do_while, while, for, for_in, continue, break, return, throw, try, switch, no_stmts, then_stmt, no_body, one_body, no_declarators, then_declarator, no_init, init_var, init_expr, no_catch, one_catch, no_cases, then_case}
use Rattle.scope_analysis.specs.Names.{is_among, maybe_name, bound_names}

-- a use of a name: where a variable is read, assigned to, or taken by an operator (11.1.2). assigns: it is the target of an
-- assignment, of `++` or `--` or of a `for` with `in`, or a variable with an initialiser. crosses: it stands in a function inside
-- the piece that is looked at
pub record Use : Type 0 where
  pub name : List ℕ
  pub assigns : Bool
  pub crosses : Bool

-- a use that is in no function inside, and whether it assigns
abbrev pub use_of : Bool → List ℕ → Use
use_of assigns x = record { name = x; assigns = assigns; crosses = false }

abbrev pub read : List ℕ → Use
read x = use_of false x

abbrev pub assignment : List ℕ → Use
assignment x = use_of true x

-- the uses of a target, from those that it has as an expression: a name is assigned to
abbrev pub target_uses : tree.Expr → List Use → List Use
target_uses (name x) uses = assignment x ∷ []
target_uses e uses = uses

-- the use as a function round it sees it
abbrev pub crossing : Use → Use
crossing u = record { name = u.name; assigns = u.assigns; crosses = true }

-- those that a function which binds these names leaves to the scopes round it
abbrev pub leaving_function : List (List ℕ) → List Use → List Use
leaving_function bound [] = []
leaving_function bound (u ∷ us) = if is_among u.name bound then leaving_function bound us else (crossing u ∷ leaving_function bound us)

-- those that a catch clause with this parameter leaves to the scopes round it (section 12.14)
abbrev pub leaving_clause : List ℕ → List Use → List Use
leaving_clause x [] = []
leaving_clause x (u ∷ us) = if bytes_eq u.name x then leaving_clause x us else (u ∷ leaving_clause x us)

-- the uses of a piece that no function or catch clause inside it binds, in source order: a name as an expression; the
-- target of an assignment, of `++` and `--` and of `for` and `in`; and a variable with an initialiser, which is assigned
-- to, and which a catch clause round the `var` may bind
abbrev mutual
  pub expr_uses : tree.Expr → List Use
  expr_uses (name x) = read x ∷ []
  expr_uses (num n) = []
  expr_uses (text x) = []
  expr_uses (bool b) = []
  expr_uses null = []
  expr_uses this = []
  expr_uses (list es) = holes_uses es
  expr_uses (literal fs) = fields_uses fs
  expr_uses (func (code x formals body)) = leaving_function (maybe_name x ++ bound_names (code x formals body)) (stmts_uses body)
  expr_uses (member e x) = expr_uses e
  expr_uses (index a b) = expr_uses a ++ expr_uses b
  expr_uses (call f es) = expr_uses f ++ exprs_uses es
  expr_uses (construct f es) = expr_uses f ++ exprs_uses es
  expr_uses (unary op a) = expr_uses a
  expr_uses (update up prefix a) = target_uses a (expr_uses a)
  expr_uses (binary op a b) = expr_uses a ++ expr_uses b
  expr_uses (logical_and a b) = expr_uses a ++ expr_uses b
  expr_uses (logical_or a b) = expr_uses a ++ expr_uses b
  expr_uses (conditional a b c) = expr_uses a ++ (expr_uses b ++ expr_uses c)
  expr_uses (assign op a b) = target_uses a (expr_uses a) ++ expr_uses b
  expr_uses (comma es) = exprs_uses es

  pub exprs_uses : tree.Exprs → List Use
  exprs_uses no_exprs = []
  exprs_uses (then_expr e es) = expr_uses e ++ exprs_uses es

  pub maybe_expr_uses : tree.MaybeExpr → List Use
  maybe_expr_uses no_expr = []
  maybe_expr_uses (one_expr e) = expr_uses e

  pub holes_uses : tree.Holes → List Use
  holes_uses no_holes = []
  holes_uses (then_hole e es) = maybe_expr_uses e ++ holes_uses es

  pub fields_uses : tree.Fields → List Use
  fields_uses no_fields = []
  fields_uses (then_field x e fs) = expr_uses e ++ fields_uses fs

  pub stmt_uses : tree.Stmt → List Use
  stmt_uses (var ds) = declarators_uses ds
  -- the name of a declaration belongs to the function round it
  stmt_uses (function (code x formals body)) = leaving_function (bound_names (code x formals body)) (stmts_uses body)
  stmt_uses (expr e) = expr_uses e
  stmt_uses empty = []
  stmt_uses (block ss) = stmts_uses ss
  stmt_uses (if_else e a b) = expr_uses e ++ (stmts_uses a ++ maybe_stmts_uses b)
  stmt_uses (do_while body e) = stmts_uses body ++ expr_uses e
  stmt_uses (while e body) = expr_uses e ++ stmts_uses body
  stmt_uses (for i t s body) = init_uses i ++ (maybe_expr_uses t ++ (maybe_expr_uses s ++ stmts_uses body))
  stmt_uses (for_in declared t e body) = target_uses t (expr_uses t) ++ (expr_uses e ++ stmts_uses body)
  stmt_uses continue = []
  stmt_uses break = []
  stmt_uses (return e) = maybe_expr_uses e
  stmt_uses (throw e) = expr_uses e
  stmt_uses (try b c l) = stmts_uses b ++ (catch_uses c ++ maybe_stmts_uses l)
  stmt_uses (switch e cs) = expr_uses e ++ cases_uses cs

  pub stmts_uses : tree.Stmts → List Use
  stmts_uses no_stmts = []
  stmts_uses (then_stmt s ss) = stmt_uses s ++ stmts_uses ss

  pub maybe_stmts_uses : tree.MaybeStmts → List Use
  maybe_stmts_uses no_body = []
  maybe_stmts_uses (one_body ss) = stmts_uses ss

  pub declarators_uses : tree.Declarators → List Use
  declarators_uses no_declarators = []
  declarators_uses (then_declarator x e ds) = declarator_uses x e ++ declarators_uses ds

  pub declarator_uses : List ℕ → tree.MaybeExpr → List Use
  declarator_uses x no_expr = []
  declarator_uses x (one_expr e) = assignment x ∷ expr_uses e

  pub init_uses : tree.ForInit → List Use
  init_uses no_init = []
  init_uses (init_var ds) = declarators_uses ds
  init_uses (init_expr e) = expr_uses e

  pub catch_uses : tree.MaybeCatch → List Use
  catch_uses no_catch = []
  catch_uses (one_catch x ss) = leaving_clause x (stmts_uses ss)

  pub cases_uses : tree.Cases → List Use
  cases_uses no_cases = []
  cases_uses (then_case e ss cs) = maybe_expr_uses e ++ (stmts_uses ss ++ cases_uses cs)

-- among these uses the name is used by a function inside
abbrev pub is_captured : List ℕ → List Use → Bool
is_captured x uses = list_any (λ u. u.crosses && bytes_eq u.name x) uses

-- among these uses the name is assigned to
abbrev pub is_assigned : List ℕ → List Use → Bool
is_assigned x uses = list_any (λ u. u.assigns && bytes_eq u.name x) uses

-- among these uses the name is assigned to once
abbrev pub is_assigned_once : List ℕ → List Use → Bool
is_assigned_once x [] = false
is_assigned_once x (u ∷ us) = if u.assigns && bytes_eq u.name x then not (is_assigned x us) else is_assigned_once x us
