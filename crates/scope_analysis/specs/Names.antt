-- The names that a function declares (ECMA-262 5.1 section 10.5).
use Rattle.std.specs.Prelude.{ℕ, Bool, true, false, ◌||◌, List, [], ◌∷◌, ◌++◌, Option, Some, None, bytes_eq, if◌then◌else◌}
use Rattle.std.specs.List.{list_any}
use Rattle.js_core.specs.Tree as tree
use Rattle.js_core.specs.Tree.{name, code, var, function, expr, empty, block, if_else, do_while, while, for, for_in, continue, break, return, throw, try, switch, no_stmts, then_stmt, no_body, one_body, no_declarators, then_declarator, no_init, init_var, init_expr, no_catch, one_catch, no_cases, then_case}

abbrev pub is_among : List ℕ → List (List ℕ) → Bool
is_among x xs = list_any (bytes_eq x) xs

-- a name stands in the list twice
abbrev pub has_repeat : List (List ℕ) → Bool
has_repeat [] = false
has_repeat (x ∷ xs) = is_among x xs || has_repeat xs

-- the name that may be there
abbrev pub maybe_name : Option (List ℕ) → List (List ℕ)
maybe_name None = []
maybe_name (Some x) = x ∷ []

abbrev pub code_name : tree.Code → Option (List ℕ)
code_name (code x formals body) = x

abbrev pub code_formals : tree.Code → List (List ℕ)
code_formals (code x formals body) = formals

abbrev pub code_body : tree.Code → tree.Stmts
code_body (code x formals body) = body

abbrev pub declarator_names : tree.Declarators → List (List ℕ)
declarator_names no_declarators = []
declarator_names (then_declarator x e ds) = x ∷ declarator_names ds

abbrev pub init_names : tree.ForInit → List (List ℕ)
init_names (init_var ds) = declarator_names ds
init_names i = []

-- the declared target of `for` and `in`
abbrev pub target_names : Bool → tree.Expr → List (List ℕ)
target_names true (name x) = x ∷ []
target_names declared e = []

-- the names that the variable statements and function declarations among these statements of a function declare, in
-- source order and as often as they do; functions inside are not entered
abbrev mutual
  pub stmt_names : tree.Stmt → List (List ℕ)
  stmt_names (var ds) = declarator_names ds
  stmt_names (function c) = maybe_name (code_name c)
  stmt_names (expr e) = []
  stmt_names empty = []
  stmt_names (block ss) = declared_names ss
  stmt_names (if_else e a b) = declared_names a ++ maybe_body_names b
  stmt_names (do_while body e) = declared_names body
  stmt_names (while e body) = declared_names body
  stmt_names (for i t s body) = init_names i ++ declared_names body
  stmt_names (for_in declared t e body) = target_names declared t ++ declared_names body
  stmt_names continue = []
  stmt_names break = []
  stmt_names (return e) = []
  stmt_names (throw e) = []
  stmt_names (try b c l) = declared_names b ++ (catch_names c ++ maybe_body_names l)
  stmt_names (switch e cs) = case_names cs

  pub declared_names : tree.Stmts → List (List ℕ)
  declared_names no_stmts = []
  declared_names (then_stmt s ss) = stmt_names s ++ declared_names ss

  pub maybe_body_names : tree.MaybeStmts → List (List ℕ)
  maybe_body_names no_body = []
  maybe_body_names (one_body ss) = declared_names ss

  pub catch_names : tree.MaybeCatch → List (List ℕ)
  catch_names no_catch = []
  catch_names (one_catch x ss) = declared_names ss

  pub case_names : tree.Cases → List (List ℕ)
  case_names no_cases = []
  case_names (then_case e ss cs) = declared_names ss ++ case_names cs

-- the names of a function's formals, and those that its body declares
abbrev pub bound_names : tree.Code → List (List ℕ)
bound_names c = code_formals c ++ declared_names (code_body c)

-- the name, where it is not among these
abbrev pub unless_among : Option (List ℕ) → List (List ℕ) → Option (List ℕ)
unless_among None xs = None
unless_among (Some x) xs = if is_among x xs then None else Some x

-- the name of a function expression that is a variable of it: no formal, variable or function in it has that name
-- (section 13)
abbrev pub own_name : tree.Code → Option (List ℕ)
own_name c = unless_among (code_name c) (bound_names c)
