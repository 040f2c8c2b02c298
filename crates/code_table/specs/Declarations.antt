-- What a function declares (ECMA-262 5.1 section 10.5), and how its code is held.
use Rattle.std.specs.Prelude.{ℕ, Bool, true, false, List, [], ◌∷◌, ◌++◌, Option, None}
use Rattle.js_core.specs.Tree as tree
use Rattle.js_core.specs.Tree.{name, code, var, function, block, if_else, do_while, while, for, for_in, try, switch, no_stmts, then_stmt, no_body, one_body, no_declarators, then_declarator, no_init, init_var, init_expr, no_catch, one_catch, no_cases, then_case}

abbrev pub name_of : tree.Code → Option (List ℕ)
name_of (code x formals body) = x

abbrev pub formals_of : tree.Code → List (List ℕ)
formals_of (code x formals body) = formals

abbrev pub unnamed : tree.Code → tree.Code
unnamed (code x formals body) = code None formals body

-- a function expression's code is held with its name, a declaration's without
abbrev pub held : Bool → tree.Code → tree.Code
held true c = c
held false c = unnamed c

-- the function declarations, in order, each by its name and its code
abbrev pub functions_of : tree.Stmts → List (Option (List ℕ) × tree.Code)
functions_of no_stmts = []
functions_of (then_stmt (function c) ss) = (name_of c, unnamed c) ∷ functions_of ss
functions_of (then_stmt s ss) = functions_of ss

abbrev pub declarator_names : tree.Declarators → List (List ℕ)
declarator_names no_declarators = []
declarator_names (then_declarator x e ds) = x ∷ declarator_names ds

abbrev pub init_names : tree.ForInit → List (List ℕ)
init_names (init_var ds) = declarator_names ds
init_names i = []

-- the target of a for-in that declares it
abbrev pub target_names : Bool → tree.Expr → List (List ℕ)
target_names true (name x) = x ∷ []
target_names declared e = []

-- the names of the variable statements, in source order
abbrev mutual
  pub stmt_variables : tree.Stmt → List (List ℕ)
  stmt_variables (var ds) = declarator_names ds
  stmt_variables (block ss) = variables_of ss
  stmt_variables (if_else e a b) = variables_of a ++ body_variables b
  stmt_variables (do_while a e) = variables_of a
  stmt_variables (while e a) = variables_of a
  stmt_variables (for i t s a) = init_names i ++ variables_of a
  stmt_variables (for_in declared t e a) = target_names declared t ++ variables_of a
  stmt_variables (try a c l) = variables_of a ++ (catch_variables c ++ body_variables l)
  stmt_variables (switch e cs) = case_variables cs
  stmt_variables s = []

  pub variables_of : tree.Stmts → List (List ℕ)
  variables_of no_stmts = []
  variables_of (then_stmt s ss) = stmt_variables s ++ variables_of ss

  pub body_variables : tree.MaybeStmts → List (List ℕ)
  body_variables no_body = []
  body_variables (one_body ss) = variables_of ss

  pub catch_variables : tree.MaybeCatch → List (List ℕ)
  catch_variables no_catch = []
  catch_variables (one_catch x ss) = variables_of ss

  pub case_variables : tree.Cases → List (List ℕ)
  case_variables no_cases = []
  case_variables (then_case e ss cs) = variables_of ss ++ case_variables cs
