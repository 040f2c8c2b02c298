-- Nodes and their parts: what is evaluated or executed of a node in turn, as each kind of expression and statement orders it
-- (ECMA-262 5.1 sections 11 and 12).
use Rattle.std.specs.Prelude.{ℕ, zero, suc, Bool, true, false, List, [], ◌∷◌, ◌++◌, Option, Some, None, slice_get, length}
use Rattle.js_core.specs.declared.operators.UnaryOp.{UnaryOp}
use Rattle.js_core.specs.declared.operators.UnaryOp.TheVariants.{Delete, Typeof}
use Rattle.js_core.specs.Tree as tree
use Rattle.js_core.specs.Tree.{name, list, literal, member, index, call, construct, unary, update, binary, logical_and, logical_or, conditional, assign, comma, no_exprs, then_expr, no_expr, one_expr, no_holes, then_hole, no_fields, then_field, code, var, expr, block, if_else, do_while, while, for, for_in, return, throw, try, switch, no_stmts, then_stmt, no_body, one_body, no_declarators, then_declarator, no_init, init_var, init_expr, no_catch, one_catch, no_cases, then_case}

pub data Node : Type 0 where
  expr_node : tree.Expr → Node
  stmt_node : tree.Stmt → Node
  -- statements in turn
  block_node : tree.Stmts → Node
  -- a name that a `var` declares, with its initialiser
  declarator_node : List ℕ → tree.Expr → Node

-- parts of a node in turn, each with its own parts
pub data Parts : Type 0 where
  no_parts : Parts
  then_part : Node → Parts → Parts → Parts
  -- a part that may be absent, and is
  then_none : Parts → Parts

abbrev pub part : Node → Parts → Parts
part n inside = then_part n inside no_parts

abbrev pub absent : Parts
absent = then_none no_parts

abbrev pub join : Parts → Parts → Parts
join no_parts q = q
join (then_part n inside p) q = then_part n inside (join p q)
join (then_none p) q = then_none (join p q)

-- a property named by a member expression (11.2.1)
abbrev pub is_property : tree.Expr → Bool
is_property (member e x) = true
is_property (index a b) = true
is_property e = false

abbrev pub is_name : tree.Expr → Bool
is_name (name x) = true
is_name e = false

-- whether the operator takes the place that its operand names, and not the value there (11.4.1, 11.4.3)
abbrev pub takes_place : UnaryOp → tree.Expr → Bool
takes_place Delete e = is_property e
takes_place Typeof e = is_name e
takes_place op e = false

-- an expression of which the place or the value is taken: what is evaluated to find the place, or the expression
abbrev pub of_place : Bool → tree.Expr → Parts → Parts
of_place true e inside = inside
of_place false e inside = part (expr_node e) inside

abbrev mutual
  pub expr_parts : tree.Expr → Parts
  expr_parts (list hs) = holes_parts hs
  expr_parts (literal fs) = fields_parts fs
  expr_parts (member e x) = part (expr_node e) (expr_parts e)
  expr_parts (index a b) = join (part (expr_node a) (expr_parts a)) (part (expr_node b) (expr_parts b))
  expr_parts (call f es) = join (of_place (is_property f) f (expr_parts f)) (exprs_parts es)
  expr_parts (construct f es) = join (part (expr_node f) (expr_parts f)) (exprs_parts es)
  expr_parts (unary op e) = of_place (takes_place op e) e (expr_parts e)
  expr_parts (update up prefix e) = expr_parts e
  expr_parts (binary op a b) = join (part (expr_node a) (expr_parts a)) (part (expr_node b) (expr_parts b))
  expr_parts (logical_and a b) = join (part (expr_node a) (expr_parts a)) (part (expr_node b) (expr_parts b))
  expr_parts (logical_or a b) = join (part (expr_node a) (expr_parts a)) (part (expr_node b) (expr_parts b))
  expr_parts (conditional a b c) =
      join (part (expr_node a) (expr_parts a)) (join (part (expr_node b) (expr_parts b)) (part (expr_node c) (expr_parts c)))
  expr_parts (assign op a b) = join (expr_parts a) (part (expr_node b) (expr_parts b))
  expr_parts (comma es) = exprs_parts es
  expr_parts e = no_parts

  pub exprs_parts : tree.Exprs → Parts
  exprs_parts no_exprs = no_parts
  exprs_parts (then_expr e es) = then_part (expr_node e) (expr_parts e) (exprs_parts es)

  pub maybe_expr_parts : tree.MaybeExpr → Parts
  maybe_expr_parts no_expr = absent
  maybe_expr_parts (one_expr e) = part (expr_node e) (expr_parts e)

  pub holes_parts : tree.Holes → Parts
  holes_parts no_holes = no_parts
  holes_parts (then_hole e hs) = join (maybe_expr_parts e) (holes_parts hs)

  pub fields_parts : tree.Fields → Parts
  fields_parts no_fields = no_parts
  fields_parts (then_field x e fs) = then_part (expr_node e) (expr_parts e) (fields_parts fs)

  pub stmt_parts : tree.Stmt → Parts
  stmt_parts (var ds) = declarators_parts ds
  stmt_parts (expr e) = part (expr_node e) (expr_parts e)
  stmt_parts (block ss) = stmts_parts ss
  stmt_parts (if_else e a b) =
      join (part (expr_node e) (expr_parts e)) (join (part (block_node a) (stmts_parts a)) (maybe_stmts_parts b))
  stmt_parts (do_while a e) = join (part (block_node a) (stmts_parts a)) (part (expr_node e) (expr_parts e))
  stmt_parts (while e a) = join (part (expr_node e) (expr_parts e)) (part (block_node a) (stmts_parts a))
  stmt_parts (for i t s a) =
      join (init_parts i) (join (maybe_expr_parts t) (join (maybe_expr_parts s) (part (block_node a) (stmts_parts a))))
  stmt_parts (for_in declared t e a) =
      join (part (expr_node t) (expr_parts t)) (join (part (expr_node e) (expr_parts e)) (part (block_node a) (stmts_parts a)))
  stmt_parts (return e) = maybe_expr_parts e
  stmt_parts (throw e) = part (expr_node e) (expr_parts e)
  stmt_parts (try a c l) = join (part (block_node a) (stmts_parts a)) (join (catch_parts c) (maybe_stmts_parts l))
  stmt_parts (switch e cs) = join (part (expr_node e) (expr_parts e)) (cases_parts cs)
  stmt_parts s = no_parts

  pub stmts_parts : tree.Stmts → Parts
  stmts_parts no_stmts = no_parts
  stmts_parts (then_stmt s ss) = then_part (stmt_node s) (stmt_parts s) (stmts_parts ss)

  pub maybe_stmts_parts : tree.MaybeStmts → Parts
  maybe_stmts_parts no_body = absent
  maybe_stmts_parts (one_body ss) = part (block_node ss) (stmts_parts ss)

  -- the declarators with an initialiser
  pub declarators_parts : tree.Declarators → Parts
  declarators_parts no_declarators = no_parts
  declarators_parts (then_declarator x e ds) = join (declarator_parts x e) (declarators_parts ds)

  pub declarator_parts : List ℕ → tree.MaybeExpr → Parts
  declarator_parts x no_expr = no_parts
  declarator_parts x (one_expr e) = part (declarator_node x e) (part (expr_node e) (expr_parts e))

  pub init_parts : tree.ForInit → Parts
  init_parts no_init = absent
  init_parts (init_var ds) = part (stmt_node (var ds)) (declarators_parts ds)
  init_parts (init_expr e) = part (expr_node e) (expr_parts e)

  pub catch_parts : tree.MaybeCatch → Parts
  catch_parts no_catch = absent
  catch_parts (one_catch x ss) = part (block_node ss) (stmts_parts ss)

  -- the expression of each case, absent for `default`, and its statements
  pub cases_parts : tree.Cases → Parts
  cases_parts no_cases = no_parts
  cases_parts (then_case e ss cs) = join (maybe_expr_parts e) (then_part (block_node ss) (stmts_parts ss) (cases_parts cs))

abbrev pub inside : Node → Parts
inside (expr_node e) = expr_parts e
inside (stmt_node s) = stmt_parts s
inside (block_node ss) = stmts_parts ss
inside (declarator_node x e) = part (expr_node e) (expr_parts e)

abbrev pub parts_in : Parts → List (Option Node)
parts_in no_parts = []
parts_in (then_part n inside p) = Some n ∷ parts_in p
parts_in (then_none p) = None ∷ parts_in p

-- the parts of a node, each of which may be absent
abbrev pub parts_of : Node → List (Option Node)
parts_of n = parts_in (inside n)

abbrev pub pick : List (Option Node) → ℕ → Option Node
pick [] k = None
pick (n ∷ ns) zero = n
pick (n ∷ ns) (suc k) = pick ns k

-- the kth part, if there is one
abbrev pub and_child : Option Node → ℕ → Option Node
and_child None k = None
and_child (Some n) k = pick (parts_of n) k

abbrev pub part_count : Option Node → ℕ
part_count None = 0
part_count (Some n) = length (parts_of n)

-- all nodes among these parts, each after its own parts
abbrev pub nodes_in : Parts → List Node
nodes_in no_parts = []
nodes_in (then_part n inside p) = nodes_in inside ++ n ∷ nodes_in p
nodes_in (then_none p) = nodes_in p

abbrev pub body_of : tree.Code → tree.Stmts
body_of (code x formals body) = body

-- the nodes of a function's body, last the body itself
abbrev pub nodes_of : tree.Code → List Node
nodes_of c = nodes_in (part (block_node (body_of c)) (stmts_parts (body_of c)))

-- the node of this number
unfoldable pub node_at : tree.Code → ℕ → Option Node
node_at c k = slice_get (nodes_of c) k
