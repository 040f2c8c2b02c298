-- In a tree each node stands over its own parts.
use Rattle.std.proofs.Common.{◌≡◌, ℕ, Bool, true, false, List, refl}
use Rattle.js_core.specs.Tree as tree
use Rattle.js_core.specs.Tree.{name, list, literal, member, index, call, construct, unary, update, binary, logical_and, logical_or, conditional, assign, comma, no_exprs, then_expr, no_expr, one_expr, no_holes, then_hole, no_fields, then_field, code, var, expr, block, if_else, do_while, while, for, for_in, return, throw, try, switch, no_stmts, then_stmt, no_body, one_body, no_declarators, then_declarator, no_init, init_var, init_expr, no_catch, one_catch, no_cases, then_case}
use Rattle.code_table.specs.Node.{Node, expr_node, stmt_node, block_node, declarator_node, Parts, no_parts, then_part, then_none, part, join, of_place, is_property, takes_place, inside, body_of, expr_parts, exprs_parts, maybe_expr_parts, holes_parts, fields_parts, stmt_parts, stmts_parts, maybe_stmts_parts, declarators_parts, declarator_parts, init_parts, catch_parts, cases_parts}

abbrev pub Formed : Parts → Type 0
Formed no_parts = Unit {0}
Formed (then_part n i p) = (i ≡ inside n) × Formed i × Formed p
Formed (then_none p) = Formed p

joined : (p q : Parts) → Formed p → Formed q → Formed (join p q)
joined no_parts q h g = g
joined (then_part n i p) q h g = (h.0, h.1, joined p q h.2 g)
joined (then_none p) q h g = joined p q h g

placed : (b : Bool) (e : tree.Expr) → Formed (expr_parts e) → Formed (of_place b e (expr_parts e))
placed true e h = h
placed false e h = (refl, h, tt)

mutual
  expr_formed : (e : tree.Expr) → Formed (expr_parts e)
  expr_formed (list hs) = holes_formed hs
  expr_formed (literal fs) = fields_formed fs
  expr_formed (member e x) = (refl, expr_formed e, tt)
  expr_formed (index a b) = (refl, expr_formed a, (refl, expr_formed b, tt))
  expr_formed (call f es) = joined (of_place (is_property f) f (expr_parts f)) (exprs_parts es) (placed (is_property f) f (expr_formed f)) (exprs_formed es)
  expr_formed (construct f es) = (refl, expr_formed f, exprs_formed es)
  expr_formed (unary op e) = placed (takes_place op e) e (expr_formed e)
  expr_formed (update up prefix e) = expr_formed e
  expr_formed (binary op a b) = (refl, expr_formed a, (refl, expr_formed b, tt))
  expr_formed (logical_and a b) = (refl, expr_formed a, (refl, expr_formed b, tt))
  expr_formed (logical_or a b) = (refl, expr_formed a, (refl, expr_formed b, tt))
  expr_formed (conditional a b c) = (refl, expr_formed a, (refl, expr_formed b, (refl, expr_formed c, tt)))
  expr_formed (assign op a b) = joined (expr_parts a) (part (expr_node b) (expr_parts b)) (expr_formed a) (refl, expr_formed b, tt)
  expr_formed (comma es) = exprs_formed es
  expr_formed e = tt

  exprs_formed : (es : tree.Exprs) → Formed (exprs_parts es)
  exprs_formed no_exprs = tt
  exprs_formed (then_expr e es) = (refl, expr_formed e, exprs_formed es)

  maybe_formed : (e : tree.MaybeExpr) → Formed (maybe_expr_parts e)
  maybe_formed no_expr = tt
  maybe_formed (one_expr e) = (refl, expr_formed e, tt)

  holes_formed : (hs : tree.Holes) → Formed (holes_parts hs)
  holes_formed no_holes = tt
  holes_formed (then_hole e hs) = joined (maybe_expr_parts e) (holes_parts hs) (maybe_formed e) (holes_formed hs)

  fields_formed : (fs : tree.Fields) → Formed (fields_parts fs)
  fields_formed no_fields = tt
  fields_formed (then_field x e fs) = (refl, expr_formed e, fields_formed fs)

  stmt_formed : (s : tree.Stmt) → Formed (stmt_parts s)
  stmt_formed (var ds) = declarators_formed ds
  stmt_formed (expr e) = (refl, expr_formed e, tt)
  stmt_formed (block ss) = stmts_formed ss
  stmt_formed (if_else e a b) = (refl, expr_formed e, (refl, stmts_formed a, maybe_stmts_formed b))
  stmt_formed (do_while a e) = (refl, stmts_formed a, (refl, expr_formed e, tt))
  stmt_formed (while e a) = (refl, expr_formed e, (refl, stmts_formed a, tt))
  stmt_formed (for i t s a) =
      joined (init_parts i) (join (maybe_expr_parts t) (join (maybe_expr_parts s) (part (block_node a) (stmts_parts a)))) (init_formed i)
      (joined (maybe_expr_parts t) (join (maybe_expr_parts s) (part (block_node a) (stmts_parts a))) (maybe_formed t)
      (joined (maybe_expr_parts s) (part (block_node a) (stmts_parts a)) (maybe_formed s) (refl, stmts_formed a, tt)))
  stmt_formed (for_in declared t e a) = (refl, expr_formed t, (refl, expr_formed e, (refl, stmts_formed a, tt)))
  stmt_formed (return e) = maybe_formed e
  stmt_formed (throw e) = (refl, expr_formed e, tt)
  stmt_formed (try a c l) = (refl, stmts_formed a, joined (catch_parts c) (maybe_stmts_parts l) (catch_formed c) (maybe_stmts_formed l))
  stmt_formed (switch e cs) = (refl, expr_formed e, cases_formed cs)
  stmt_formed s = tt

  stmts_formed : (ss : tree.Stmts) → Formed (stmts_parts ss)
  stmts_formed no_stmts = tt
  stmts_formed (then_stmt s ss) = (refl, stmt_formed s, stmts_formed ss)

  maybe_stmts_formed : (b : tree.MaybeStmts) → Formed (maybe_stmts_parts b)
  maybe_stmts_formed no_body = tt
  maybe_stmts_formed (one_body ss) = (refl, stmts_formed ss, tt)

  declarators_formed : (ds : tree.Declarators) → Formed (declarators_parts ds)
  declarators_formed no_declarators = tt
  declarators_formed (then_declarator x e ds) = joined (declarator_parts x e) (declarators_parts ds) (declarator_formed x e) (declarators_formed ds)

  declarator_formed : (x : List ℕ) (e : tree.MaybeExpr) → Formed (declarator_parts x e)
  declarator_formed x no_expr = tt
  declarator_formed x (one_expr e) = (refl, (refl, expr_formed e, tt), tt)

  init_formed : (i : tree.ForInit) → Formed (init_parts i)
  init_formed no_init = tt
  init_formed (init_var ds) = (refl, declarators_formed ds, tt)
  init_formed (init_expr e) = (refl, expr_formed e, tt)

  catch_formed : (c : tree.MaybeCatch) → Formed (catch_parts c)
  catch_formed no_catch = tt
  catch_formed (one_catch x ss) = (refl, stmts_formed ss, tt)

  cases_formed : (cs : tree.Cases) → Formed (cases_parts cs)
  cases_formed no_cases = tt
  cases_formed (then_case e ss cs) =
      joined (maybe_expr_parts e) (then_part (block_node ss) (stmts_parts ss) (cases_parts cs)) (maybe_formed e) (refl, stmts_formed ss, cases_formed cs)

pub code_formed : (c : tree.Code) → Formed (part (block_node (body_of c)) (stmts_parts (body_of c)))
code_formed c = (refl, stmts_formed (body_of c), tt)

pub node_formed : (n : Node) → Formed (inside n)
node_formed (expr_node e) = expr_formed e
node_formed (stmt_node s) = stmt_formed s
node_formed (block_node ss) = stmts_formed ss
node_formed (declarator_node x e) = (refl, expr_formed e, tt)
