use Rattle.std.proofs.Common.{rules, ◌≡◌, ℕ, ◌+◌, ◌*◌, ◌<◌, ◌≤◌, List, [], ◌∷◌, arith}
use Rattle.js_core.proofs.Dropping.{lower, exprs_lower, holes_lower, fields_lower, stmts_lower, declarators_lower, cases_lower, body_lower, header_lower}
use Rattle.js_core.proofs.syntax.+dropping.Goals as goal

pub Catch::drop-drop-body-requires : goal.Catch::drop-drop-body-requires
Catch::drop-drop-body-requires t c κs = ((grind (arith, body_lower), tt), search rules)

pub Expr::drop-drop-node-requires-3 : goal.Expr::drop-drop-node-requires-3
Expr::drop-drop-node-requires-3 t c κs = ((grind (arith, holes_lower), tt), search rules)

pub Expr::drop-drop-node-requires-4 : goal.Expr::drop-drop-node-requires-4
Expr::drop-drop-node-requires-4 t c κs = search (rules, fields_lower)

pub Expr::drop-drop-node-requires-8-2 : goal.Expr::drop-drop-node-requires-8-2
Expr::drop-drop-node-requires-8-2 t c κs = ((grind (arith, exprs_lower), tt), search rules)

pub Expr::drop-drop-node-requires-9-2 : goal.Expr::drop-drop-node-requires-9-2
Expr::drop-drop-node-requires-9-2 t c κs = ((grind (arith, exprs_lower), tt), search rules)

pub Expr::drop-drop-node-requires-17 : goal.Expr::drop-drop-node-requires-17
Expr::drop-drop-node-requires-17 t c κs = first_of (search (rules, lower), grind (arith, lower))

pub ForInit::drop-drop-declarators-requires : goal.ForInit::drop-drop-declarators-requires
ForInit::drop-drop-declarators-requires t c κs = ((grind (arith, header_lower), tt), search rules)

pub Stmt::drop-drop-node-requires : goal.Stmt::drop-drop-node-requires
Stmt::drop-drop-node-requires t c κs = ((grind (arith, declarators_lower), tt), search rules)

pub Stmt::drop-drop-node-requires-4 : goal.Stmt::drop-drop-node-requires-4
Stmt::drop-drop-node-requires-4 t c κs = ((grind (arith, lower), tt), search rules)

pub Stmt::drop-drop-node-requires-6 : goal.Stmt::drop-drop-node-requires-6
Stmt::drop-drop-node-requires-6 t c κs = ((grind (arith, lower), tt), search rules)

pub Stmt::drop-drop-node-requires-7-2 : goal.Stmt::drop-drop-node-requires-7-2
Stmt::drop-drop-node-requires-7-2 t c κs = ((grind (arith, lower), tt), search rules)

pub Stmt::drop-drop-node-requires-9-3 : goal.Stmt::drop-drop-node-requires-9-3
Stmt::drop-drop-node-requires-9-3 t c κs = ((grind (arith, lower), tt), search rules)

pub Stmt::drop-drop-node-requires-13-2 : goal.Stmt::drop-drop-node-requires-13-2
Stmt::drop-drop-node-requires-13-2 t c κs = ((grind (arith, lower), tt), search rules)
