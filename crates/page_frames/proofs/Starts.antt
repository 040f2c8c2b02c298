-- How nodes begin: each case is an equation that computes.
use Rattle.std.proofs.Common.{Some, None, refl}
use Rattle.code_table.specs.Node.{expr_node, stmt_node, block_node, declarator_node}
use Rattle.js_core.specs.declared.operators.UnaryOp.TheVariants.{Delete, Typeof}
use Rattle.js_core.specs.Tree.{name, num, text, bool, null, this, list, literal, func, member, index, call, construct, unary, update, binary, logical_and, logical_or, conditional, assign, comma, var, function, expr, empty, block, if_else, do_while, while, for, for_in, continue, break, return, throw, try, switch, no_expr, one_expr, no_body, one_body, no_init, init_var, init_expr, no_catch, one_catch}
use Rattle.page_frames.specs.Start.{BeginsByKind}

pub begins_by_kind : BeginsByKind
begins_by_kind calls here None w n = refl
begins_by_kind calls here (Some (expr_node (name x))) w n = refl
begins_by_kind calls here (Some (expr_node (num k))) w n = refl
begins_by_kind calls here (Some (expr_node (text t))) w n = refl
begins_by_kind calls here (Some (expr_node (bool b))) w n = refl
begins_by_kind calls here (Some (expr_node null)) w n = refl
begins_by_kind calls here (Some (expr_node this)) w n = refl
begins_by_kind calls here (Some (expr_node (list hs))) w n = refl
begins_by_kind calls here (Some (expr_node (literal fs))) w n = refl
begins_by_kind calls here (Some (expr_node (func c))) w n = refl
begins_by_kind calls here (Some (expr_node (member e x))) w n = refl
begins_by_kind calls here (Some (expr_node (index a b))) w n = refl
begins_by_kind calls here (Some (expr_node (call (member e x) es))) w n = refl
begins_by_kind calls here (Some (expr_node (call (index a b) es))) w n = refl
begins_by_kind calls here (Some (expr_node (call f es))) w n = refl
begins_by_kind calls here (Some (expr_node (construct f es))) w n = refl
begins_by_kind calls here (Some (expr_node (unary Delete (member e x)))) w n = refl
begins_by_kind calls here (Some (expr_node (unary Delete (index a b)))) w n = refl
begins_by_kind calls here (Some (expr_node (unary Typeof (name x)))) w n = refl
begins_by_kind calls here (Some (expr_node (unary op e))) w n = refl
begins_by_kind calls here (Some (expr_node (update up prefix (name x)))) w n = refl
begins_by_kind calls here (Some (expr_node (update up prefix (member e x)))) w n = refl
begins_by_kind calls here (Some (expr_node (update up prefix (index a b)))) w n = refl
begins_by_kind calls here (Some (expr_node (update up prefix e))) w n = refl
begins_by_kind calls here (Some (expr_node (binary op a b))) w n = refl
begins_by_kind calls here (Some (expr_node (logical_and a b))) w n = refl
begins_by_kind calls here (Some (expr_node (logical_or a b))) w n = refl
begins_by_kind calls here (Some (expr_node (conditional a b c))) w n = refl
begins_by_kind calls here (Some (expr_node (assign None (name x) b))) w n = refl
begins_by_kind calls here (Some (expr_node (assign None (member e x) b))) w n = refl
begins_by_kind calls here (Some (expr_node (assign None (index a b) c))) w n = refl
begins_by_kind calls here (Some (expr_node (assign None a b))) w n = refl
begins_by_kind calls here (Some (expr_node (assign (Some op) (name x) b))) w n = refl
begins_by_kind calls here (Some (expr_node (assign (Some op) (member e x) b))) w n = refl
begins_by_kind calls here (Some (expr_node (assign (Some op) (index a b) c))) w n = refl
begins_by_kind calls here (Some (expr_node (assign (Some op) a b))) w n = refl
begins_by_kind calls here (Some (expr_node (comma es))) w n = refl
begins_by_kind calls here (Some (stmt_node (var ds))) w n = refl
begins_by_kind calls here (Some (stmt_node (function c))) w n = refl
begins_by_kind calls here (Some (stmt_node (expr e))) w n = refl
begins_by_kind calls here (Some (stmt_node empty)) w n = refl
begins_by_kind calls here (Some (stmt_node (block ss))) w n = refl
begins_by_kind calls here (Some (stmt_node (if_else e a no_body))) w n = refl
begins_by_kind calls here (Some (stmt_node (if_else e a (one_body ss)))) w n = refl
begins_by_kind calls here (Some (stmt_node (do_while b e))) w n = refl
begins_by_kind calls here (Some (stmt_node (while e b))) w n = refl
begins_by_kind calls here (Some (stmt_node (for no_init no_expr no_expr b))) w n = refl
begins_by_kind calls here (Some (stmt_node (for no_init no_expr (one_expr p) b))) w n = refl
begins_by_kind calls here (Some (stmt_node (for no_init (one_expr t) no_expr b))) w n = refl
begins_by_kind calls here (Some (stmt_node (for no_init (one_expr t) (one_expr p) b))) w n = refl
begins_by_kind calls here (Some (stmt_node (for (init_var ds) no_expr no_expr b))) w n = refl
begins_by_kind calls here (Some (stmt_node (for (init_var ds) no_expr (one_expr p) b))) w n = refl
begins_by_kind calls here (Some (stmt_node (for (init_var ds) (one_expr t) no_expr b))) w n = refl
begins_by_kind calls here (Some (stmt_node (for (init_var ds) (one_expr t) (one_expr p) b))) w n = refl
begins_by_kind calls here (Some (stmt_node (for (init_expr e) no_expr no_expr b))) w n = refl
begins_by_kind calls here (Some (stmt_node (for (init_expr e) no_expr (one_expr p) b))) w n = refl
begins_by_kind calls here (Some (stmt_node (for (init_expr e) (one_expr t) no_expr b))) w n = refl
begins_by_kind calls here (Some (stmt_node (for (init_expr e) (one_expr t) (one_expr p) b))) w n = refl
begins_by_kind calls here (Some (stmt_node (for_in declared t e b))) w n = refl
begins_by_kind calls here (Some (stmt_node continue)) w n = refl
begins_by_kind calls here (Some (stmt_node break)) w n = refl
begins_by_kind calls here (Some (stmt_node (return no_expr))) w n = refl
begins_by_kind calls here (Some (stmt_node (return (one_expr e)))) w n = refl
begins_by_kind calls here (Some (stmt_node (throw e))) w n = refl
begins_by_kind calls here (Some (stmt_node (try b no_catch no_body))) w n = refl
begins_by_kind calls here (Some (stmt_node (try b no_catch (one_body ls)))) w n = refl
begins_by_kind calls here (Some (stmt_node (try b (one_catch x cs) no_body))) w n = refl
begins_by_kind calls here (Some (stmt_node (try b (one_catch x cs) (one_body ls)))) w n = refl
begins_by_kind calls here (Some (stmt_node (switch e cs))) w n = refl
begins_by_kind calls here (Some (block_node ss)) w n = refl
begins_by_kind calls here (Some (declarator_node x e)) w n = refl
