-- Each child of a node is smaller.
use Rattle.std.specs.Prelude.{ℕ, ◌≤◌, ◌+◌, max, List, [], ◌∷◌, Option, Some, None, option_map}
use Rattle.std.specs.declared.vec.Vec.{Vec}
use Rattle.std.specs.declared.alloc.Global.{Global}
use Rattle.std.proofs.Common.{arith}
use denote.Param.Weighed.{most}
use Rattle.js_core.specs.Tree as tree
use Rattle.js_core.specs.Tree.{exprs_of, maybe_expr, holes_of, fields_of, stmts_of, maybe_stmts}
use Rattle.js_core.specs.Sizes.{expr_size, exprs_size, maybe_expr_size, holes_size, fields_size, code_size, stmt_size, stmts_size, maybe_stmts_size, declarators_size, for_init_size, maybe_catch_size, cases_size}
use Rattle.js_core.specs.Views.{expr_of, stmt_of, declarators_of, init_of, catch_of, cases_of}
use Rattle.js_core.specs.declared.syntax.ExprNode.{ExprNode}
use Rattle.js_core.specs.declared.syntax.ExprNode.TheVariants as node
use Rattle.js_core.specs.declared.syntax.StmtNode.{StmtNode}
use Rattle.js_core.specs.declared.syntax.StmtNode.TheVariants as snode
use Rattle.js_core.specs.declared.syntax.Declarator.{Declarator}
use Rattle.js_core.specs.declared.syntax.ForInit.{ForInit}
use Rattle.js_core.specs.declared.syntax.ForInit.TheVariants as init
use Rattle.js_core.specs.declared.syntax.Catch.{Catch}
use Rattle.js_core.specs.declared.syntax.Case.{Case}
use Rattle.js_core.specs.declared.syntax.Code.TheDeep.{deep-ExprNode, deep-StmtNode, deep-Code, deep-Declarator, deep-ForInit, deep-Catch, deep-Case}
use Rattle.js_core.specs.declared.syntax.Code.TheShapes.{weighed-ExprNode-List-0-at-1, weighed-ExprNode-Literal-0-at-2, weighed-StmtNode-Return-0-at-1, weighed-Try-catch-at-1, weighed-If-second-at-2}
use Rattle.js_core.specs.declared.syntax.Code.TheInside.{Inside}

abbrev below : tree.Expr → ℕ
below e = expr_size e + 1

abbrev below_stmt : tree.Stmt → ℕ
below_stmt s = stmt_size s + 1

exprs_fall : (es : List tree.Expr) → most below es ≤ exprs_size (exprs_of es)
exprs_fall [] = omega arith
exprs_fall (e ∷ es) = omega (arith, exprs_fall es)

pub maybe_falls : (o : Option tree.Expr) → weighed-StmtNode-Return-0-at-1.weight tree.Expr below o ≤ maybe_expr_size (maybe_expr o)
maybe_falls None = omega arith
maybe_falls (Some e) = omega arith

holes_fall : (es : List (Option tree.Expr)) → most (weighed-ExprNode-List-0-at-1.weight tree.Expr below) es ≤ holes_size (holes_of es)
holes_fall [] = omega arith
holes_fall (None ∷ es) = omega (arith, holes_fall es)
holes_fall (Some e ∷ es) = omega (arith, holes_fall es)

fields_fall : (fs : List (List ℕ × tree.Expr)) → most (weighed-ExprNode-Literal-0-at-2.weight tree.Expr below) fs ≤ fields_size (fields_of fs)
fields_fall [] = omega arith
fields_fall (f ∷ fs) = omega (arith, fields_fall fs)

pub stmts_fall : (ss : List tree.Stmt) → most below_stmt ss ≤ stmts_size (stmts_of ss)
stmts_fall [] = omega arith
stmts_fall (s ∷ ss) = omega (arith, stmts_fall ss)

pub maybe_stmts_fall : (o : Option (Vec tree.Stmt Global)) → weighed-If-second-at-2.weight tree.Stmt below_stmt o ≤ maybe_stmts_size (maybe_stmts (option_map (λ v. v.items) o))
maybe_stmts_fall None = omega arith
maybe_stmts_fall (Some ss) = omega (arith, stmts_fall ss.items)

declarators_fall : (ds : List Declarator) → most deep-Declarator ds ≤ declarators_size (declarators_of ds)
declarators_fall [] = omega arith
declarators_fall (d ∷ ds) = omega (arith, maybe_falls d.value, declarators_fall ds)

init_falls : (i : ForInit) → deep-ForInit i ≤ for_init_size (init_of i)
init_falls init.Nothing = omega arith
init_falls (init.Var ds) = omega (arith, declarators_fall ds.items)
init_falls (init.Expr e) = omega arith

catch_falls : (o : Option Catch) → weighed-Try-catch-at-1.weight Catch deep-Catch o ≤ maybe_catch_size (catch_of o)
catch_falls None = omega arith
catch_falls (Some c) = omega (arith, stmts_fall c.body.items)

cases_fall : (cs : List Case) → most deep-Case cs ≤ cases_size (cases_of cs)
cases_fall [] = omega arith
cases_fall (c ∷ cs) = omega (arith, maybe_falls c.test, stmts_fall c.body.items, cases_fall cs)

pub expr_falls : (n : ExprNode) → max (deep-ExprNode n) 0 ≤ expr_size (expr_of n)
expr_falls (node.Name x) = omega arith
expr_falls (node.Num n) = omega arith
expr_falls (node.Text x) = omega arith
expr_falls (node.Bool b) = omega arith
expr_falls node.Null = omega arith
expr_falls node.This = omega arith
expr_falls (node.List es) = omega (arith, holes_fall es.items)
expr_falls (node.Literal fs) = omega (arith, fields_fall fs.items)
expr_falls (node.Func c) = omega arith
expr_falls (node.Member e x) = omega arith
expr_falls (node.Index a b) = omega arith
expr_falls (node.Call f es) = omega (arith, exprs_fall es.items)
expr_falls (node.New f es) = omega (arith, exprs_fall es.items)
expr_falls (node.Unary op a) = omega arith
expr_falls (node.Update up prefix a) = omega arith
expr_falls (node.Binary op a b) = omega arith
expr_falls (node.And a b) = omega arith
expr_falls (node.Or a b) = omega arith
expr_falls (node.Cond a b c) = omega arith
expr_falls (node.Assign op a b) = omega arith
expr_falls (node.Comma es) = omega (arith, exprs_fall es.items)

pub stmt_falls : (n : StmtNode) → max (deep-StmtNode n) 0 ≤ stmt_size (stmt_of n)
stmt_falls (snode.Var ds) = omega (arith, declarators_fall ds.items)
stmt_falls (snode.Function c) = omega arith
stmt_falls (snode.Expr e) = omega arith
stmt_falls snode.Empty = omega arith
stmt_falls (snode.Block ss) = omega (arith, stmts_fall ss.items)
stmt_falls (snode.If p) = omega (arith, stmts_fall p.value.first.items, maybe_stmts_fall p.value.second)
stmt_falls (snode.Do body e) = omega (arith, stmts_fall body.items)
stmt_falls (snode.While e body) = omega (arith, stmts_fall body.items)
stmt_falls (snode.For p) = omega (arith, init_falls p.value.init, maybe_falls p.value.test, maybe_falls p.value.step, stmts_fall p.value.body.items)
stmt_falls (snode.ForIn declared t e body) = omega (arith, stmts_fall body.items)
stmt_falls snode.Continue = omega arith
stmt_falls snode.Break = omega arith
stmt_falls (snode.Return e) = omega (arith, maybe_falls e)
stmt_falls (snode.Throw e) = omega arith
stmt_falls (snode.Try p) = omega (arith, stmts_fall p.value.block.items, catch_falls p.value.catch, maybe_stmts_fall p.value.last)
stmt_falls (snode.Switch e cs) = omega (arith, cases_fall cs.items)

pub code_falls : (c : Inside) → deep-Code c ≤ code_size (tree.code c.name c.formals.items (stmts_of c.body.items))
code_falls c = omega (arith, stmts_fall c.body.items)
