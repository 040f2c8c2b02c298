-- The pure trees that nodes stand for.
use Rattle.std.specs.Prelude.{List, [], ◌∷◌, Option, Some, None, option_map}
use Rattle.js_core.specs.Tree as tree
use Rattle.js_core.specs.Tree.{exprs_of, maybe_expr, holes_of, fields_of, stmts_of, maybe_stmts}
use Rattle.js_core.specs.declared.syntax.ExprNode.{ExprNode}
use Rattle.js_core.specs.declared.syntax.ExprNode.TheVariants as node
use Rattle.js_core.specs.declared.syntax.StmtNode.{StmtNode}
use Rattle.js_core.specs.declared.syntax.StmtNode.TheVariants as snode
use Rattle.js_core.specs.declared.syntax.Declarator.{Declarator}
use Rattle.js_core.specs.declared.syntax.ForInit.{ForInit}
use Rattle.js_core.specs.declared.syntax.ForInit.TheVariants as init
use Rattle.js_core.specs.declared.syntax.Catch.{Catch}
use Rattle.js_core.specs.declared.syntax.Case.{Case}
use Rattle.js_core.specs.declared.syntax.If.{If}
use Rattle.js_core.specs.declared.syntax.For.{For}
use Rattle.js_core.specs.declared.syntax.Try.{Try}

abbrev pub expr_of : ExprNode → tree.Expr
expr_of (node.Name x) = tree.name x
expr_of (node.Num n) = tree.num n
expr_of (node.Text x) = tree.text x
expr_of (node.Bool b) = tree.bool b
expr_of node.Null = tree.null
expr_of node.This = tree.this
expr_of (node.List es) = tree.list (holes_of es.items)
expr_of (node.Literal fs) = tree.literal (fields_of fs.items)
expr_of (node.Func c) = tree.func c.value
expr_of (node.Member e x) = tree.member e.value x
expr_of (node.Index a b) = tree.index a.value b.value
expr_of (node.Call f es) = tree.call f.value (exprs_of es.items)
expr_of (node.New f es) = tree.construct f.value (exprs_of es.items)
expr_of (node.Unary op a) = tree.unary op a.value
expr_of (node.Update up prefix a) = tree.update up prefix a.value
expr_of (node.Binary op a b) = tree.binary op a.value b.value
expr_of (node.And a b) = tree.logical_and a.value b.value
expr_of (node.Or a b) = tree.logical_or a.value b.value
expr_of (node.Cond a b c) = tree.conditional a.value b.value c.value
expr_of (node.Assign op a b) = tree.assign op a.value b.value
expr_of (node.Comma es) = tree.comma (exprs_of es.items)

abbrev pub declarators_of : List Declarator → tree.Declarators
declarators_of [] = tree.no_declarators
declarators_of (d ∷ ds) = tree.then_declarator d.name (maybe_expr d.value) (declarators_of ds)

abbrev pub init_of : ForInit → tree.ForInit
init_of init.Nothing = tree.no_init
init_of (init.Var ds) = tree.init_var (declarators_of ds.items)
init_of (init.Expr e) = tree.init_expr e

abbrev pub catch_of : Option Catch → tree.MaybeCatch
catch_of None = tree.no_catch
catch_of (Some c) = tree.one_catch c.name (stmts_of c.body.items)

abbrev pub cases_of : List Case → tree.Cases
cases_of [] = tree.no_cases
cases_of (c ∷ cs) = tree.then_case (maybe_expr c.test) (stmts_of c.body.items) (cases_of cs)

abbrev pub if_of : If → tree.Stmt
if_of p = tree.if_else p.test (stmts_of p.first.items) (maybe_stmts (option_map (λ v. v.items) p.second))

abbrev pub for_of : For → tree.Stmt
for_of p = tree.for (init_of p.init) (maybe_expr p.test) (maybe_expr p.step) (stmts_of p.body.items)

abbrev pub try_of : Try → tree.Stmt
try_of p = tree.try (stmts_of p.block.items) (catch_of p.catch) (maybe_stmts (option_map (λ v. v.items) p.last))

abbrev pub stmt_of : StmtNode → tree.Stmt
stmt_of (snode.Var ds) = tree.var (declarators_of ds.items)
stmt_of (snode.Function c) = tree.function c.value
stmt_of (snode.Expr e) = tree.expr e
stmt_of snode.Empty = tree.empty
stmt_of (snode.Block ss) = tree.block (stmts_of ss.items)
stmt_of (snode.If p) = if_of p.value
stmt_of (snode.Do body e) = tree.do_while (stmts_of body.items) e.value
stmt_of (snode.While e body) = tree.while e.value (stmts_of body.items)
stmt_of (snode.For p) = for_of p.value
stmt_of (snode.ForIn declared t e body) = tree.for_in declared t.value e.value (stmts_of body.items)
stmt_of snode.Continue = tree.continue
stmt_of snode.Break = tree.break
stmt_of (snode.Return e) = tree.return (maybe_expr e)
stmt_of (snode.Throw e) = tree.throw e
stmt_of (snode.Try p) = try_of p.value
stmt_of (snode.Switch e cs) = tree.switch e.value (cases_of cs.items)
