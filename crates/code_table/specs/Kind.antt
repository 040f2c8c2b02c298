-- The kinds of nodes.
use Rattle.std.specs.Prelude.{ℕ, Bool, List, [], ◌∷◌, Option, Some, None}
use Rattle.js_core.specs.declared.operators.UnaryOp.{UnaryOp}
use Rattle.js_core.specs.declared.operators.UnaryOp.TheVariants.{Delete, Typeof}
use Rattle.js_core.specs.declared.operators.BinaryOp.{BinaryOp}
use Rattle.js_core.specs.Tree as tree
use Rattle.js_core.specs.Tree.{name, num, text, bool, null, this, list, literal, func, member, index, call, construct, unary, update, binary, logical_and, logical_or, conditional, assign, comma, no_fields, then_field, var, function, expr, empty, block, if_else, do_while, while, for, for_in, continue, break, return, throw, try, switch, no_catch, one_catch}
use Rattle.code_table.specs.Node.{Node, expr_node, stmt_node, block_node, declarator_node}
use Rattle.code_table.specs.declared.kind.Kind.{Kind}
use Rattle.code_table.specs.declared.kind.Kind.TheVariants as kind

-- the names of an object literal
abbrev pub field_names : tree.Fields → List (List ℕ)
field_names no_fields = []
field_names (then_field x e fs) = x ∷ field_names fs

-- a call, by what is called (11.2.3)
abbrev pub call_kind : tree.Expr → Kind
call_kind (member e x) = kind.CallMember x
call_kind (index a b) = kind.CallIndex
call_kind f = kind.Call

abbrev pub unary_kind : UnaryOp → tree.Expr → Kind
unary_kind Delete (member e x) = kind.DeleteMember x
unary_kind Delete (index a b) = kind.DeleteIndex
unary_kind Typeof (name x) = kind.TypeofName x
unary_kind op e = kind.Unary op

-- no accepted script has another target
abbrev pub update_kind : Bool → Bool → tree.Expr → Kind
update_kind up prefix (name x) = kind.UpdateName up prefix x
update_kind up prefix (member e x) = kind.UpdateMember up prefix x
update_kind up prefix (index a b) = kind.UpdateIndex up prefix
update_kind up prefix e = kind.Nothing

abbrev pub assign_kind : Option BinaryOp → tree.Expr → Kind
assign_kind op (name x) = kind.AssignName op x
assign_kind op (member e x) = kind.AssignMember op x
assign_kind op (index a b) = kind.AssignIndex op
assign_kind op e = kind.Nothing

abbrev pub expr_kind : tree.Expr → Kind
expr_kind (name x) = kind.Name x
expr_kind (num n) = kind.Num n
expr_kind (text t) = kind.Text t
expr_kind (bool b) = kind.Bool b
expr_kind null = kind.Null
expr_kind this = kind.This
expr_kind (list hs) = kind.List
expr_kind (literal fs) = kind.Literal (field_names fs)
expr_kind (func c) = kind.Func c
expr_kind (member e x) = kind.Member x
expr_kind (index a b) = kind.Index
expr_kind (call f es) = call_kind f
expr_kind (construct f es) = kind.New
expr_kind (unary op e) = unary_kind op e
expr_kind (update up prefix e) = update_kind up prefix e
expr_kind (binary op a b) = kind.Binary op
expr_kind (logical_and a b) = kind.And
expr_kind (logical_or a b) = kind.Or
expr_kind (conditional a b c) = kind.Cond
expr_kind (assign op a b) = assign_kind op a
expr_kind (comma es) = kind.Comma

abbrev pub catch_name : tree.MaybeCatch → Option (List ℕ)
catch_name no_catch = None
catch_name (one_catch x ss) = Some x

abbrev pub stmt_kind : tree.Stmt → Kind
stmt_kind (var ds) = kind.Var
stmt_kind (function c) = kind.Empty
stmt_kind (expr e) = kind.Discard
stmt_kind empty = kind.Empty
stmt_kind (block ss) = kind.Block
stmt_kind (if_else e a b) = kind.If
stmt_kind (do_while a e) = kind.Do
stmt_kind (while e a) = kind.While
stmt_kind (for i t s a) = kind.For
stmt_kind (for_in declared t e a) = kind.ForIn
stmt_kind continue = kind.Continue
stmt_kind break = kind.Break
stmt_kind (return e) = kind.Return
stmt_kind (throw e) = kind.Throw
stmt_kind (try a c l) = kind.Try (catch_name c)
stmt_kind (switch e cs) = kind.Switch

abbrev pub node_kind : Node → Kind
node_kind (expr_node e) = expr_kind e
node_kind (stmt_node s) = stmt_kind s
node_kind (block_node ss) = kind.Block
node_kind (declarator_node x e) = kind.Declarator x

-- where there is no node, there is a kind of its own
abbrev pub kind_of : Option Node → Kind
kind_of None = kind.Nothing
kind_of (Some n) = node_kind n
