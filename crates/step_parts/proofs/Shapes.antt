-- Which node a kind is: a node is known by the kind that it has.
use Rattle.std.proofs.Common.{◌≡◌, refl, ap, Bool, true, false, List, ℕ, Option, Some, None}
use Rattle.code_table.specs.Kind.{kind_of, expr_kind, stmt_kind, field_names}
use Rattle.code_table.specs.Node.{Node, expr_node, stmt_node, block_node, declarator_node}
use Rattle.code_table.specs.declared.kind.Kind.{Kind}
use Rattle.code_table.specs.declared.kind.Kind.TheVariants as kind
use Rattle.js_core.specs.Tree as tree
use Rattle.js_core.specs.Tree.{name, member, index, list, literal, call, construct, unary, update, assign, comma, var, function, expr, empty, block, if_else, do_while, while, for, for_in, continue, break, return, throw, try, switch}
use Rattle.js_core.specs.declared.operators.BinaryOp.{BinaryOp}
use Rattle.js_core.specs.declared.operators.UnaryOp.{UnaryOp}
use Rattle.js_core.specs.declared.operators.UnaryOp.TheVariants.{Delete, Typeof}
use Rattle.step_parts.specs.Families.{family_of}
use Rattle.step_parts.specs.declared.family.Family.{Family}
use Rattle.step_parts.specs.declared.family.Family.TheVariants.{Statement, Sequence, Call}

-- calls are of one family, whatever is called
call_family : (f : tree.Expr) (es : tree.Exprs) → family_of (expr_kind (call f es)) ≡ Call
call_family (member e x) es = refl
call_family (index a b) es = refl
call_family f es = refl

-- the families of unary operators, updates and assignments are none of those below
abbrev is_apart : Family → Bool
is_apart Statement = false
is_apart Sequence = false
is_apart Call = false
is_apart f = true

unary_apart : (op : UnaryOp) (e : tree.Expr) → is_apart (family_of (expr_kind (unary op e))) ≡ true
unary_apart Delete (member e x) = refl
unary_apart Delete (index a b) = refl
unary_apart Delete e = refl
unary_apart Typeof (name x) = refl
unary_apart Typeof e = refl
unary_apart op e = refl

update_apart : (up prefix : Bool) (e : tree.Expr) → is_apart (family_of (expr_kind (update up prefix e))) ≡ true
update_apart up prefix (name x) = refl
update_apart up prefix (member e x) = refl
update_apart up prefix (index a b) = refl
update_apart up prefix e = refl

assign_apart : (op : Option BinaryOp) (a b : tree.Expr) → is_apart (family_of (expr_kind (assign op a b))) ≡ true
assign_apart op (name x) b = refl
assign_apart op (member e x) b = refl
assign_apart op (index a b) c = refl
assign_apart op a b = refl

apart : (f g : Family) → is_apart f ≡ true → f ≡ g → is_apart g ≡ false → ⊥
apart f g a e n = cc (a, ap is_apart e, n)

-- no expression is a statement
pub no_statement : (e : tree.Expr) → family_of (expr_kind e) ≡ Statement → ⊥
no_statement (call f es) h = cc (h, call_family f es)
no_statement (unary op e) h = apart (family_of (expr_kind (unary op e))) Statement (unary_apart op e) h refl
no_statement (update up prefix e) h = apart (family_of (expr_kind (update up prefix e))) Statement (update_apart up prefix e) h refl
no_statement (assign op a b) h = apart (family_of (expr_kind (assign op a b))) Statement (assign_apart op a b) h refl
no_statement e h = cc h

-- statements of a kind
pub data IsBlock : Option Node → Type 0 where
  body : (ss : tree.Stmts) → IsBlock (Some (block_node ss))
  braced : (ss : tree.Stmts) → IsBlock (Some (stmt_node (block ss)))

pub block_shape : (at : Option Node) → kind_of at ≡ kind.Block → IsBlock at
block_shape None k = cc
block_shape (Some (expr_node e)) k = absurd (no_statement e (ap family_of k))
block_shape (Some (block_node ss)) k = body ss
block_shape (Some (stmt_node (block ss))) k = braced ss
block_shape (Some (stmt_node s)) k = cc
block_shape (Some (declarator_node x e)) k = cc

pub var_shape : (at : Option Node) → kind_of at ≡ kind.Var → (ds : tree.Declarators) × (at ≡ Some (stmt_node (var ds)))
var_shape None k = cc
var_shape (Some (expr_node e)) k = absurd (no_statement e (ap family_of k))
var_shape (Some (stmt_node (var ds))) k = (ds, refl)
var_shape (Some (stmt_node s)) k = cc
var_shape (Some (block_node ss)) k = cc
var_shape (Some (declarator_node x e)) k = cc

pub switch_shape : (at : Option Node) → kind_of at ≡ kind.Switch → (e : tree.Expr) × ((cs : tree.Cases) × (at ≡ Some (stmt_node (switch e cs))))
switch_shape None k = cc
switch_shape (Some (expr_node e)) k = absurd (no_statement e (ap family_of k))
switch_shape (Some (stmt_node (switch e cs))) k = (e, (cs, refl))
switch_shape (Some (stmt_node s)) k = cc
switch_shape (Some (block_node ss)) k = cc
switch_shape (Some (declarator_node x e)) k = cc

-- literals and comma expressions
pub data IsSequence : Option Node → Type 0 where
  elements : (hs : tree.Holes) → IsSequence (Some (expr_node (list hs)))
  fields : (fs : tree.Fields) → IsSequence (Some (expr_node (literal fs)))
  commas : (es : tree.Exprs) → IsSequence (Some (expr_node (comma es)))

sequence_expr : (e : tree.Expr) → family_of (expr_kind e) ≡ Sequence → IsSequence (Some (expr_node e))
sequence_expr (list hs) h = elements hs
sequence_expr (literal fs) h = fields fs
sequence_expr (comma es) h = commas es
sequence_expr (call f es) h = cc (h, call_family f es)
sequence_expr (unary op e) h = absurd (apart (family_of (expr_kind (unary op e))) Sequence (unary_apart op e) h refl)
sequence_expr (update up prefix e) h = absurd (apart (family_of (expr_kind (update up prefix e))) Sequence (update_apart up prefix e) h refl)
sequence_expr (assign op a b) h = absurd (apart (family_of (expr_kind (assign op a b))) Sequence (assign_apart op a b) h refl)
sequence_expr e h = cc h

-- every statement is one
stmt_family : (s : tree.Stmt) → family_of (stmt_kind s) ≡ Statement
stmt_family (var ds) = refl
stmt_family (function c) = refl
stmt_family (expr e) = refl
stmt_family empty = refl
stmt_family (block ss) = refl
stmt_family (if_else e a b) = refl
stmt_family (do_while a e) = refl
stmt_family (while e a) = refl
stmt_family (for i t l a) = refl
stmt_family (for_in declared t e a) = refl
stmt_family continue = refl
stmt_family break = refl
stmt_family (return e) = refl
stmt_family (throw e) = refl
stmt_family (try a c l) = refl
stmt_family (switch e cs) = refl

pub sequence_shape : (at : Option Node) → family_of (kind_of at) ≡ Sequence → IsSequence at
sequence_shape None h = cc
sequence_shape (Some (expr_node e)) h = sequence_expr e h
sequence_shape (Some (stmt_node s)) h = cc (h, stmt_family s)
sequence_shape (Some (block_node ss)) h = cc
sequence_shape (Some (declarator_node x e)) h = cc

-- calls and constructions
pub data IsCall : Option Node → Type 0 where
  called : (f : tree.Expr) (es : tree.Exprs) → IsCall (Some (expr_node (call f es)))
  built : (f : tree.Expr) (es : tree.Exprs) → IsCall (Some (expr_node (construct f es)))

call_expr : (e : tree.Expr) → family_of (expr_kind e) ≡ Call → IsCall (Some (expr_node e))
call_expr (call f es) h = called f es
call_expr (construct f es) h = built f es
call_expr (unary op e) h = absurd (apart (family_of (expr_kind (unary op e))) Call (unary_apart op e) h refl)
call_expr (update up prefix e) h = absurd (apart (family_of (expr_kind (update up prefix e))) Call (update_apart up prefix e) h refl)
call_expr (assign op a b) h = absurd (apart (family_of (expr_kind (assign op a b))) Call (assign_apart op a b) h refl)
call_expr e h = cc h

pub call_shape : (at : Option Node) → family_of (kind_of at) ≡ Call → IsCall at
call_shape None h = cc
call_shape (Some (expr_node e)) h = call_expr e h
call_shape (Some (stmt_node s)) h = cc (h, stmt_family s)
call_shape (Some (block_node ss)) h = cc
call_shape (Some (declarator_node x e)) h = cc
