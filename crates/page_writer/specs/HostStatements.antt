-- The statements of nodes, events, listeners and timers as trees (ECMA-262 5.1 section 11; DOM Level 2 Core and Events; HTML, timers).
use Rattle.std.specs.Prelude.{ℕ, Bool, List, None, codes}
use Rattle.js_core.specs.Tree as tree
use Rattle.js_core.specs.Tree.{assign, bool, call, member, name, no_exprs, text, then_expr}
use Rattle.js_values.specs.declared.ids.ObjId.{ObjId}
use Rattle.page_writer.specs.References.{document_expr, number_expr, reference}

-- a call of a method of an object, of one of the document, and of a function of the global object
abbrev pub method : ObjId → List ℕ → tree.Exprs → tree.Expr
method at x args = call (member (reference at) x) args

abbrev pub document_method : List ℕ → tree.Exprs → tree.Expr
document_method x args = call (member document_expr x) args

abbrev pub global_call : List ℕ → tree.Exprs → tree.Expr
global_call x args = call (name x) args

abbrev pub one : tree.Expr → tree.Exprs
one e = then_expr e no_exprs

abbrev pub two : tree.Expr → tree.Expr → tree.Exprs
two e f = then_expr e (one f)

abbrev pub three : tree.Expr → tree.Expr → tree.Expr → tree.Exprs
three e f g = then_expr e (two f g)

-- ---- nodes

abbrev pub element_expr : List ℕ → tree.Expr
element_expr x = document_method (codes "createElement") (one (text x))

abbrev pub text_expr : List ℕ → tree.Expr
text_expr t = document_method (codes "createTextNode") (one (text t))

abbrev pub comment_expr : List ℕ → tree.Expr
comment_expr t = document_method (codes "createComment") (one (text t))

abbrev pub append_expr : ObjId → ObjId → tree.Expr
append_expr parent child = method parent (codes "appendChild") (one (reference child))

abbrev pub attribute_expr : ObjId → List ℕ → List ℕ → tree.Expr
attribute_expr node x v = method node (codes "setAttribute") (two (text x) (text v))

abbrev pub set_value_expr : ObjId → List ℕ → tree.Expr
set_value_expr node t = assign None (member (reference node) (codes "value")) (text t)

abbrev pub listen_expr : ObjId → List ℕ → ObjId → Bool → tree.Expr
listen_expr node kind f capture = method node (codes "addEventListener") (three (text kind) (reference f) (bool capture))

-- ---- events

abbrev pub event_expr : tree.Expr
event_expr = document_method (codes "createEvent") (one (text (codes "Event")))

abbrev pub init_expr : ObjId → List ℕ → Bool → Bool → tree.Expr
init_expr event kind bubbles cancelable = method event (codes "initEvent") (three (text kind) (bool bubbles) (bool cancelable))

abbrev pub dispatch_expr : ObjId → ObjId → tree.Expr
dispatch_expr target event = method target (codes "dispatchEvent") (one (reference event))

-- ---- timers

abbrev pub filler_expr : tree.Expr
filler_expr = global_call (codes "setTimeout") (two (name (codes "Object")) (number_expr 0))

abbrev pub clear_expr : ℕ → tree.Expr
clear_expr id = global_call (codes "clearTimeout") (one (number_expr id))

abbrev pub timeout_expr : ObjId → ℕ → tree.Expr
timeout_expr f rest = global_call (codes "setTimeout") (two (reference f) (number_expr rest))

abbrev pub interval_expr : ObjId → ℕ → ℕ → tree.Expr
interval_expr f rest period = global_call (codes "setIntervalFrom") (three (reference f) (number_expr rest) (number_expr period))
