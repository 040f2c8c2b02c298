-- The statements of a saved page as trees (ECMA-262 5.1 sections 11 and 12).
use Rattle.std.specs.Prelude.{ℕ, Bool, List, [], ◌∷◌, None, codes}
use Rattle.js_core.specs.Tree as tree
use Rattle.js_core.specs.Tree.{name, text, bool, list, literal, func, member, call, construct, assign, no_exprs, then_expr, one_expr, no_holes, no_fields, then_field, code, expr, return, no_stmts, then_stmt}
use Rattle.js_values.specs.Throw.{kind_name}
use Rattle.js_values.specs.declared.ids.ObjId.{ObjId}
use Rattle.js_values.specs.declared.value.Value.{Value}
use Rattle.object_heap.specs.declared.property.Prop.{Prop}
use Rattle.rebuild_plan.specs.declared.statement.Maker.{Maker}
use Rattle.rebuild_plan.specs.declared.statement.Maker.TheVariants as made
use Rattle.rebuild_plan.specs.declared.statement.Rebuild.{Rebuild}
use Rattle.rebuild_plan.specs.declared.statement.Rebuild.TheVariants.{Make, Append, Attribute, SetValue, Init, Dispatch, Listen, Define, DefinePrototype, DefineLength, Filler, Clear, Timeout, Interval, Prevent}
use Rattle.page_writer.specs.HostStatements.{append_expr, attribute_expr, clear_expr, comment_expr, dispatch_expr, element_expr, event_expr, filler_expr, init_expr, interval_expr, listen_expr, set_value_expr, text_expr, timeout_expr}
pub use Rattle.page_writer.specs.References.{document_expr, number_expr, path_expr, path_from, proto_expr, reference, reference_over, thing_expr, unlisted, value_expr, value_exprs, whole_expr}

-- ---- what makes a thing

-- a function of `Object`
abbrev pub object_function : List ℕ → tree.Expr
object_function x = member (name (codes "Object")) x

abbrev pub need_names : List (List ℕ × Value) → List (List ℕ)
need_names [] = []
need_names (n ∷ ns) = n.0 ∷ need_names ns

abbrev pub need_exprs : List (List ℕ × Value) → tree.Exprs
need_exprs [] = no_exprs
need_exprs (n ∷ ns) = then_expr (value_expr n.1) (need_exprs ns)

-- the body that gives a function, and the function of the needed variables that has it
abbrev pub giving : tree.Code → tree.Stmts
giving c = then_stmt (return (one_expr (func c))) no_stmts

abbrev pub binder : tree.Code → List (List ℕ × Value) → tree.Code
binder c needs = code None (need_names needs) (giving c)

-- a function, in a call of one that binds its needed variables, where it has some
abbrev pub function_expr : tree.Code → List (List ℕ × Value) → tree.Expr
function_expr c [] = func c
function_expr c (n ∷ ns) = call (func (binder c (n ∷ ns))) (need_exprs (n ∷ ns))

abbrev pub maker_expr : Maker → tree.Expr
maker_expr (made.Plain proto) = call (object_function (codes "create")) (then_expr (proto_expr proto) no_exprs)
maker_expr made.List = list no_holes
maker_expr (made.Fault kind) = construct (name (kind_name kind)) no_exprs
maker_expr (made.Func c needs) = function_expr c needs
maker_expr (made.Bind target this args) = call (member (reference target) (codes "bind")) (then_expr (value_expr this) (value_exprs args))
maker_expr (made.Element x) = element_expr x
maker_expr (made.Text t) = text_expr t
maker_expr (made.Comment t) = comment_expr t
maker_expr made.Event = event_expr

-- ---- statements

abbrev pub value_and_writable : tree.Expr → Bool → tree.Fields → tree.Fields
value_and_writable v writable fs = then_field (codes "value") v (then_field (codes "writable") (bool writable) fs)

-- the descriptor of a whole property, and one with two attributes alone (8.10)
abbrev pub whole_descriptor : Prop → tree.Expr
whole_descriptor p =
    literal (value_and_writable (value_expr p.value) p.writable
    (then_field (codes "enumerable") (bool p.enumerable) (then_field (codes "configurable") (bool p.configurable) no_fields)))

abbrev pub short_descriptor : Value → Bool → tree.Expr
short_descriptor v writable = literal (value_and_writable (value_expr v) writable no_fields)

abbrev pub define_expr : ObjId → List ℕ → tree.Expr → tree.Expr
define_expr at x descriptor =
    call (object_function (codes "defineProperty")) (then_expr (reference at) (then_expr (text x) (then_expr descriptor no_exprs)))

abbrev pub rebuild_expr : Rebuild → tree.Expr
rebuild_expr (Make number maker) = assign None (thing_expr number) (maker_expr maker)
rebuild_expr (Append parent child) = append_expr parent child
rebuild_expr (Attribute node x v) = attribute_expr node x v
rebuild_expr (SetValue node t) = set_value_expr node t
rebuild_expr (Init event kind bubbles cancelable) = init_expr event kind bubbles cancelable
rebuild_expr (Dispatch target event) = dispatch_expr target event
rebuild_expr (Listen node kind f capture) = listen_expr node kind f capture
rebuild_expr (Define at x p) = define_expr at x (whole_descriptor p)
rebuild_expr (DefinePrototype at v writable) = define_expr at (codes "prototype") (short_descriptor v writable)
rebuild_expr (DefineLength at v writable) = define_expr at (codes "length") (short_descriptor v writable)
rebuild_expr Filler = filler_expr
rebuild_expr (Clear id) = clear_expr id
rebuild_expr (Timeout f rest) = timeout_expr f rest
rebuild_expr (Interval f rest period) = interval_expr f rest period
rebuild_expr (Prevent at) = call (object_function (codes "preventExtensions")) (then_expr (reference at) no_exprs)

abbrev pub statement : Rebuild → tree.Stmt
statement r = expr (rebuild_expr r)
