-- The value of an expression.
use Rattle.std.proofs.Common.{ℕ, suc, List, []}
use Rattle.std.specs.Prelude.{◌∷◌, ◌++◌, Some, None}
use Rattle.std.specs.Fmt.{decimal}
use Rattle.js_core.specs.Tree as tree
use Rattle.js_core.specs.Tree.{name, num, text, bool, null, this, list, literal, func, member, index, call, construct, unary, update, binary, logical_and, logical_or, conditional, assign, comma, no_exprs, then_expr, no_expr, one_expr, no_holes, then_hole, no_fields, then_field}
use Rattle.js_values.specs.declared.ids.ObjId.{ObjId}
use Rattle.js_values.specs.declared.value.Value.{Value}
use Rattle.js_values.specs.declared.value.Value.TheVariants as value
use Rattle.page_meaning.specs.Act.{Act, Calls}
use Rattle.page_meaning.specs.Expressions.{eval, eval_args, eval_each, eval_fields, eval_holes}
use Rattle.page_meaning.specs.Names.{Here}
use Rattle.whole_ops.specs.Conversions.{is_true}
use Rattle.literal_values.proofs.Callers.{decimal_text}
use Rattle.literal_values.specs.Trees.{LiteralExpr, LiteralExprs, LiteralFields, LiteralHoles}
use Rattle.literal_values.specs.Values.{AreBounded, IsBounded}
use Rattle.written_pages.proofs.Acts.{also_is, bind_is, choose_is, give_is}
use Rattle.written_pages.proofs.Functions.{close_over_is}
use Rattle.written_pages.proofs.Lists.{bounded_more}
use Rattle.written_pages.proofs.Made.{new_plain_is}
use Rattle.written_pages.proofs.OnLists.{ListActIs, always, length_set, list_also, new_list_then}
use Rattle.written_pages.proofs.Names.{read_name_is}
use Rattle.written_pages.proofs.Operands.{PartsAre, assign_is, assign_with_is, call_is, unary_is, update_is}
use Rattle.written_pages.proofs.Operators.{operate_is}
use Rattle.written_pages.proofs.Properties.{define_member_is, get_index_is, get_member_is}
use Rattle.written_pages.specs.Acts.{CallsAre, HereIs, SignalIs, Writes}

mutual
  pub eval_is : {calls : Calls} → CallsAre calls → (here : Here) → HereIs here → (e : tree.Expr) → LiteralExpr e → Writes (eval calls here e)
  eval_is c here t (name x) h = read_name_is here x h
  eval_is c here t (num n) h = give_is (value.Num n) h
  eval_is c here t (text x) h = give_is (value.Text x) h
  eval_is c here t (bool b) h = give_is (value.Bool b) tt
  eval_is c here t null h = give_is value.Null tt
  eval_is c here t this h = give_is here.this t
  eval_is c here t (list hs) h = new_list_then (λ a. eval_holes_is c here t hs a 0 h)
  eval_is c here t (literal fs) h = bind_is new_plain_is (λ o p. eval_fields_is c here t fs o h)
  eval_is c here t (func d) h = close_over_is d here.env h
  eval_is c here t (member e x) h = also_is (eval_is c here t e h.0) (λ base p. get_member_is base x p)
  eval_is c here t (index a b) h = also_is (eval_is c here t a h.0) (λ base p. also_is (eval_is c here t b h.1) (λ key q. get_index_is c base key p q))
  eval_is c here t (call e es) h =
      call_is c here e es (eval_is c here t e h.0) (parts_are c here t e h.0) (λ f this p. eval_args_is c here t es [] tt h.1 (λ vs q. c.call f this vs p q))
  eval_is c here t (construct e es) h =
      also_is (eval_is c here t e h.0) (λ f p. eval_args_is c here t es [] tt h.1 (λ vs q. c.construct f vs p q))
  eval_is c here t (unary op e) h = unary_is c here op e h (eval_is c here t e h) (parts_are c here t e h)
  eval_is c here t (update up prefix e) h = update_is c here up prefix e h (parts_are c here t e h)
  eval_is c here t (binary op a b) h =
      also_is (eval_is c here t a h.0) (λ v p. also_is (eval_is c here t b h.1) (λ w q. operate_is c op v w p q))
  eval_is c here t (logical_and a b) h = also_is (eval_is c here t a h.0) (λ v p. choose_is (is_true v) (eval_is c here t b h.1) (give_is v p))
  eval_is c here t (logical_or a b) h = also_is (eval_is c here t a h.0) (λ v p. choose_is (is_true v) (give_is v p) (eval_is c here t b h.1))
  eval_is c here t (conditional a b d) h =
      also_is (eval_is c here t a h.0) (λ v p. choose_is (is_true v) (eval_is c here t b h.1) (eval_is c here t d h.2))
  eval_is c here t (assign None e b) h = assign_is c here e b h.0 (parts_are c here t e h.0) (eval_is c here t b h.1)
  eval_is c here t (assign (Some op) e b) h = assign_with_is c here op e b h.0 (parts_are c here t e h.0) (eval_is c here t b h.1)
  eval_is c here t (comma es) h = eval_each_is c here t es value.Undefined h tt

  -- the parts of a reference
  pub parts_are : {calls : Calls} → CallsAre calls → (here : Here) → HereIs here → (e : tree.Expr) → LiteralExpr e → PartsAre calls here e
  parts_are c here t (member e x) h = eval_is c here t e h.0
  parts_are c here t (index a b) h = (eval_is c here t a h.0, eval_is c here t b h.1)
  parts_are c here t e h = tt

  pub eval_args_is : {calls : Calls} {f : List Value → Act} → CallsAre calls → (here : Here) → HereIs here → (es : tree.Exprs) (got : List Value) → AreBounded got
      → LiteralExprs es → ((vs : List Value) → AreBounded vs → Writes (f vs)) → Writes (eval_args calls here es got f)
  eval_args_is c here t no_exprs got g h k = k got g
  eval_args_is c here t (then_expr e es) got g h k =
      also_is (eval_is c here t e h.0) (λ v p. eval_args_is c here t es (got ++ v ∷ []) (bounded_more got v g p) h.1 k)

  pub eval_each_is : {calls : Calls} → CallsAre calls → (here : Here) → HereIs here → (es : tree.Exprs) (v : Value) → LiteralExprs es → IsBounded v
      → Writes (eval_each calls here es v)
  eval_each_is c here t no_exprs v h k = give_is v k
  eval_each_is c here t (then_expr e es) v h k = also_is (eval_is c here t e h.0) (λ w p. eval_each_is c here t es w h.1 p)

  pub eval_holes_is : {calls : Calls} → CallsAre calls → (here : Here) → HereIs here → (hs : tree.Holes) (a : ObjId) (k : ℕ) → LiteralHoles hs
      → ListActIs a SignalIs (eval_holes calls here hs a k)
  eval_holes_is c here t no_holes a k h = list_also (length_set a k) (λ v p. always (give_is (value.Object a) tt))
  eval_holes_is c here t (then_hole no_expr hs) a k h = eval_holes_is c here t hs a (suc k) h.1
  eval_holes_is c here t (then_hole (one_expr e) hs) a k h =
      list_also (always (eval_is c here t e h.0)) (λ v p.
      list_also (always (define_member_is a (decimal k) v (decimal_text k) p)) (λ w q. eval_holes_is c here t hs a (suc k) h.1))

  pub eval_fields_is : {calls : Calls} → CallsAre calls → (here : Here) → HereIs here → (fs : tree.Fields) (o : ObjId) → LiteralFields fs
      → Writes (eval_fields calls here fs o)
  eval_fields_is c here t no_fields o h = give_is (value.Object o) tt
  eval_fields_is c here t (then_field x e fs) o h =
      also_is (eval_is c here t e h.1) (λ v p. also_is (define_member_is o x v h.0 p) (λ w q. eval_fields_is c here t fs o h.2))
