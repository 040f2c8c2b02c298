-- Expressions that look at what stands in them: calls, `delete` and `typeof`, updates and assignments.
use Rattle.std.proofs.Common.{Bool, []}
use Rattle.std.specs.Prelude.{Some, None, ⊤}
use Rattle.js_core.specs.Tree as tree
use Rattle.js_core.specs.Tree.{name, this, member, index, call, unary, update, assign}
use Rattle.js_core.specs.declared.operators.BinaryOp.{BinaryOp}
use Rattle.js_core.specs.declared.operators.UnaryOp.{UnaryOp}
use Rattle.js_core.specs.declared.operators.UnaryOp.TheVariants.{Void, Typeof, Plus, Minus, BitNot, Not, Delete}
use Rattle.js_values.specs.declared.value.Value.{Value}
use Rattle.js_values.specs.declared.value.Value.TheVariants as value
use Rattle.page_meaning.specs.Act.{Act, Calls}
use Rattle.page_meaning.specs.Convert.{text_in}
use Rattle.page_meaning.specs.Expressions.{assign_to, assigned, eval, eval_args}
use Rattle.page_meaning.specs.HostPuts.{put_member}
use Rattle.page_meaning.specs.Names.{Here, write}
use Rattle.literal_values.proofs.Callers.{text_in_units}
use Rattle.literal_values.specs.Trees.{LiteralExpr}
use Rattle.literal_values.specs.Values.{IsBounded}
use Rattle.written_pages.proofs.Acts.{also_is, bind_is, give_is}
use Rattle.written_pages.proofs.HostPuts.{put_member_is}
use Rattle.written_pages.proofs.Names.{assign_name_is, read_is, resolve_is, type_of_name_is, write_is}
use Rattle.written_pages.proofs.Operators.{operate_is, operate_one_is, update_with_is}
use Rattle.written_pages.proofs.Properties.{delete_member_is, get_index_is, get_member_is, key_of_is, read_property_is, with_properties_is}
use Rattle.written_pages.specs.Acts.{CallsAre, Continues, Writes}

-- the parts of a reference
abbrev pub PartsAre : Calls → Here → tree.Expr → Type 0
PartsAre calls here (member e x) = Writes (eval calls here e)
PartsAre calls here (index a b) = Writes (eval calls here a) × Writes (eval calls here b)
PartsAre calls here e = ⊤

-- a call goes on with the function and `this`
abbrev pub CallsOn : Calls → Here → tree.Exprs → Type 0
CallsOn calls here es = (f this : Value) → IsBounded this → Writes (eval_args calls here es [] (calls.call f this))

pub call_is : {calls : Calls} → CallsAre calls → (here : Here) (e : tree.Expr) (es : tree.Exprs) → Writes (eval calls here e) → PartsAre calls here e
    → CallsOn calls here es → Writes (eval calls here (call e es))
call_is c here (member e x) es whole parts go = also_is parts (λ base p. also_is (get_member_is base x p) (λ f q. go f base p))
call_is c here (index a b) es whole parts go =
    also_is parts.0 (λ base p. also_is parts.1 (λ key q. also_is (get_index_is c base key p q) (λ f r. go f base p)))
call_is c here e es whole parts go = also_is whole (λ f p. go f value.Undefined tt)

pub delete_is : {calls : Calls} → CallsAre calls → (here : Here) (e : tree.Expr) → Writes (eval calls here e) → PartsAre calls here e
    → Writes (eval calls here (unary Delete e))
delete_is c here (member e x) whole parts = also_is parts (λ base p. also_is (with_properties_is base p) (λ o q. delete_member_is o x))
delete_is c here (index a b) whole parts =
    also_is parts.0 (λ base p. also_is parts.1 (λ key q. also_is (key_of_is c base key p q) (λ k r. delete_member_is base (text_in k))))
delete_is c here e whole parts = also_is whole (λ v p. operate_one_is c Delete v p)

pub typeof_is : {calls : Calls} → CallsAre calls → (here : Here) (e : tree.Expr) → LiteralExpr e → Writes (eval calls here e) → Writes (eval calls here (unary Typeof e))
typeof_is c here (name x) h whole = type_of_name_is here x h
typeof_is c here e h whole = also_is whole (λ v p. operate_one_is c Typeof v p)

pub unary_is : {calls : Calls} → CallsAre calls → (here : Here) (op : UnaryOp) (e : tree.Expr) → LiteralExpr e → Writes (eval calls here e) → PartsAre calls here e
    → Writes (eval calls here (unary op e))
unary_is c here Delete e h whole parts = delete_is c here e whole parts
unary_is c here Typeof e h whole parts = typeof_is c here e h whole
unary_is c here Void e h whole parts = also_is whole (λ v p. operate_one_is c Void v p)
unary_is c here Plus e h whole parts = also_is whole (λ v p. operate_one_is c Plus v p)
unary_is c here Minus e h whole parts = also_is whole (λ v p. operate_one_is c Minus v p)
unary_is c here BitNot e h whole parts = also_is whole (λ v p. operate_one_is c BitNot v p)
unary_is c here Not e h whole parts = also_is whole (λ v p. operate_one_is c Not v p)

pub update_is : {calls : Calls} → CallsAre calls → (here : Here) (up prefix : Bool) (e : tree.Expr) → LiteralExpr e → PartsAre calls here e
    → Writes (eval calls here (update up prefix e))
update_is c here up prefix (name x) h parts =
    bind_is (resolve_is here x) (λ r p. also_is (read_is x r h) (λ v q. update_with_is c up prefix (write x r) (λ w k. write_is x r w h k) v q))
update_is {calls = calls} c here up prefix (member e x) h parts =
    also_is parts (λ base p.
    also_is (get_member_is base x p) (λ old q.
    update_with_is c up prefix (put_member calls base x) (λ w k. put_member_is c base x w h.1 k) old q))
update_is {calls = calls} c here up prefix (index a b) h parts =
    also_is parts.0 (λ base p.
    also_is parts.1 (λ key q.
    also_is (key_of_is c base key p q) (λ k r.
    also_is (read_property_is base (text_in k) p) (λ old s.
    update_with_is c up prefix (put_member calls base (text_in k)) (λ w l. put_member_is c base (text_in k) w (text_in_units k r) l) old s))))
update_is c here up prefix e h parts = give_is value.Undefined tt

assigned_is : {put : Value → Act} → Continues put → (v : Value) → IsBounded v → Writes (assigned put v)
assigned_is g v h = also_is (g v h) (λ w p. give_is v h)

pub assign_is : {calls : Calls} → CallsAre calls → (here : Here) (e b : tree.Expr) → LiteralExpr e → PartsAre calls here e → Writes (eval calls here b)
    → Writes (eval calls here (assign None e b))
assign_is c here (name x) b h parts right = bind_is (resolve_is here x) (λ r p. also_is right (λ v q. assigned_is (λ w k. write_is x r w h k) v q))
assign_is c here (member e x) b h parts right =
    also_is parts (λ base p.
    also_is (with_properties_is base p) (λ o q.
    also_is right (λ v r. assigned_is (λ w k. put_member_is c o x w h.1 k) v r)))
assign_is c here (index a e) b h parts right =
    also_is parts.0 (λ base p.
    also_is parts.1 (λ key q.
    also_is (key_of_is c base key p q) (λ k r.
    also_is right (λ v s. assigned_is (λ w l. put_member_is c base (text_in k) w (text_in_units k r) l) v s))))
assign_is c here e b h parts right = give_is value.Undefined tt

pub assign_with_is : {calls : Calls} → CallsAre calls → (here : Here) (op : BinaryOp) (e b : tree.Expr) → LiteralExpr e → PartsAre calls here e
    → Writes (eval calls here b) → Writes (eval calls here (assign (Some op) e b))
assign_with_is c here op (name x) b h parts right =
    bind_is (resolve_is here x) (λ r p.
    also_is (read_is x r h) (λ old q.
    also_is right (λ w s.
    also_is (operate_is c op old w q s) (λ v u. assigned_is (λ y k. write_is x r y h k) v u))))
assign_with_is c here op (member e x) b h parts right =
    also_is parts (λ base p.
    also_is (get_member_is base x p) (λ old q.
    also_is right (λ w s.
    also_is (operate_is c op old w q s) (λ v u. assigned_is (λ y k. put_member_is c base x y h.1 k) v u))))
assign_with_is c here op (index a e) b h parts right =
    also_is parts.0 (λ base p.
    also_is parts.1 (λ key q.
    also_is (key_of_is c base key p q) (λ k r.
    also_is (read_property_is base (text_in k) p) (λ old s.
    also_is right (λ w t.
    also_is (operate_is c op old w s t) (λ v u. assigned_is (λ y l. put_member_is c base (text_in k) y (text_in_units k r) l) v u))))))
assign_with_is c here op e b h parts right = give_is value.Undefined tt

-- the target of a for-in
pub assign_to_is : {calls : Calls} → CallsAre calls → (here : Here) (t : tree.Expr) → LiteralExpr t → PartsAre calls here t → (v : Value) → IsBounded v
    → Writes (assign_to calls here t v)
assign_to_is c here (name x) h parts v k = assign_name_is here x v h k
assign_to_is c here (member e x) h parts v k = also_is parts (λ base p. also_is (with_properties_is base p) (λ o q. put_member_is c o x v h.1 k))
assign_to_is c here (index a b) h parts v k =
    also_is parts.0 (λ base p.
    also_is parts.1 (λ key q.
    also_is (key_of_is c base key p q) (λ l r. put_member_is c base (text_in l) v (text_in_units l r) k)))
assign_to_is c here t h parts v k = give_is v k
