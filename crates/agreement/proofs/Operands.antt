-- Calls, operators and assignments, from the parts of what they are applied to (sections 11.2.3, 11.3, 11.4 and 11.13).
use Rattle.std.proofs.Common.{◌≡◌, subst, ℕ, ◌+◌, ◌&&◌, true, false, not, is_some, List, [], Some, None, Bool, refl}
use Rattle.js_core.specs.declared.operators.BinaryOp.{BinaryOp}
use Rattle.js_core.specs.declared.operators.UnaryOp.{UnaryOp}
use Rattle.std.proofs.lemmas.Bool.{and_parts}
use Rattle.js_core.specs.declared.operators.UnaryOp.TheVariants.{Delete, Typeof}
use Rattle.js_core.specs.Tree as tree
use Rattle.js_core.specs.Tree.{name, num, text, bool, null, this, list, literal, func, member, index, call, construct, unary, update, binary, logical_and, logical_or, conditional, assign, comma, no_exprs, then_expr, no_expr, one_expr, no_holes, then_hole, no_fields, then_field, code}
use Rattle.js_values.specs.declared.value.Value.{Value}
use Rattle.page_meaning.specs.Act.{Act, Calls}
use Rattle.page_meaning.specs.Convert.{text_in}
use Rattle.page_meaning.specs.Expressions.{assigned, eval, eval_args}
use Rattle.page_meaning.specs.Names.{Here}
use Rattle.page_meaning.specs.Properties.{delete_member, read_property}
use Rattle.page_meaning.specs.HostPuts.{put_member}
use Rattle.heap_relations.proofs.Callers.{larger_more, larger_same}
use Rattle.heap_relations.specs.Naming.{Frame, Larger, named, resolve, World}
use Rattle.heap_relations.specs.Related as related
use Rattle.heap_relations.specs.Related.{Each, ValueRel, each, no_more}
use Rattle.agreement.specs.Acts.{Agrees, CallsRel, Continues}
use Rattle.instrumenter.specs.Around.{Around, callee}
use Rattle.instrumenter.specs.Counting.{expr_scopes}
use Rattle.instrumenter.specs.Opening.{open_expr}
use Rattle.agreement.specs.Opened.{HereRel, deletes_no_field, expr_stands, name_stands, opened_at, target_stands, Demand}
use Rattle.agreement.proofs.Acts.{act_up, also_rel}
use Rattle.agreement.proofs.Heap.{value_up}
use Rattle.agreement.proofs.HostPuts.{put_member_rel}
use Rattle.agreement.proofs.Operators.{operate_one_rel, operate_rel, update_with_rel}
use Rattle.agreement.proofs.Properties.{delete_member_rel, get_index_rel, get_member_rel, key_of_rel, read_property_rel, text_in_same, with_properties_rel}
use Rattle.agreement.proofs.Targets.{assign_rel, assign_with_rel, call_name_rel, delete_name_rel, no_field_at, read_at, target_at, type_rel, update_rel}
use Rattle.agreement.proofs.Values.{give_rel}

-- what goes on with related lists
abbrev pub ContinuesAll : World → (List Value → Act) → (List Value → Act) → Type 0
ContinuesAll V f g = (W : World) → Larger V W → (vs ws : List Value) → Each (ValueRel (named W)) vs ws → Agrees W (f vs) (g ws)

-- ---- names that come of values

at_name : {V : World} {k l : Value} (m n : List ℕ → Act) → ValueRel (named V) k l → ((x : List ℕ) → Agrees V (m x) (n x)) → Agrees V (m (text_in k)) (n (text_in l))
at_name {V = V} {k = k} m n r h = subst (λ x. Agrees V (m (text_in k)) (n x)) (text_in_same r) (h (text_in k))

read_named_rel : {V : World} {v w k l : Value} → ValueRel (named V) v w → ValueRel (named V) k l → Agrees V (read_property v (text_in k)) (read_property w (text_in l))
read_named_rel {v = v} {w = w} h r = at_name (read_property v) (read_property w) r (λ x. read_property_rel h x)

delete_named_rel : {V : World} {v w k l : Value} → ValueRel (named V) v w → ValueRel (named V) k l → Agrees V (delete_member v (text_in k)) (delete_member w (text_in l))
delete_named_rel {v = v} {w = w} h r = at_name (delete_member v) (delete_member w) r (λ x. delete_member_rel h x)

pub put_named_rel : {V : World} {v w k l p q : Value} (c d : Calls) → ValueRel (named V) v w → ValueRel (named V) k l → ValueRel (named V) p q → Agrees V (put_member c v (text_in k) p) (put_member d w (text_in l) q)
put_named_rel {v = v} {w = w} {p = p} {q = q} c d h r s = at_name (λ x. put_member c v x p) (λ x. put_member d w x q) r (λ x. put_member_rel c d h x s)

-- ---- what goes on

pub assigned_rel : {V : World} {v w : Value} {f g : Value → Act} → Continues V f g → ValueRel (named V) v w → Agrees V (assigned f v) (assigned g w)
assigned_rel m h = also_rel (m _ larger_same _ _ h) (λ W l a b r. give_rel (value_up l h))

puts : {V : World} {v w : Value} (c d : Calls) (x : List ℕ) → ValueRel (named V) v w → Continues V (put_member c v x) (put_member d w x)
puts c d x h = λ W l a b r. put_member_rel c d (value_up l h) x r

puts_at : {V : World} {v w k l : Value} (c d : Calls) → ValueRel (named V) v w → ValueRel (named V) k l → Continues V (put_member c v (text_in k)) (put_member d w (text_in l))
puts_at c d h k = λ W l a b r. put_named_rel c d (value_up l h) (value_up l k) r

pub calls_with : {V : World} {c d : Calls} {f g v w : Value} → CallsRel V c d → ValueRel (named V) f g → ValueRel (named V) v w → ContinuesAll V (c.call f v) (d.call g w)
calls_with calls r h = λ W l vs ws hs. calls.call W l (value_up l r) (value_up l h) hs

pub constructs_with : {V : World} {c d : Calls} {f g : Value} → CallsRel V c d → ValueRel (named V) f g → ContinuesAll V (c.construct f) (d.construct g)
constructs_with calls r = λ W l vs ws hs. calls.construct W l (value_up l r) hs

-- ---- the parts of an operand

-- what a reference is made of (8.7)
abbrev pub PartsRel : World → Calls → Calls → Around → ℕ → Here → Here → tree.Expr → Type 0
PartsRel V c d around n a b (member e x) = Agrees V (eval c a e) (eval d b (open_expr around n e))
PartsRel V c d around n a b (index e u) = Agrees V (eval c a e) (eval d b (open_expr around n e)) × Agrees V (eval c a u) (eval d b (open_expr around (n + expr_scopes e) u))
PartsRel V c d around n a b e = Unit {0}

abbrev pub parts_stand : Demand → ℕ → List Frame → tree.Expr → Bool
parts_stand d n fs (member e x) = expr_stands d n fs e
parts_stand d n fs (index e u) = expr_stands d n fs e && expr_stands d (n + expr_scopes e) fs u
parts_stand d n fs e = true

pub expr_parts : (d : Demand) (n : ℕ) (fs : List Frame) (e : tree.Expr) → expr_stands d n fs e ≡ true → parts_stand d n fs e ≡ true
expr_parts d n fs (member e x) f = f
expr_parts d n fs (index e u) f = f
expr_parts d n fs e f = refl

pub target_parts : (d : Demand) (n : ℕ) (fs : List Frame) (e : tree.Expr) → target_stands d fs e (expr_stands d n fs e) ≡ true → parts_stand d n fs e ≡ true
target_parts d n fs (member e x) f = f
target_parts d n fs (index e u) f = f
target_parts d n fs e f = refl

module _ {V : World} (c d : Calls) (around : Around) (n : ℕ) (fs : List Frame) (a b : Here) (calls : CallsRel V c d) (h : HereRel V around fs a b) where
  -- a call goes on with a function and `this`
  pub call_rel : (e : tree.Expr) (es us : tree.Exprs) → expr_stands h.trees.demand n fs e ≡ true → Agrees V (eval c a e) (eval d b (open_expr around n e)) → PartsRel V c d around n a b e
      → ((W : World) → Larger V W → (f g v w : Value) → ValueRel (named W) f g → ValueRel (named W) v w → Agrees W (eval_args c a es [] (c.call f v)) (eval_args d b us [] (d.call g w)))
      → Agrees V (eval c a (call e es)) (eval d b (call (callee around e (open_expr around n e)) us))
  call_rel (member e x) es us f m parts go =
      also_rel parts (λ W l v w r. also_rel (get_member_rel r x) (λ X j p q s. go X (larger_more l j) _ _ _ _ s (value_up j r)))
  call_rel (index e u) es us f m parts go =
      also_rel parts.0 (λ W l v w r. also_rel (act_up l parts.1) (λ X j p q s.
      also_rel (get_index_rel c d (value_up j r) s) (λ Y i x y t. go Y (larger_more l (larger_more j i)) _ _ _ _ t (value_up (larger_more j i) r))))
  call_rel (name x) es us f m parts go =
      call_name_rel c d around fs a b x h f es us (read_at c d around fs a b x h f) (λ W l v w r. go W l _ _ _ _ r related.undefined)
  call_rel (func (code x formals body)) es us f m parts go = also_rel m (λ W l v w r. go W l _ _ _ _ r related.undefined)
  call_rel e es us f m parts go = also_rel m (λ W l v w r. go W l _ _ _ _ r related.undefined)

  pub unary_rel : (op : UnaryOp) (e : tree.Expr) → (deletes_no_field h.trees.demand.opens op fs e && expr_stands h.trees.demand n fs e) ≡ true → Agrees V (eval c a e) (eval d b (open_expr around n e))
      → PartsRel V c d around n a b e → Agrees V (eval c a (unary op e)) (eval d b (unary op (open_expr around n e)))
  unary_rel Delete (member e x) f m parts = also_rel parts (λ W l v w r. also_rel (with_properties_rel r) (λ X j p q s. delete_member_rel s x))
  unary_rel Delete (index e u) f m parts =
      also_rel parts.0 (λ W l v w r. also_rel (act_up l parts.1) (λ X j p q s.
      also_rel (key_of_rel c d (value_up j r) s) (λ Y i x y t. delete_named_rel (value_up (larger_more j i) r) t)))
  unary_rel Delete (name x) f m parts =
      let g = and_parts (not (is_some (opened_at h.trees.demand.opens (resolve fs x)))) (name_stands h.trees.demand false fs x) f in
      delete_name_rel c d around fs a b x h g.1 (read_at c d around fs a b x h g.1) (no_field_at c d around fs a b x h g.0)
  unary_rel Delete (func (code x formals body)) f m parts = also_rel m (λ W l v w r. operate_one_rel c d Delete r)
  unary_rel Typeof (name x) f m parts = type_rel c d around fs a b x h f (read_at c d around fs a b x h f)
  unary_rel Typeof (func (code x formals body)) f m parts = also_rel m (λ W l v w r. operate_one_rel c d Typeof r)
  unary_rel op e f m parts = also_rel m (λ W l v w r. operate_one_rel c d op r)

  pub update_all_rel : (up prefix : Bool) (e : tree.Expr) → target_stands h.trees.demand fs e (expr_stands h.trees.demand n fs e) ≡ true
      → PartsRel V c d around n a b e → Agrees V (eval c a (update up prefix e)) (eval d b (update up prefix (open_expr around n e)))
  update_all_rel up prefix (name x) f parts = update_rel c d around fs a b x h f up prefix calls (target_at c d around fs a b x h f)
  update_all_rel up prefix (member e x) f parts =
      also_rel parts (λ W l v w r. also_rel (get_member_rel r x) (λ X j p q s. update_with_rel c d up prefix (puts c d x (value_up j r)) s))
  update_all_rel up prefix (index e u) f parts =
      also_rel parts.0 (λ W l v w r. also_rel (act_up l parts.1) (λ X j p q s.
      also_rel (key_of_rel c d (value_up j r) s) (λ Y i x y t.
      let base = value_up (larger_more j i) r in
      also_rel (read_named_rel base t) (λ Z o g k n. update_with_rel c d up prefix (puts_at c d (value_up o base) (value_up o t)) n))))
  update_all_rel up prefix (func (code x formals body)) f parts = give_rel related.undefined
  update_all_rel up prefix e f parts = give_rel related.undefined

  pub assign_all_rel : (e u v : tree.Expr) → target_stands h.trees.demand fs e (expr_stands h.trees.demand n fs e) ≡ true → PartsRel V c d around n a b e
      → Agrees V (eval c a u) (eval d b v) → Agrees V (eval c a (assign None e u)) (eval d b (assign None (open_expr around n e) v))
  assign_all_rel (name x) u v f parts m = assign_rel c d around fs a b x h f u v (target_at c d around fs a b x h f) m
  assign_all_rel (member e x) u v f parts m =
      also_rel parts (λ W l v w r. also_rel (with_properties_rel r) (λ X j p q s.
      also_rel (act_up (larger_more l j) m) (λ Y i y z t. assigned_rel (puts c d x (value_up i s)) t)))
  assign_all_rel (index e k) u v f parts m =
      also_rel parts.0 (λ W l v w r. also_rel (act_up l parts.1) (λ X j p q s.
      also_rel (key_of_rel c d (value_up j r) s) (λ Y i x y t.
      also_rel (act_up (larger_more l (larger_more j i)) m) (λ Z o p q z. assigned_rel (puts_at c d (value_up (larger_more j (larger_more i o)) r) (value_up o t)) z))))
  assign_all_rel (func (code x formals body)) u v f parts m = give_rel related.undefined
  assign_all_rel e u v f parts m = give_rel related.undefined

  pub assign_with_all_rel : (op : BinaryOp) (e u v : tree.Expr) → target_stands h.trees.demand fs e (expr_stands h.trees.demand n fs e) ≡ true → PartsRel V c d around n a b e
      → Agrees V (eval c a u) (eval d b v) → Agrees V (eval c a (assign (Some op) e u)) (eval d b (assign (Some op) (open_expr around n e) v))
  assign_with_all_rel op (name x) u v f parts m = assign_with_rel c d around fs a b x h f op u v (target_at c d around fs a b x h f) m
  assign_with_all_rel op (member e x) u v f parts m =
      also_rel parts (λ W l v w r. also_rel (get_member_rel r x) (λ X j p q s.
      also_rel (act_up (larger_more l j) m) (λ Y i y z t.
      also_rel (operate_rel c d op (value_up i s) t) (λ Z o p q g. assigned_rel (puts c d x (value_up (larger_more j (larger_more i o)) r)) g))))
  assign_with_all_rel op (index e k) u v f parts m =
      also_rel parts.0 (λ W l v w r. also_rel (act_up l parts.1) (λ X j p q s.
      also_rel (key_of_rel c d (value_up j r) s) (λ Y i x y t.
      let base = value_up (larger_more j i) r in
      also_rel (read_named_rel base t) (λ Z o p q old.
      also_rel (act_up (larger_more l (larger_more j (larger_more i o))) m) (λ S y p q new.
      also_rel (operate_rel c d op (value_up y old) new) (λ T z p q result.
      let more = larger_more o (larger_more y z) in
      assigned_rel (puts_at c d (value_up more base) (value_up more t)) result))))))
  assign_with_all_rel op (func (code x formals body)) u v f parts m = give_rel related.undefined
  assign_with_all_rel op e u v f parts m = give_rel related.undefined
