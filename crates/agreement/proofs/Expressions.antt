-- The value of an expression, in both pages (section 11).
use Rattle.std.proofs.Common.{◌≡◌, ℕ, suc, ◌+◌, ◌&&◌, true, List, [], ◌∷◌, ◌++◌, Some, None}
use Rattle.agreement.proofs.Operands.{ContinuesAll, PartsRel, assign_all_rel, assign_with_all_rel, call_rel, calls_with, constructs_with, expr_parts, parts_stand, put_named_rel, target_parts, unary_rel, update_all_rel}
use Rattle.agreement.proofs.HostPuts.{put_member_rel}
use Rattle.std.proofs.lemmas.Bool.{and_parts}
use Rattle.std.specs.Fmt.{decimal}
use Rattle.js_core.specs.Tree as tree
use Rattle.agreement.proofs.Spared.{callee_as, either_way, is_spared}
use Rattle.agreement.proofs.SparedCalls.{page_calls_up, spared_call_rel}
use Rattle.js_core.specs.Tree.{name, num, text, bool, null, this, list, literal, func, member, index, call, construct, unary, update, binary, logical_and, logical_or, conditional, assign, comma, no_exprs, then_expr, no_expr, one_expr, no_holes, then_hole, no_fields, then_field, code}
use Rattle.js_values.specs.declared.ids.ObjId.{ObjId}
use Rattle.js_values.specs.declared.value.Value.{Value}
use Rattle.object_heap.specs.Define.{length_name}
use Rattle.page_meaning.specs.Act.{Act, Calls}
use Rattle.page_meaning.specs.Expressions.{assign_to, eval, eval_args, eval_each, eval_fields, eval_holes}
use Rattle.page_meaning.specs.Names.{Here}
use Rattle.heap_relations.proofs.Callers.{each_append, larger_more, larger_same}
use Rattle.heap_relations.specs.Naming.{Frame, Named, named, World}
use Rattle.heap_relations.specs.Related as related
use Rattle.heap_relations.specs.Related.{Each, ValueRel, each, no_more}
use Rattle.agreement.specs.Acts.{Agrees}
use Rattle.instrumenter.specs.Around.{Around}
use Rattle.instrumenter.specs.Counting.{expr_scopes}
use Rattle.instrumenter.specs.Opening.{open_expr, open_exprs, open_fields, open_holes}
use Rattle.agreement.specs.Opened.{callee_stands, HereRel, deletes_no_field, expr_stands, exprs_stand, fields_stand, holes_stand, target_stands, PageCallsRel}
use Rattle.agreement.proofs.Acts.{act_up, also_rel, bind_rel, choose_rel}
use Rattle.agreement.proofs.Called.{calls_up, is_true_same}
use Rattle.agreement.proofs.Functions.{close_over_rel}
use Rattle.agreement.proofs.Heap.{named_up, value_up, values_up}
use Rattle.agreement.proofs.Made.{new_list_rel, new_plain_rel}
use Rattle.agreement.proofs.Names.{here_up}
use Rattle.agreement.proofs.Operators.{operate_rel}
use Rattle.agreement.proofs.Properties.{define_member_rel, get_index_rel, get_member_rel, key_of_rel, put_in_rel, with_properties_rel}
use Rattle.agreement.proofs.Targets.{assign_name_rel, name_rel, read_at, target_at}
use Rattle.agreement.proofs.Values.{give_rel, object_value_rel}

-- ---- expressions

mutual
  pub eval_rel : {V : World} (c d : Calls) (around : Around) (n : ℕ) (fs : List Frame) (a b : Here) (e : tree.Expr) → PageCallsRel V c d → (h : HereRel V around fs a b)
      → expr_stands h.trees.demand n fs e ≡ true → Agrees V (eval c a e) (eval d b (open_expr around n e))
  eval_rel c d around n fs a b (name x) calls h f = name_rel c d around fs a b x h f (read_at c d around fs a b x h f)
  eval_rel c d around n fs a b (num v) calls h f = give_rel related.num
  eval_rel c d around n fs a b (text t) calls h f = give_rel related.text
  eval_rel c d around n fs a b (bool t) calls h f = give_rel related.truth
  eval_rel c d around n fs a b null calls h f = give_rel related.null
  eval_rel c d around n fs a b this calls h f = give_rel h.this
  eval_rel c d around n fs a b (list es) calls h f = bind_rel new_list_rel (λ W l o p n. eval_holes_rel c d around _ fs a b es o p 0 (page_calls_up l calls) (here_up l h) f n)
  eval_rel c d around n fs a b (literal es) calls h f = bind_rel new_plain_rel (λ W l o p n. eval_fields_rel c d around _ fs a b es o p (page_calls_up l calls) (here_up l h) f n)
  eval_rel c d around n fs a b (func (code x formals body)) calls h f = close_over_rel around n fs x formals body a b h f
  eval_rel c d around n fs a b (member e x) calls h f = also_rel (eval_rel c d around _ fs a b e calls h f) (λ W l v w r. get_member_rel r x)
  eval_rel c d around n fs a b (index e u) calls h f =
      also_rel (eval_rel c d around _ fs a b e calls h (and_parts _ _ f).0) (λ W l v w r.
      also_rel (act_up l (eval_rel c d around _ fs a b u calls h (and_parts _ _ f).1)) (λ X j p q s. get_index_rel c d (value_up j r) s))
  eval_rel c d around n fs a b (call e es) calls h f =
      let g = and_parts (callee_stands h.trees.demand n fs e (expr_stands h.trees.demand n fs e)) (exprs_stand h.trees.demand (n + expr_scopes e) fs es) f in
      either_way (is_spared h.trees.demand e)
      (λ is. spared_call_rel c d around n fs a b e es _ calls h is g.0 (λ W l p q more.
      eval_args_rel c d around _ fs a b es [] [] (page_calls_up l calls) (here_up l h) g.1 no_more more))
      (λ is.
      let k = callee_as h.trees.demand n fs e is g.0 in
      call_rel c d around n fs a b calls.calls h e es _ k (eval_rel c d around _ fs a b e calls h k) (parts_rel c d around _ fs a b e calls h (expr_parts h.trees.demand n fs e k)) (λ W l p q v w r s.
      eval_args_rel c d around _ fs a b es [] [] (page_calls_up l calls) (here_up l h) g.1 no_more (calls_with (calls_up l calls.calls) r s)))
  eval_rel c d around n fs a b (construct e es) calls h f =
      also_rel (eval_rel c d around _ fs a b e calls h (and_parts _ _ f).0) (λ W l v w r.
      eval_args_rel c d around _ fs a b es [] [] (page_calls_up l calls) (here_up l h) (and_parts _ _ f).1 no_more (constructs_with (calls_up l calls.calls) r))
  eval_rel c d around n fs a b (unary op e) calls h f =
      let g = (and_parts (deletes_no_field h.trees.demand.opens op fs e) (expr_stands h.trees.demand n fs e) f).1 in
      unary_rel c d around n fs a b calls.calls h op e f (eval_rel c d around _ fs a b e calls h g) (parts_rel c d around _ fs a b e calls h (expr_parts h.trees.demand n fs e g))
  eval_rel c d around n fs a b (update up prefix e) calls h f =
      update_all_rel c d around n fs a b calls.calls h up prefix e f (parts_rel c d around _ fs a b e calls h (target_parts h.trees.demand n fs e f))
  eval_rel c d around n fs a b (assign None e u) calls h f =
      let g = and_parts (target_stands h.trees.demand fs e (expr_stands h.trees.demand n fs e)) (expr_stands h.trees.demand (n + expr_scopes e) fs u) f in
      assign_all_rel c d around n fs a b calls.calls h e u _ g.0 (parts_rel c d around _ fs a b e calls h (target_parts h.trees.demand n fs e g.0)) (eval_rel c d around _ fs a b u calls h g.1)
  eval_rel c d around n fs a b (assign (Some op) e u) calls h f =
      let g = and_parts (target_stands h.trees.demand fs e (expr_stands h.trees.demand n fs e)) (expr_stands h.trees.demand (n + expr_scopes e) fs u) f in
      assign_with_all_rel c d around n fs a b calls.calls h op e u _ g.0 (parts_rel c d around _ fs a b e calls h (target_parts h.trees.demand n fs e g.0)) (eval_rel c d around _ fs a b u calls h g.1)
  eval_rel c d around n fs a b (binary op e u) calls h f =
      also_rel (eval_rel c d around _ fs a b e calls h (and_parts _ _ f).0) (λ W l v w r.
      also_rel (act_up l (eval_rel c d around _ fs a b u calls h (and_parts _ _ f).1)) (λ X j p q s. operate_rel c d op (value_up j r) s))
  eval_rel c d around n fs a b (logical_and e u) calls h f =
      also_rel (eval_rel c d around _ fs a b e calls h (and_parts _ _ f).0) (λ W l v w r.
      choose_rel _ _ (is_true_same r) (act_up l (eval_rel c d around _ fs a b u calls h (and_parts _ _ f).1)) (give_rel r))
  eval_rel c d around n fs a b (logical_or e u) calls h f =
      also_rel (eval_rel c d around _ fs a b e calls h (and_parts _ _ f).0) (λ W l v w r.
      choose_rel _ _ (is_true_same r) (give_rel r) (act_up l (eval_rel c d around _ fs a b u calls h (and_parts _ _ f).1)))
  eval_rel c d around n fs a b (conditional e u m) calls h f =
      let g = (and_parts (expr_stands h.trees.demand n fs e)
      (expr_stands h.trees.demand (n + expr_scopes e) fs u && expr_stands h.trees.demand ((n + expr_scopes e) + expr_scopes u) fs m) f).1 in
      also_rel (eval_rel c d around _ fs a b e calls h (and_parts _ _ f).0) (λ W l v w r.
      choose_rel _ _ (is_true_same r) (act_up l (eval_rel c d around _ fs a b u calls h (and_parts _ _ g).0)) (act_up l (eval_rel c d around _ fs a b m calls h (and_parts _ _ g).1)))
  eval_rel c d around n fs a b (comma es) calls h f = eval_each_rel c d around _ fs a b es calls h f related.undefined

  -- the parts of a reference
  pub parts_rel : {V : World} (c d : Calls) (around : Around) (n : ℕ) (fs : List Frame) (a b : Here) (e : tree.Expr) → PageCallsRel V c d → (h : HereRel V around fs a b)
      → parts_stand h.trees.demand n fs e ≡ true → PartsRel V c d around n a b e
  parts_rel c d around n fs a b (member e x) calls h f = eval_rel c d around _ fs a b e calls h f
  parts_rel c d around n fs a b (index e u) calls h f = (eval_rel c d around _ fs a b e calls h (and_parts _ _ f).0, eval_rel c d around _ fs a b u calls h (and_parts _ _ f).1)
  parts_rel c d around n fs a b e calls h f = tt

  -- arguments
  pub eval_args_rel : {V : World} {f g : List Value → Act} (c d : Calls) (around : Around) (n : ℕ) (fs : List Frame) (a b : Here) (es : tree.Exprs) (vs ws : List Value)
      → PageCallsRel V c d → (h : HereRel V around fs a b) → exprs_stand h.trees.demand n fs es ≡ true → Each (ValueRel (named V)) vs ws → ContinuesAll V f g
      → Agrees V (eval_args c a es vs f) (eval_args d b (open_exprs around n es) ws g)
  eval_args_rel c d around n fs a b no_exprs vs ws calls h f got k = k _ larger_same vs ws got
  eval_args_rel c d around n fs a b (then_expr e es) vs ws calls h f got k =
      also_rel (eval_rel c d around _ fs a b e calls h (and_parts _ _ f).0) (λ W l v w r.
      eval_args_rel c d around _ fs a b es (vs ++ v ∷ []) (ws ++ w ∷ []) (page_calls_up l calls) (here_up l h) (and_parts _ _ f).1 (each_append (values_up l got) (each r no_more))
      (λ X j. k X (larger_more l j)))

  -- the parts of a comma expression
  pub eval_each_rel : {V : World} {v w : Value} (c d : Calls) (around : Around) (n : ℕ) (fs : List Frame) (a b : Here) (es : tree.Exprs)
      → PageCallsRel V c d → (h : HereRel V around fs a b) → exprs_stand h.trees.demand n fs es ≡ true → ValueRel (named V) v w
      → Agrees V (eval_each c a es v) (eval_each d b (open_exprs around n es) w)
  eval_each_rel c d around n fs a b no_exprs calls h f r = give_rel r
  eval_each_rel c d around n fs a b (then_expr e es) calls h f r =
      also_rel (eval_rel c d around _ fs a b e calls h (and_parts _ _ f).0) (λ W l v w s. eval_each_rel c d around _ fs a b es (page_calls_up l calls) (here_up l h) (and_parts _ _ f).1 s)

  -- the elements of an array literal
  pub eval_holes_rel : {V : World} (c d : Calls) (around : Around) (n : ℕ) (fs : List Frame) (a b : Here) (es : tree.Holes) (o p : ObjId) (k : ℕ)
      → PageCallsRel V c d → (h : HereRel V around fs a b) → holes_stand h.trees.demand n fs es ≡ true → Named V o.0 p.0
      → Agrees V (eval_holes c a es o k) (eval_holes d b (open_holes around n es) p k)
  eval_holes_rel c d around n fs a b no_holes o p k calls h f m = also_rel (put_in_rel o p m length_name related.num) (λ W l v w r. give_rel (object_value_rel o p (named_up l m)))
  eval_holes_rel c d around n fs a b (then_hole no_expr es) o p k calls h f m = eval_holes_rel c d around _ fs a b es o p (suc k) calls h f m
  eval_holes_rel c d around n fs a b (then_hole (one_expr e) es) o p k calls h f m =
      also_rel (eval_rel c d around _ fs a b e calls h (and_parts _ _ f).0) (λ W l v w r.
      also_rel (define_member_rel o p (named_up l m) (decimal k) r) (λ X j x y s.
      let more = larger_more l j in
      eval_holes_rel c d around _ fs a b es o p (suc k) (page_calls_up more calls) (here_up more h) (and_parts _ _ f).1 (named_up more m)))

  -- the fields of an object literal
  pub eval_fields_rel : {V : World} (c d : Calls) (around : Around) (n : ℕ) (fs : List Frame) (a b : Here) (es : tree.Fields) (o p : ObjId)
      → PageCallsRel V c d → (h : HereRel V around fs a b) → fields_stand h.trees.demand n fs es ≡ true → Named V o.0 p.0
      → Agrees V (eval_fields c a es o) (eval_fields d b (open_fields around n es) p)
  eval_fields_rel c d around n fs a b no_fields o p calls h f m = give_rel (object_value_rel o p m)
  eval_fields_rel c d around n fs a b (then_field x e es) o p calls h f m =
      also_rel (eval_rel c d around _ fs a b e calls h (and_parts _ _ f).0) (λ W l v w r.
      also_rel (define_member_rel o p (named_up l m) x r) (λ X j y z s.
      let more = larger_more l j in
      eval_fields_rel c d around _ fs a b es o p (page_calls_up more calls) (here_up more h) (and_parts _ _ f).1 (named_up more m)))

-- ---- the target of a for-in

pub assign_to_rel : {V : World} {v w : Value} (c d : Calls) (around : Around) (n : ℕ) (fs : List Frame) (a b : Here) (t : tree.Expr) → PageCallsRel V c d
    → (h : HereRel V around fs a b) → target_stands h.trees.demand fs t (expr_stands h.trees.demand n fs t) ≡ true
    → ValueRel (named V) v w → Agrees V (assign_to c a t v) (assign_to d b (open_expr around n t) w)
assign_to_rel c d around n fs a b (name x) calls h f r = assign_name_rel c d around fs a b x h f (target_at c d around fs a b x h f) r
assign_to_rel c d around n fs a b (member e x) calls h f r =
    also_rel (eval_rel c d around _ fs a b e calls h f) (λ W l v w s. also_rel (with_properties_rel s) (λ X j p q t. put_member_rel c d t x (value_up (larger_more l j) r)))
assign_to_rel c d around n fs a b (index e u) calls h f r =
    also_rel (eval_rel c d around _ fs a b e calls h (and_parts _ _ f).0) (λ W l v w s.
    also_rel (act_up l (eval_rel c d around _ fs a b u calls h (and_parts _ _ f).1)) (λ X j p q t.
    also_rel (key_of_rel c d (value_up j s) t) (λ Y i x y k. put_named_rel c d (value_up (larger_more j i) s) k (value_up (larger_more l (larger_more j i)) r))))
assign_to_rel c d around n fs a b (func (code x formals body)) calls h f r = give_rel r
assign_to_rel c d around n fs a b e calls h f r = give_rel r
