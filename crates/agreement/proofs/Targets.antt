-- Names that are read, called, assigned and updated, on the right some of them in scope objects (sections 11.1.2, 11.2.3, 11.3, 11.4 and 11.13).
use Rattle.std.proofs.Common.{◌≡◌, refl, ap, ◌∙◌, ℕ, Bool, true, false, not, List, [], Option, Some, None, is_some}
use Rattle.agreement.proofs.Dropped.{Drops, also_drops_rel, dropped_rel, gives_rel}
use Rattle.page_meaning.specs.Statements.{declared_as}
use Rattle.js_core.specs.declared.operators.BinaryOp.{BinaryOp}
use Rattle.js_core.specs.declared.operators.UnaryOp.TheVariants.{Delete, Typeof}
use Rattle.js_core.specs.Tree as tree
use Rattle.js_core.specs.Tree.{assign, call, member, name, unary, update, one_expr}
use Rattle.js_values.specs.declared.value.Value.{Value}
use Rattle.js_values.specs.declared.value.Value.TheVariants.{Undefined}
use Rattle.page_meaning.specs.Act.{Act, Calls, also, give, on_value, then_on}
use Rattle.page_meaning.specs.Expressions.{assign_to, assigned, eval, eval_args, eval_each}
use Rattle.page_meaning.specs.Names.{Here, assign_name, read, type_of_reference, write}
use Rattle.page_meaning.specs.Operators.{give_type, operate, operate_one, update_with}
use Rattle.page_meaning.specs.HostPuts.{put_member}
use Rattle.page_meaning.specs.Properties.{with_properties}
use Rattle.page_meaning.specs.declared.reference.Reference.{Reference}
use Rattle.page_meaning.specs.declared.reference.Reference.TheVariants.{Environment}
use Rattle.heap_relations.proofs.Callers.{larger_more, larger_same}
use Rattle.heap_relations.specs.Naming.{Copy, Fixed, Frame, InScope, Itself, Nowhere, Place, Slot, World, env_id, named, resolve, scope_name}
use Rattle.heap_relations.specs.Related.{ValueRel}
use Rattle.instrumenter.specs.Around.{Around, field_or_name, without_this}
use Rattle.agreement.specs.Acts.{Agrees, CallsRel, Continues}
use Rattle.agreement.specs.Opened.{HereRel, field_at, may_use, name_stands, opened_at}
use Rattle.agreement.specs.Trees.{is_reached}
use Rattle.agreement.proofs.Acts.{act_up, after_given, also_rel, bind_rel}
use Rattle.agreement.proofs.Heap.{value_up}
use Rattle.agreement.proofs.Names.{ReferenceRel, read_name_rel, read_rel, reference_up, resolve_rel, type_of_name_rel, used, write_rel}
use Rattle.agreement.proofs.Operators.{give_type_rel, operate_one_rel, operate_rel, update_with_rel}
use Rattle.agreement.proofs.ScopeObjects.{IsField, field_rel, in_scope_rel, is_field_up, read_field_rel, scope_value, write_field_rel}
use Rattle.agreement.proofs.Values.{give_rel}

-- ---- how the right refers to a name

-- where it is read
pub data ReadAt (fs : List Frame) (x : List ℕ) : Option ℕ → Type 0 where
  by_name : is_reached false (resolve fs x) ≡ true → ReadAt fs x None
  by_field : (m : ℕ) → field_at (resolve fs x) ≡ Some m → ReadAt fs x (Some m)

-- where it is assigned
pub data TargetAt (fs : List Frame) (x : List ℕ) : Option ℕ → Type 0 where
  itself : is_reached true (resolve fs x) ≡ true → TargetAt fs x None
  in_scope : (m : ℕ) → resolve fs x ≡ InScope m → TargetAt fs x (Some m)

read_place : (fs : List Frame) (x : List ℕ) (opens : Bool) (p : Place) → resolve fs x ≡ p → may_use opens false p ≡ true → ReadAt fs x (opened_at opens p)
read_place fs x true Itself e f = by_name (ap (is_reached false) e)
read_place fs x false Itself e f = by_name (ap (is_reached false) e)
read_place fs x true Fixed e f = by_name (ap (is_reached false) e)
read_place fs x false Fixed e f = by_name (ap (is_reached false) e)
read_place fs x true (InScope m) e f = by_field m (ap field_at e)
read_place fs x true (Copy m) e f = by_field m (ap field_at e)
read_place fs x false (InScope m) e f = absurd (cc f)
read_place fs x false (Copy m) e f = absurd (cc f)
read_place fs x true Nowhere e f = absurd (cc f)
read_place fs x false Nowhere e f = absurd (cc f)

target_place : (fs : List Frame) (x : List ℕ) (opens : Bool) (p : Place) → resolve fs x ≡ p → may_use opens true p ≡ true → TargetAt fs x (opened_at opens p)
target_place fs x true Itself e f = itself (ap (is_reached true) e)
target_place fs x false Itself e f = itself (ap (is_reached true) e)
target_place fs x true (InScope m) e f = in_scope m e
target_place fs x false (InScope m) e f = absurd (cc f)
target_place fs x true (Copy m) e f = absurd (cc f)
target_place fs x false (Copy m) e f = absurd (cc f)
target_place fs x true Fixed e f = absurd (cc f)
target_place fs x false Fixed e f = absurd (cc f)
target_place fs x true Nowhere e f = absurd (cc f)
target_place fs x false Nowhere e f = absurd (cc f)

module _ {V : World} (c d : Calls) (k : Around) (fs : List Frame) (a b : Here) (x : List ℕ) (h : HereRel V k fs a b) where
  pub fields_at : k.fields x ≡ opened_at h.trees.demand.opens (resolve fs x)
  fields_at = ap (λ f. f x) h.fields

  pub read_at : name_stands h.trees.demand false fs x ≡ true → ReadAt fs x (k.fields x)
  read_at f = rw fields_at (read_place fs x h.trees.demand.opens (resolve fs x) refl (used h.trees.demand fs false x f))

  pub target_at : name_stands h.trees.demand true fs x ≡ true → TargetAt fs x (k.fields x)
  target_at f = rw fields_at (target_place fs x h.trees.demand.opens (resolve fs x) refl (used h.trees.demand fs true x f))

  pub no_field_at : not (is_some (opened_at h.trees.demand.opens (resolve fs x))) ≡ true → k.fields x ≡ None
  no_field_at f = fields_at ∙ by_case (opened_at h.trees.demand.opens (resolve fs x)) f
    where
      by_case : (o : Option ℕ) → not (is_some o) ≡ true → o ≡ None
      by_case None e = refl
      by_case (Some m) e = absurd (cc e)

  -- ---- reading

  module _ (f : name_stands h.trees.demand false fs x ≡ true) where
    pub name_rel : {o : Option ℕ} → ReadAt fs x o → Agrees V (eval c a (name x)) (eval d b (field_or_name o x))
    name_rel (by_name e) = read_name_rel k fs a b x h f e
    name_rel (by_field m e) =
        field_rel d k fs a b x m (read x) give (eval d b (member (name (scope_name m)) x)) h f e (λ u s n. refl) (λ W l v w r. give_rel r) (λ t n w q. q)

    -- the object is not `this` of a call
    pub callee_rel : {o : Option ℕ} → ReadAt fs x o → Agrees V (eval c a (name x)) (eval d b (without_this o (field_or_name o x)))
    callee_rel (by_name e) = read_name_rel k fs a b x h f e
    callee_rel (by_field m e) =
        field_rel d k fs a b x m (read x) give (eval d b (without_this (Some m) (member (name (scope_name m)) x))) h f e (λ u s n. refl) (λ W l v w r. give_rel r)
        (λ t n w q. ap (λ o. then_on o (on_value (eval_each d b tree.no_exprs))) q)

    pub type_rel : {o : Option ℕ} → ReadAt fs x o → Agrees V (eval c a (unary Typeof (name x))) (eval d b (unary Typeof (field_or_name o x)))
    type_rel (by_name e) = type_of_name_rel k fs a b x h f e
    type_rel (by_field m e) =
        field_rel d k fs a b x m (type_of_reference x) give_type (eval d b (unary Typeof (member (name (scope_name m)) x))) h f e (λ u s n. refl) (λ W l v w r. give_type_rel r)
        (λ t n w q. ap (λ o. then_on o (on_value (operate_one d Typeof))) q)

    -- what a call of it goes on with
    pub call_name_rel : {o : Option ℕ} (es us : tree.Exprs) → ReadAt fs x o
        → Continues V (λ v. eval_args c a es [] (c.call v Undefined)) (λ v. eval_args d b us [] (d.call v Undefined))
        → Agrees V (eval c a (call (name x) es)) (eval d b (call (without_this o (field_or_name o x)) us))
    call_name_rel es us (by_name e) go = also_rel (callee_rel (by_name e)) go
    call_name_rel es us (by_field m e) go = also_rel (callee_rel (by_field m e)) go

    -- which tells nothing of the name
    pub delete_name_rel : {o : Option ℕ} → ReadAt fs x o → o ≡ None → Agrees V (eval c a (unary Delete (name x))) (eval d b (unary Delete (field_or_name o x)))
    delete_name_rel (by_name e) none = also_rel (name_rel (by_name e)) (λ W l v w r. operate_one_rel c d Delete r)
    delete_name_rel (by_field m e) none = absurd (cc none)

  -- ---- assigning

  writes : {W : World} {r q : Reference} → ReferenceRel x W r q → Continues W (write x r) (write x q)
  writes n = λ X l v w i. write_rel x (reference_up l n) i

  puts : {W : World} {z : Slot} → IsField W x z → Continues W (write x (Environment (env_id z.one))) (put_member d (scope_value z.place) x)
  puts {z = z} i = λ X l v w r. write_field_rel d x z (is_field_up l i) r

  assigned_rel : {W : World} {v w : Value} {p q : Value → Act} → Continues W p q → ValueRel (named W) v w → Agrees W (assigned p v) (assigned q w)
  assigned_rel m i = also_rel (m _ larger_same _ _ i) (λ W l u y r. give_rel (value_up l i))

  module _ (f : name_stands h.trees.demand true fs x ≡ true) where
    pub assign_rel : {o : Option ℕ} (e u : tree.Expr) → TargetAt fs x o → Agrees V (eval c a e) (eval d b u)
        → Agrees V (eval c a (assign None (name x) e)) (eval d b (assign None (field_or_name o x) u))
    assign_rel e u (itself i) m =
        bind_rel (resolve_rel k fs a b x h f i) (λ W l r q n. also_rel (act_up l m) (λ X j v w s. assigned_rel (writes (reference_up j n)) s))
    assign_rel e u (in_scope n i) m =
        in_scope_rel d k fs a b x n (λ r. also (eval c a e) (assigned (write x r))) (λ base. also (with_properties base) (λ y. also (eval d b u) (assigned (put_member d y x)))) h f i
        (λ W l z j. after_given (scope_value z.place) (λ y. also (eval d b u) (assigned (put_member d y x))) (also_rel (act_up l m) (λ X o v w s. assigned_rel (puts (is_field_up o j)) s)))

    pub update_rel : {o : Option ℕ} (up prefix : Bool) → CallsRel V c d → TargetAt fs x o
        → Agrees V (eval c a (update up prefix (name x))) (eval d b (update up prefix (field_or_name o x)))
    update_rel up prefix calls (itself i) =
        bind_rel (resolve_rel k fs a b x h f i) (λ W l r q n. also_rel (read_rel x n) (λ X j v w s. update_with_rel c d up prefix (writes (reference_up j n)) s))
    update_rel up prefix calls (in_scope n i) =
        in_scope_rel d k fs a b x n (λ r. also (read x r) (update_with c up prefix (write x r))) _ h f i
        (λ W l z j. also_rel (read_field_rel x z j) (λ X o v w s. update_with_rel c d up prefix (puts (is_field_up o j)) s))

    pub assign_with_rel : {o : Option ℕ} (op : BinaryOp) (e u : tree.Expr) → TargetAt fs x o → Agrees V (eval c a e) (eval d b u)
        → Agrees V (eval c a (assign (Some op) (name x) e)) (eval d b (assign (Some op) (field_or_name o x) u))
    assign_with_rel op e u (itself i) m =
        bind_rel (resolve_rel k fs a b x h f i) (λ W l r q n. also_rel (read_rel x n) (λ X j v w s.
        also_rel (act_up (larger_more l j) m) (λ Y g y z t.
        also_rel (operate_rel c d op (value_up g s) t) (λ Z o p q v. assigned_rel (writes (reference_up (larger_more j (larger_more g o)) n)) v))))
    assign_with_rel op e u (in_scope n i) m =
        in_scope_rel d k fs a b x n (λ r. also (read x r) (λ old. also (eval c a e) (λ w. also (operate c op old w) (assigned (write x r))))) _ h f i
        (λ W l s j. also_rel (read_field_rel x s j) (λ X g v w r. also_rel (act_up (larger_more l g) m) (λ Y o y z t.
        also_rel (operate_rel c d op (value_up o r) t) (λ Z p q r v. assigned_rel (puts (is_field_up (larger_more g (larger_more o p)) j)) v))))

    -- a value that is there already
    pub assign_name_rel : {o : Option ℕ} {v w : Value} → TargetAt fs x o → ValueRel (named V) v w → Agrees V (assign_name a x v) (assign_to d b (field_or_name o x) w)
    assign_name_rel (itself i) r = bind_rel (resolve_rel k fs a b x h f i) (λ W l q p n. write_rel x n (value_up l r))
    assign_name_rel {v = v} {w = w} (in_scope n i) r =
        in_scope_rel d k fs a b x n (λ q. write x q v) (λ base. also (with_properties base) (λ y. put_member d y x w)) h f i (λ W l z j. after_given (scope_value z.place) (λ y. put_member d y x w) (write_field_rel d x z j (value_up l r)))

    -- an initialiser (12.2), whose value nothing uses
    pub declare_rel : {o : Option ℕ} (e u : tree.Expr) → TargetAt fs x o → Agrees V (eval c a e) (eval d b u)
        → Drops V (declared_as c a x (one_expr e)) (eval d b (assign None (field_or_name o x) u))
    declare_rel e u (itself i) m =
        bind_rel (resolve_rel k fs a b x h f i) (λ W l r q n. also_drops_rel (write x r) (assigned (write x q)) (act_up l m) (λ X j v w s. gives_rel w (dropped_rel (write_rel x (reference_up j n) s))))
    declare_rel e u (in_scope n i) m =
        in_scope_rel d k fs a b x n (λ r. also (eval c a e) (write x r)) (λ base. also (with_properties base) (λ y. also (eval d b u) (assigned (put_member d y x)))) h f i
        (λ W l z j. after_given (scope_value z.place) (λ y. also (eval d b u) (assigned (put_member d y x)))
        (also_drops_rel (write x (Environment (env_id z.one))) (assigned (put_member d (scope_value z.place) x)) (act_up l m) (λ X o v w s. gives_rel w (dropped_rel (write_field_rel d x z (is_field_up o j) s)))))

    -- where it stays one
    pub declare_same_rel : {o : Option ℕ} (e u : tree.Expr) → TargetAt fs x o → o ≡ None → Agrees V (eval c a e) (eval d b u)
        → Agrees V (declared_as c a x (one_expr e)) (declared_as d b x (one_expr u))
    declare_same_rel e u (itself i) none m =
        bind_rel (resolve_rel k fs a b x h f i) (λ W l r q n. also_rel (act_up l m) (λ X j v w s. write_rel x (reference_up j n) s))
    declare_same_rel e u (in_scope n i) none m = absurd (cc none)
