-- What the prototype of functions has, and the text of an array (sections 15.3.4 and 15.4.4.2).
use Rattle.std.proofs.Common.{◌≡◌, refl, ap, subst, ◌∙◌, ℕ, zero, suc, ◌-◌, ◌≤◌, Bool, true, false, List, [], length, codes, arith}
use Rattle.js_values.specs.declared.built_in.BuiltIn.{BuiltIn}
use Rattle.js_values.specs.declared.built_in.BuiltIn.TheVariants as built_in
use Rattle.js_values.specs.declared.ids.ObjId.{ObjId}
use Rattle.js_values.specs.declared.throw.Throw.TheVariants.{NotFunction, WrongArgument}
use Rattle.js_values.specs.declared.value.Value.{Value}
use Rattle.js_values.specs.declared.value.Value.TheVariants as value
use Rattle.object_heap.specs.Property.{fixed}
use Rattle.page_meaning.specs.Act.{Calls, choose}
use Rattle.page_meaning.specs.Elements.{length_of, on_list}
use Rattle.page_meaning.specs.Errors.{raise}
use Rattle.page_meaning.specs.FunctionRows.{apply_elements, apply_function, apply_to, bind_function, bind_to, bound_fit, bound_object, call_function, gather, is_callable, list_text, text_maker}
use Rattle.page_meaning.specs.Places.{function_at, function_place, function_prototype}
use Rattle.page_meaning.specs.Rows.{function_row}
use Rattle.page_meaning.specs.Store.{Store}
use Rattle.heap_relations.proofs.Callers.{each_append, each_drop, each_length, larger_more, larger_same}
use Rattle.heap_relations.specs.Naming.{Named, named, World}
use Rattle.heap_relations.specs.Related.{Each, ObjectRel, PropRel, ValueRel, bound, each, entry, no_entries, no_more, null, num, object, some, text, truth, undefined}
use Rattle.page_meaning.specs.Places.{built_in_count}
use Rattle.agreement.specs.Acts.{ActRel, Agrees, CallsRel, Equal, HasBuiltIns, OutcomeRel, SignalRel, StoreRel}
use Rattle.agreement.proofs.Acts.{asking_rel, bind_rel, choose_rel, ret_rel, then_rel}
use Rattle.agreement.proofs.Called.{Values, calls_up, chosen_value, is_callable_same, number_same}
use Rattle.agreement.proofs.Elements.{element_or_rel, length_of_same, on_list_rel}
use Rattle.agreement.proofs.Heap.{made_now, named_up, take_step_rel, value_up, values_up}
use Rattle.agreement.proofs.ObjectRows.{argument_rel}
use Rattle.agreement.proofs.Properties.{get_at_rel}
use Rattle.agreement.proofs.Values.{give_rel, object_value_rel, raise_rel}

pub call_function_rel : {V : World} {f g : Value} {vs ws : List Value} (c d : Calls) → CallsRel V c d → ValueRel (named V) f g → Each (ValueRel (named V)) vs ws
    → Agrees V (call_function c f vs) (call_function d g ws)
call_function_rel c d calls h hs = calls.call _ larger_same h (argument_rel hs 0) (each_drop 1 hs)

-- ---- a call with the elements of an array

pub gather_rel : {V : World} {vs ws : List Value} (a b : ObjId) → Named V a.0 b.0 → Each (ValueRel (named V)) vs ws → (k m : ℕ) → ActRel Values V (gather a vs k m) (gather b ws k m)
gather_rel a b n hs k zero = ret_rel (λ W l. values_up l hs)
gather_rel a b n hs k (suc m) =
    bind_rel take_step_rel (λ W l x y e. asking_rel {R = λ X. ValueRel (named X)} (λ X j s t g. element_or_rel g a b (named_up (larger_more l j) n) k)
    (λ X j v w r. gather_rel a b (named_up (larger_more l j) n) (each_append (values_up (larger_more l j) hs) (each r no_more)) (suc k) m))

-- as many as the length, which is the same
gather_all_rel : {V : World} (a b : ObjId) → Named V a.0 b.0 → (m n : ℕ) → m ≡ n → ActRel Values V (gather a [] 0 m) (gather b [] 0 n)
gather_all_rel {V = V} a b h m n e = subst (λ k. ActRel Values V (gather a [] 0 m) (gather b [] 0 k)) e (gather_rel a b h no_more 0 m)

apply_elements_rel : {V : World} {f g this that : Value} (c d : Calls) → CallsRel V c d → ValueRel (named V) f g → ValueRel (named V) this that → (a b : ObjId) → Named V a.0 b.0
    → Agrees V (apply_elements c f this a) (apply_elements d g that b)
apply_elements_rel c d calls h k a b n =
    asking_rel {R = Equal} (λ W l s t g. length_of_same g a b (named_up l n)) (λ W l x y e. bind_rel (gather_all_rel a b (named_up l n) x y e)
    (λ X j vs ws r. calls.call X (larger_more l j) (value_up (larger_more l j) h) (value_up (larger_more l j) k) r))

-- a list that must be an array
apply_list_rel : {V : World} {f g this that v w : Value} (c d : Calls) → CallsRel V c d → ValueRel (named V) f g → ValueRel (named V) this that → ValueRel (named V) v w
    → Agrees V (on_list v (apply_elements c f this)) (on_list w (apply_elements d g that))
apply_list_rel c d calls h k r = on_list_rel r (λ W l a b n. apply_elements_rel c d (calls_up l calls) (value_up l h) (value_up l k) a b n)

apply_to_rel : {V : World} {f g this that v w : Value} (c d : Calls) → CallsRel V c d → ValueRel (named V) f g → ValueRel (named V) this that → ValueRel (named V) v w
    → Agrees V (apply_to c f this v) (apply_to d g that w)
apply_to_rel c d calls h k undefined = calls.call _ larger_same h k no_more
apply_to_rel c d calls h k null = calls.call _ larger_same h k no_more
apply_to_rel {v = v} c d calls h k truth = apply_list_rel {v = v} c d calls h k truth
apply_to_rel {v = v} c d calls h k num = apply_list_rel {v = v} c d calls h k num
apply_to_rel {v = v} c d calls h k text = apply_list_rel {v = v} c d calls h k text
apply_to_rel {v = v} c d calls h k (object n) = apply_list_rel {v = v} c d calls h k (object n)

pub apply_function_rel : {V : World} {f g : Value} {vs ws : List Value} (c d : Calls) → CallsRel V c d → ValueRel (named V) f g → Each (ValueRel (named V)) vs ws
    → Agrees V (apply_function c f vs) (apply_function d g ws)
apply_function_rel c d calls h hs =
    asking_rel {R = Equal} (λ W l s t g. is_callable_same g (value_up l h)) (λ W l x y e. choose_rel x y e
    (apply_to_rel c d (calls_up l calls) (value_up l h) (argument_rel (values_up l hs) 0) (argument_rel (values_up l hs) 1)) (raise_rel NotFunction))

-- ---- bound functions

function_prototype_below : function_prototype.0 ≤ built_in_count
unfolding built_in_count
function_prototype_below = omega arith

formals_left : {V : World} {vs ws : List Value} (m n : ℕ) → m ≡ n → Each (ValueRel (named V)) vs ws → m - length vs ≡ n - length ws
formals_left {vs = vs} {ws = ws} m n e hs = ap (λ k. m - k) (each_length hs) ∙ ap (λ k. k - length ws) e

fixed_rel : {V : World} {v w : Value} → ValueRel (named V) v w → PropRel (named V) (fixed v) (fixed w)
fixed_rel h = record { value = h; writable = refl; enumerable = refl; configurable = refl }

bound_object_rel : {V : World} {this that : Value} {vs ws : List Value} (a b : ObjId) → Named V a.0 b.0 → ValueRel (named V) this that → Each (ValueRel (named V)) vs ws
    → (m n : ℕ) → m ≡ n → HasBuiltIns V → ObjectRel (named V) (bound_object a this vs m) (bound_object b that ws n)
bound_object_rel a b h k hs m n e there = record {
  class = bound h k hs;
  proto = some (record { linked = there function_prototype.0 function_prototype_below });
  extensible = refl;
  closed = refl;
  props = entry (fixed_rel (number_same (formals_left m n e hs))) no_entries;
}

-- of a function, in two pages that agree
bind_to_now : {W : World} {s t : Store} {this that : Value} {vs ws : List Value} (k : ℕ) → StoreRel W s t → (a b : ObjId) → Named W a.0 b.0 → ValueRel (named W) this that → Each (ValueRel (named W)) vs ws
    → is_callable (value.Object a) s ≡ true → OutcomeRel SignalRel W ((bind_to a this vs).run s k) ((bind_to b that ws).run t k)
bind_to_now {s = s} {t = t} {this = this} {that = that} {vs = vs} {ws = ws} k g a b n h hs callable =
    let i = length_of a s in
    let j = length_of b t in
    then_rel (made_now k g (bound_object a this vs i) (bound_object b that ws j) (bound_fit a this vs i) (bound_fit b that ws j) refl refl
    (bound_object_rel a b n h hs i j (length_of_same g a b n) g.built_ins) refl refl (refl, record { others = []; are = refl }, callable))
    (λ X j p q r. give_rel (object_value_rel p q r))

-- where it is one
bind_if_now : {W : World} {s t : Store} {this that : Value} {vs ws : List Value} (k : ℕ) → StoreRel W s t → (a b : ObjId) → Named W a.0 b.0 → ValueRel (named W) this that → Each (ValueRel (named W)) vs ws
    → (x y : Bool) → is_callable (value.Object a) s ≡ x → x ≡ y
    → OutcomeRel SignalRel W ((choose x (bind_to a this vs) (raise WrongArgument)).run s k) ((choose y (bind_to b that ws) (raise WrongArgument)).run t k)
bind_if_now k g a b n h hs true true e f = bind_to_now k g a b n h hs e
bind_if_now {W = W} {s = s} {t = t} k g a b n h hs false false e f = (raise_rel WrongArgument).run W larger_same s t k g
bind_if_now k g a b n h hs true false e f = absurd (cc f)
bind_if_now k g a b n h hs false true e f = absurd (cc f)

pub bind_function_rel : {V : World} {f g : Value} {vs ws : List Value} → ValueRel (named V) f g → Each (ValueRel (named V)) vs ws → Agrees V (bind_function f vs) (bind_function g ws)
bind_function_rel undefined hs = raise_rel WrongArgument
bind_function_rel null hs = raise_rel WrongArgument
bind_function_rel truth hs = raise_rel WrongArgument
bind_function_rel num hs = raise_rel WrongArgument
bind_function_rel text hs = raise_rel WrongArgument
bind_function_rel {f = value.Object a} {g = value.Object b} (object n) hs = record {
  run = λ W l s t k g.
      bind_if_now k g a b (named_up l n) (argument_rel (values_up l hs) 0) (each_drop 1 (values_up l hs)) (is_callable (value.Object a) s) (is_callable (value.Object b) t) refl
      (is_callable_same g (object_value_rel a b (named_up l n)));
}

-- ---- the text of an array

text_place : (function_at built_in.ObjectPrototypeToString).0 ≤ built_in_count
unfolding function_place built_in_count
text_place = omega arith

text_maker_rel : {W : World} {s t : Store} → StoreRel W s t → (a b : ObjId) → Named W a.0 b.0 → ValueRel (named W) (text_maker a s) (text_maker b t)
text_maker_rel g a b n =
    chosen_value _ _ (is_callable_same g (get_at_rel g a b n (codes "join"))) (get_at_rel g a b n (codes "join"))
    (object_value_rel (function_at built_in.ObjectPrototypeToString) (function_at built_in.ObjectPrototypeToString) (g.built_ins (function_at built_in.ObjectPrototypeToString).0 text_place))

pub list_text_rel : {V : World} (c d : Calls) → CallsRel V c d → (a b : ObjId) → Named V a.0 b.0 → Agrees V (list_text c a) (list_text d b)
list_text_rel c d calls a b n =
    asking_rel {R = λ X. ValueRel (named X)} (λ W l s t g. text_maker_rel g a b (named_up l n)) (λ W l f g r. calls.call W l r (object_value_rel a b (named_up l n)) no_more)

pub function_row_rel : {V : World} {this that : Value} {vs ws : List Value} (c d : Calls) (which : BuiltIn) → CallsRel V c d → ValueRel (named V) this that → Each (ValueRel (named V)) vs ws
    → Agrees V (function_row c which this vs) (function_row d which that ws)
function_row_rel c d built_in.FunctionPrototypeCall calls h hs = call_function_rel c d calls h hs
function_row_rel c d built_in.FunctionPrototypeApply calls h hs = apply_function_rel c d calls h hs
function_row_rel c d built_in.FunctionPrototypeBind calls h hs = bind_function_rel h hs
function_row_rel c d built_in.ArrayPrototypeToString calls h hs = on_list_rel h (λ W l a b n. list_text_rel c d (calls_up l calls) a b n)
function_row_rel c d which calls h hs = raise_rel WrongArgument
