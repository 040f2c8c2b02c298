-- What the prototype of functions has, and the text of an array, which calls its `join` (sections 15.3.4 and 15.4.4.2).
use Rattle.std.proofs.Common.{ℕ, zero, suc, ◌-◌, ◌≤◌, List, arith}
use Rattle.std.specs.Prelude.{[], ◌∷◌, ◌++◌, drop, length, refl}
use Rattle.js_core.specs.Whole.{largest}
use Rattle.js_values.specs.declared.built_in.BuiltIn.{BuiltIn}
use Rattle.js_values.specs.declared.built_in.BuiltIn.TheVariants as built_in
use Rattle.js_values.specs.declared.ids.ObjId.{ObjId}
use Rattle.js_values.specs.declared.throw.Throw.TheVariants.{NotFunction, WrongArgument}
use Rattle.js_values.specs.declared.value.Value.{Value}
use Rattle.js_values.specs.declared.value.Value.TheVariants.{Undefined, Null, Bool as Truth, Num, Text, Object}
use Rattle.object_heap.specs.Define.{length_name}
use Rattle.page_meaning.specs.Act.{Calls}
use Rattle.page_meaning.specs.Elements.{on_list}
use Rattle.page_meaning.specs.FunctionRows.{apply_elements, apply_function, apply_to, bind_function, bind_to, bound_fit, bound_object, call_function, gather, list_text}
use Rattle.page_meaning.specs.ObjectRows.{argument}
use Rattle.page_meaning.specs.Rows.{function_row}
use Rattle.literal_values.specs.Objects.{LiteralObject}
use Rattle.literal_values.specs.Values.{AreBounded, IsBounded}
use Rattle.literal_values.proofs.Callers.{text_seen, values_dropped, values_joined}
use Rattle.written_pages.proofs.Acts.{asking_any, bind_is, choose_is, give_is, ret_is, stepped_is}
use Rattle.written_pages.proofs.Elements.{on_found_or_is, on_length_is, on_list_is}
use Rattle.written_pages.proofs.ObjectRows.{argument_is}
use Rattle.written_pages.proofs.Primitives.{make_is, raise_is}
use Rattle.written_pages.specs.Acts.{ActIs, CallsAre, Writes}

call_function_is : {calls : Calls} → CallsAre calls → (f : Value) (vs : List Value) → AreBounded vs → Writes (call_function calls f vs)
call_function_is c f vs h = c.call f (argument vs 0) (drop 1 vs) (argument_is vs 0 h) (values_dropped 1 vs h)

-- ---- a call with the elements of an array

gather_is : (at : ObjId) (vs : List Value) (k m : ℕ) → AreBounded vs → ActIs AreBounded (gather at vs k m)
gather_is at vs k zero h = ret_is vs h
gather_is at vs k (suc m) h =
    stepped_is (λ u. on_found_or_is at k (λ v p. gather_is at (vs ++ v ∷ []) (suc k) m (values_joined vs (v ∷ []) h (p, tt))))

apply_elements_is : {calls : Calls} → CallsAre calls → (f this : Value) → IsBounded this → (at : ObjId) → Writes (apply_elements calls f this at)
apply_elements_is c f this h at = asking_any (λ n. bind_is (gather_is at [] 0 n tt) (λ vs k. c.call f this vs h k))

apply_list_is : {calls : Calls} → CallsAre calls → (f this v : Value) → IsBounded this → Writes (on_list v (apply_elements calls f this))
apply_list_is c f this v h = on_list_is v (λ at. apply_elements_is c f this h at)

apply_to_is : {calls : Calls} → CallsAre calls → (f this v : Value) → IsBounded this → Writes (apply_to calls f this v)
apply_to_is c f this Undefined h = c.call f this [] h tt
apply_to_is c f this Null h = c.call f this [] h tt
apply_to_is c f this (Truth b) h = apply_list_is c f this (Truth b) h
apply_to_is c f this (Num n) h = apply_list_is c f this (Num n) h
apply_to_is c f this (Text t) h = apply_list_is c f this (Text t) h
apply_to_is c f this (Object at) h = apply_list_is c f this (Object at) h

apply_function_is : {calls : Calls} → CallsAre calls → (f : Value) (vs : List Value) → AreBounded vs → Writes (apply_function calls f vs)
apply_function_is c f vs h =
    asking_any (λ b. choose_is b (apply_to_is c f (argument vs 0) (argument vs 1) (argument_is vs 0 h)) (raise_is NotFunction tt))

-- ---- bound functions

bound_literal : (target : ObjId) (this : Value) (args : List Value) (formals : ℕ) → IsBounded this → AreBounded args → formals ≤ largest
    → LiteralObject (bound_object target this args formals)
bound_literal target this args formals h k short = record { class = (h, k); props = (text_seen length_name refl, left, tt) }
  where
    left : formals - length args ≤ largest
    left = omega (arith, short)

bind_to_is : (target : ObjId) (this : Value) (args : List Value) → IsBounded this → AreBounded args → Writes (bind_to target this args)
bind_to_is target this args h k =
    on_length_is target (λ formals short.
    bind_is (make_is (bound_object target this args formals) (bound_fit target this args formals) refl (bound_literal target this args formals h k short))
    (λ at p. give_is (Object at) tt))

bind_function_is : (f : Value) (vs : List Value) → AreBounded vs → Writes (bind_function f vs)
bind_function_is (Object f) vs h =
    asking_any (λ b. choose_is b (bind_to_is f (argument vs 0) (drop 1 vs) (argument_is vs 0 h) (values_dropped 1 vs h)) (raise_is WrongArgument tt))
bind_function_is Undefined vs h = raise_is WrongArgument tt
bind_function_is Null vs h = raise_is WrongArgument tt
bind_function_is (Truth b) vs h = raise_is WrongArgument tt
bind_function_is (Num n) vs h = raise_is WrongArgument tt
bind_function_is (Text t) vs h = raise_is WrongArgument tt

-- ---- the row

list_text_is : {calls : Calls} → CallsAre calls → (at : ObjId) → Writes (list_text calls at)
list_text_is c at = asking_any (λ f. c.call f (Object at) [] tt tt)

pub function_row_is : {calls : Calls} → CallsAre calls → (which : BuiltIn) (this : Value) (vs : List Value) → IsBounded this → AreBounded vs
    → Writes (function_row calls which this vs)
function_row_is c built_in.FunctionPrototypeCall this vs h k = call_function_is c this vs k
function_row_is c built_in.FunctionPrototypeApply this vs h k = apply_function_is c this vs k
function_row_is c built_in.FunctionPrototypeBind this vs h k = bind_function_is this vs k
function_row_is c built_in.ArrayPrototypeToString this vs h k = on_list_is this (λ at. list_text_is c at)
function_row_is c which this vs h k = raise_is WrongArgument tt
