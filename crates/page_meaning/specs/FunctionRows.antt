-- Meaning: what the prototype of functions has, and the text of an array, which calls its `join` (sections 15.3.4 and 15.4.4.2).
use Rattle.std.specs.Prelude.{refl, ℕ, zero, suc, ◌-◌, Bool, List, [], ◌∷◌, ◌++◌, length, drop, Some, codes, if◌then◌else◌}
use Rattle.js_values.specs.declared.built_in.BuiltIn.TheVariants.{ObjectPrototypeToString}
use Rattle.js_values.specs.declared.ids.ObjId.{ObjId}
use Rattle.js_values.specs.declared.throw.Throw.TheVariants.{NotFunction, WrongArgument}
use Rattle.js_values.specs.declared.value.Value.{Value}
use Rattle.js_values.specs.declared.value.Value.TheVariants.{Undefined, Null, Object}
use Rattle.object_heap.specs.declared.object.Class.TheVariants.{Bound}
use Rattle.object_heap.specs.Define.{length_name, number}
use Rattle.object_heap.specs.Heap.{IsFit}
use Rattle.object_heap.specs.Object as heap
use Rattle.object_heap.specs.Object.{whole_object}
use Rattle.object_heap.specs.Property.{fixed}
use Rattle.object_heap.proofs.Callers.{one_name, ordinary_fit}
use Rattle.page_meaning.specs.Act.{Act, ActOf, Calls, ret, bind, asking, choose}
use Rattle.page_meaning.specs.Elements.{element_or, length_of, on_list}
use Rattle.page_meaning.specs.Errors.{raise}
use Rattle.page_meaning.specs.Functions.{object_of}
use Rattle.page_meaning.specs.ObjectRows.{argument}
use Rattle.page_meaning.specs.Places.{function_at, function_prototype}
use Rattle.page_meaning.specs.Primitives.{make, take_step}
use Rattle.page_meaning.specs.Properties.{class_of, get_at, is_function}
use Rattle.page_meaning.specs.Store.{Store}

-- 15.3.4.4
abbrev pub call_function : Calls → Value → List Value → Act
call_function calls f vs = calls.call f (argument vs 0) (drop 1 vs)

-- the elements of an array behind these values, turn by turn; a hole is undefined
abbrev pub gather : ObjId → List Value → ℕ → ℕ → ActOf (List Value)
gather at vs k zero = ret vs
gather at vs k (suc m) = bind take_step (λ _. asking (element_or at k) (λ v. gather at (vs ++ v ∷ []) (suc k) m))

abbrev pub apply_elements : Calls → Value → Value → ObjId → Act
apply_elements calls f this at = asking (length_of at) (λ n. bind (gather at [] 0 n) (calls.call f this))

-- a call with the elements of a list, or with no arguments
abbrev pub apply_to : Calls → Value → Value → Value → Act
apply_to calls f this Undefined = calls.call f this []
apply_to calls f this Null = calls.call f this []
apply_to calls f this list = on_list list (apply_elements calls f this)

abbrev pub is_callable : Value → Store → Bool
is_callable f s = is_function (class_of s f)

-- 15.3.4.3
abbrev pub apply_function : Calls → Value → List Value → Act
apply_function calls f vs =
    asking (is_callable f) (λ b. choose b (apply_to calls f (argument vs 0) (argument vs 1)) (raise NotFunction))

-- a bound function with the formals that are left, at least none (15.3.4.5)
abbrev pub bound_object : ObjId → Value → List Value → ℕ → heap.Object
bound_object target this args formals =
    whole_object (Bound target this args) (Some function_prototype) ((length_name, fixed (number (formals - length args))) ∷ [])

pub bound_fit : (target : ObjId) (this : Value) (args : List Value) (formals : ℕ) → IsFit (bound_object target this args formals)
bound_fit target this args formals =
    ordinary_fit (Bound target this args) (Some function_prototype) ((length_name, fixed (number (formals - length args))) ∷ []) refl
    (one_name length_name (fixed (number (formals - length args))))

abbrev pub bind_to : ObjId → Value → List Value → Act
bind_to target this args =
    asking (length_of target) (λ formals. bind (make (bound_object target this args formals) (bound_fit target this args formals) refl) object_of)

abbrev pub bind_function : Value → List Value → Act
bind_function (Object f) vs =
    asking (is_callable (Object f)) (λ b. choose b (bind_to f (argument vs 0) (drop 1 vs)) (raise WrongArgument))
bind_function v vs = raise WrongArgument

-- what makes a text of an array: its `join`, where that is a function
abbrev pub text_maker : ObjId → Store → Value
text_maker at s =
    if is_callable (get_at s at (codes "join")) s then get_at s at (codes "join") else Object (function_at ObjectPrototypeToString)

-- 15.4.4.2
abbrev pub list_text : Calls → ObjId → Act
list_text calls at = asking (text_maker at) (λ f. calls.call f (Object at) [])
