-- Meaning: what calls back for the elements of an array (sections 15.4.4.16 to 15.4.4.21).
use Rattle.std.specs.Prelude.{ℕ, zero, suc, List, [], ◌∷◌, true, false}
use Rattle.js_values.specs.declared.built_in.BuiltIn.{BuiltIn}
use Rattle.js_values.specs.declared.built_in.BuiltIn.TheVariants as built_in
use Rattle.js_values.specs.declared.ids.ObjId.{ObjId}
use Rattle.js_values.specs.declared.throw.Throw.TheVariants.{WrongArgument}
use Rattle.js_values.specs.declared.value.Value.{Value}
use Rattle.js_values.specs.declared.value.Value.TheVariants.{Undefined, Bool as Truth, Object}
use Rattle.object_heap.specs.Define.{number}
use Rattle.whole_ops.specs.Conversions.{is_true}
use Rattle.page_meaning.specs.declared.visit.Visit.{Visit}
use Rattle.page_meaning.specs.declared.visit.Visit.TheVariants as visit
use Rattle.page_meaning.specs.Act.{Act, Calls, bind, give, also, asking, choose}
use Rattle.page_meaning.specs.Elements.{define_element, element, length_of, on_element, on_list, set_length}
use Rattle.page_meaning.specs.Errors.{raise}
use Rattle.page_meaning.specs.Expressions.{new_list}
use Rattle.page_meaning.specs.FunctionRows.{is_callable}
use Rattle.page_meaning.specs.ObjectRows.{argument}
use Rattle.page_meaning.specs.Primitives.{take_step}

-- `this` and the arguments of a call: what was accumulated, the element, its index, the array
abbrev pub this_of : Visit → Value → Value
this_of (visit.Reduce total) this = Undefined
this_of kind this = this

abbrev pub arguments_of : Visit → Value → ℕ → ObjId → List Value
arguments_of (visit.Reduce total) v k at = total ∷ v ∷ number k ∷ Object at ∷ []
arguments_of kind v k at = v ∷ number k ∷ Object at ∷ []

-- what is given past the last element
abbrev pub past_last : Visit → Value
past_last visit.Every = Truth true
past_last visit.Some = Truth false
past_last visit.ForEach = Undefined
past_last (visit.Map a) = Object a
past_last (visit.Filter a to) = Object a
past_last (visit.Reduce total) = total

-- what the call gave for an element: the visit ends, or goes on
abbrev pub told : Visit → Value → ℕ → Value → (Visit → Act) → Act
told visit.Every v k w next = choose (is_true w) (next visit.Every) (give (Truth false))
told visit.Some v k w next = choose (is_true w) (give (Truth true)) (next visit.Some)
told visit.ForEach v k w next = next visit.ForEach
told (visit.Map a) v k w next = also (define_element a k w) (λ _. next (visit.Map a))
told (visit.Filter a to) v k w next =
    choose (is_true w) (also (define_element a to v) (λ _. next (visit.Filter a (suc to)))) (next (visit.Filter a to))
told (visit.Reduce total) v k w next = next (visit.Reduce w)

-- so many turns from this index on: each takes its step, passes over a hole, and calls for an element
abbrev pub visits : Calls → Value → Value → ObjId → Visit → ℕ → ℕ → Act
visits calls f this at kind k zero = give (past_last kind)
visits calls f this at kind k (suc m) =
    bind take_step (λ _. asking (element at k) (on_element (visits calls f this at kind (suc k) m)
    (λ v. also (calls.call f (this_of kind this) (arguments_of kind v k at)) (λ w. told kind v k w (λ next. visits calls f this at next (suc k) m)))))

-- without a value to begin with, the first element is accumulated
abbrev pub reduce_from : Calls → Value → ObjId → ℕ → ℕ → Act
reduce_from calls f at k zero = raise WrongArgument
reduce_from calls f at k (suc m) =
    bind take_step (λ _. asking (element at k) (on_element (reduce_from calls f at (suc k) m) (λ v. visits calls f Undefined at (visit.Reduce v) (suc k) m)))

abbrev pub reduce : Calls → ObjId → ℕ → List Value → Act
reduce calls at n (f ∷ total ∷ vs) = visits calls f Undefined at (visit.Reduce total) 0 n
reduce calls at n vs = reduce_from calls (argument vs 0) at 0 n

-- the array that `map` makes has the length from the start
abbrev pub map_all : Calls → Value → Value → ObjId → ℕ → Act
map_all calls f this at n = bind new_list (λ a. also (set_length a n) (λ _. visits calls f this at (visit.Map a) 0 n))

-- that of `filter` has none
abbrev pub filter_all : Calls → Value → Value → ObjId → ℕ → Act
filter_all calls f this at n = bind new_list (λ a. visits calls f this at (visit.Filter a 0) 0 n)

-- on an array of this length, with a function to call
abbrev pub visit_list : Calls → BuiltIn → ObjId → ℕ → List Value → Act
visit_list calls built_in.ArrayPrototypeEvery at n vs = visits calls (argument vs 0) (argument vs 1) at visit.Every 0 n
visit_list calls built_in.ArrayPrototypeSome at n vs = visits calls (argument vs 0) (argument vs 1) at visit.Some 0 n
visit_list calls built_in.ArrayPrototypeForEach at n vs = visits calls (argument vs 0) (argument vs 1) at visit.ForEach 0 n
visit_list calls built_in.ArrayPrototypeMap at n vs = map_all calls (argument vs 0) (argument vs 1) at n
visit_list calls built_in.ArrayPrototypeFilter at n vs = filter_all calls (argument vs 0) (argument vs 1) at n
visit_list calls built_in.ArrayPrototypeReduce at n vs = reduce calls at n vs
visit_list calls which at n vs = raise WrongArgument

-- what cannot be called is refused, for an empty array too
abbrev pub visit_on : Calls → BuiltIn → List Value → ObjId → Act
visit_on calls which vs at =
    asking (length_of at) (λ n. asking (is_callable (argument vs 0)) (λ b. choose b (visit_list calls which at n vs) (raise WrongArgument)))

abbrev pub visit_row : Calls → BuiltIn → Value → List Value → Act
visit_row calls which this vs = on_list this (visit_on calls which vs)
