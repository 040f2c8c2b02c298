-- Meaning: calls and constructions (sections 11.2.3, 13.2.1, 13.2.2 and 15.3.4.5). The step and the depth of a call are taken here alone.
use Rattle.std.specs.Prelude.{refl, ℕ, zero, suc, Bool, true, false, List, ◌++◌, Option, Some, codes}
use Rattle.js_core.specs.Tree as tree
use Rattle.js_values.specs.declared.built_in.BuiltIn.{BuiltIn}
use Rattle.js_values.specs.declared.built_in.BuiltIn.TheVariants as built_in
use Rattle.js_values.specs.declared.ids.EnvId.{EnvId}
use Rattle.js_values.specs.declared.ids.ObjId.{ObjId}
use Rattle.js_values.specs.declared.throw.Throw.TheVariants.{NotFunction, TooDeep}
use Rattle.js_values.specs.declared.value.Value.{Value}
use Rattle.js_values.specs.declared.value.Value.TheVariants.{Undefined, Object}
use Rattle.object_heap.specs.declared.object.Class.{Class}
use Rattle.object_heap.specs.declared.object.Class.TheVariants.{Plain, Page, Native, Bound}
use Rattle.object_heap.specs.Heap.{new_object}
use Rattle.page_meaning.specs.Act.{Act, Calls, bind, give, also, asking, choose}
use Rattle.page_meaning.specs.Errors.{raise}
use Rattle.page_meaning.specs.Functions.{enter}
use Rattle.page_meaning.specs.Places.{object_prototype}
use Rattle.page_meaning.specs.Primitives.{make, take_step}
use Rattle.page_meaning.specs.Properties.{class_of, is_function, read_property}
use Rattle.page_meaning.specs.Rows.{row_of}
use Rattle.page_meaning.specs.Statements.{exec_all}
use Rattle.object_heap.proofs.Callers.{new_fit}

-- what is called, once its step is taken, with the calls that it may make itself
abbrev pub called : Calls → Value → List Value → Option Class → Act
called calls this vs (Some (Page c env)) = enter (exec_all calls) c env this vs
called calls this vs (Some (Native which)) = row_of calls false which this vs
called calls this vs (Some (Bound target own args)) = calls.call (Object target) own (args ++ vs)
called calls this vs c = raise NotFunction

abbrev pub object_or : ObjId → Value → ObjId
object_or other (Object p) = p
object_or other v = other

-- an object that the body returns takes the place of the new one
abbrev pub built : ObjId → Value → Value
built made (Object o) = Object o
built made v = Object made

-- a fresh object of the function's `prototype`, and the body on it (13.2.2)
abbrev pub build : Calls → Value → tree.Code → Option EnvId → List Value → Act
build calls f c env vs =
    also (read_property f (codes "prototype"))
    (λ p. bind (make (new_object Plain (Some (object_or object_prototype p))) (new_fit Plain (Some (object_or object_prototype p))) refl)
    (λ o. also (enter (exec_all calls) c env (Object o) vs) (λ v. give (built o v))))

abbrev pub constructed : Calls → Value → List Value → Option Class → Act
constructed calls f vs (Some (Page c env)) = build calls f c env vs
constructed calls f vs (Some (Native which)) = row_of calls true which Undefined vs
constructed calls f vs (Some (Bound target own args)) = calls.construct (Object target) (args ++ vs)
constructed calls f vs c = raise NotFunction

-- the built-in functions that the standard constructs
abbrev pub constructs : BuiltIn → Bool
constructs built_in.Object = true
constructs built_in.Function = true
constructs built_in.Array = true
constructs built_in.String = true
constructs built_in.Number = true
constructs built_in.Boolean = true
constructs built_in.Error = true
constructs built_in.TypeError = true
constructs built_in.RangeError = true
constructs built_in.ReferenceError = true
constructs which = false

abbrev pub is_constructor : Option Class → Bool
is_constructor (Some (Page c env)) = true
is_constructor (Some (Native which)) = constructs which
is_constructor (Some (Bound target own args)) = true
is_constructor c = false

-- what is no function throws without a step; else a step is taken, and then a level of depth, where one is left
abbrev pub begin : Bool → Act → Act
begin may go = choose may (bind take_step (λ _. go)) (raise NotFunction)

-- the calls that may be made with so many levels of depth left
abbrev pub calls_at : ℕ → Calls
calls_at zero = record {
  call = λ f this vs. asking (λ s. class_of s f) (λ c. begin (is_function c) (raise TooDeep));
  construct = λ f vs. asking (λ s. class_of s f) (λ c. begin (is_constructor c) (raise TooDeep));
}
calls_at (suc d) = record {
  call = λ f this vs. asking (λ s. class_of s f) (λ c. begin (is_function c) (called (calls_at d) this vs c));
  construct = λ f vs. asking (λ s. class_of s f) (λ c. begin (is_constructor c) (constructed (calls_at d) f vs c));
}
