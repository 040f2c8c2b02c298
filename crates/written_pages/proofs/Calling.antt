-- Calls and constructions.
use Rattle.std.proofs.Common.{ℕ, zero, suc, Bool, List}
use Rattle.std.specs.Prelude.{◌++◌, Option, Some, None, codes, refl, ⊤}
use Rattle.js_core.specs.Tree as tree
use Rattle.js_values.specs.declared.ids.EnvId.{EnvId}
use Rattle.js_values.specs.declared.ids.ObjId.{ObjId}
use Rattle.js_values.specs.declared.throw.Throw.TheVariants.{NotFunction, TooDeep}
use Rattle.js_values.specs.declared.value.Value.{Value}
use Rattle.js_values.specs.declared.value.Value.TheVariants.{Undefined, Null, Bool as Truth, Num, Text, Object}
use Rattle.object_heap.proofs.Callers.{new_fit}
use Rattle.object_heap.specs.Heap.{new_object}
use Rattle.object_heap.specs.declared.object.Class.{Class}
use Rattle.object_heap.specs.declared.object.Class.TheVariants.{Plain, List as Array, Page, Native, Bound, Fault, Math, Window, Node, Event}
use Rattle.page_meaning.specs.Act.{Act, Calls}
use Rattle.page_meaning.specs.Calls.{begin, build, built, called, calls_at, constructed, is_constructor, object_or}
use Rattle.page_meaning.specs.Classes.{class_of, is_function}
use Rattle.page_meaning.specs.Places.{object_prototype}
use Rattle.page_meaning.specs.Store.{Store}
use Rattle.literal_values.proofs.Callers.{object_literal, values_joined}
use Rattle.literal_values.specs.Objects.{LiteralClass}
use Rattle.literal_values.specs.Stores.{LiteralStore}
use Rattle.literal_values.specs.Trees.{LiteralCode}
use Rattle.literal_values.specs.Values.{AreBounded, IsBounded}
use Rattle.written_pages.proofs.Acts.{also_is, asking_any, asking_is, bind_is, choose_is, give_is, stepped_is}
use Rattle.written_pages.proofs.Functions.{enter_is}
use Rattle.written_pages.proofs.AllRows.{row_of_is}
use Rattle.written_pages.proofs.Made.{plain_literal}
use Rattle.written_pages.proofs.Primitives.{make_is, raise_is}
use Rattle.written_pages.proofs.Properties.{read_property_is}
use Rattle.written_pages.proofs.Statements.{exec_all_is}
use Rattle.written_pages.specs.Acts.{CallsAre, Writes}

abbrev pub MaybeClass : Option Class → Type 0
MaybeClass None = ⊤
MaybeClass (Some c) = LiteralClass c

pub class_of_literal : (s : Store) (v : Value) → LiteralStore s → MaybeClass (class_of s v)
class_of_literal s Undefined l = tt
class_of_literal s Null l = tt
class_of_literal s (Truth b) l = tt
class_of_literal s (Num n) l = tt
class_of_literal s (Text t) l = tt
class_of_literal s (Object at) l = (object_literal s at.0 l).class

called_is : {calls : Calls} → CallsAre calls → (this : Value) (vs : List Value) (o : Option Class) → MaybeClass o → IsBounded this → AreBounded vs
    → Writes (called calls this vs o)
called_is c this vs None h k l = raise_is NotFunction tt
called_is c this vs (Some (Page d env)) h k l = enter_is (λ here t body b. exec_all_is c here t body b) d env this vs h k l
called_is c this vs (Some (Native which)) h k l = row_of_is c _ which this vs k l
called_is c this vs (Some (Bound target own args)) h k l = c.call (Object target) own (args ++ vs) h.0 (values_joined args vs h.1 l)
called_is c this vs (Some Plain) h k l = raise_is NotFunction tt
called_is c this vs (Some Array) h k l = raise_is NotFunction tt
called_is c this vs (Some Fault) h k l = raise_is NotFunction tt
called_is c this vs (Some Math) h k l = raise_is NotFunction tt
called_is c this vs (Some Window) h k l = raise_is NotFunction tt
called_is c this vs (Some (Node n)) h k l = raise_is NotFunction tt
called_is c this vs (Some (Event parts)) h k l = raise_is NotFunction tt

built_bounded : (made : ObjId) (v : Value) → IsBounded (built made v)
built_bounded made Undefined = tt
built_bounded made Null = tt
built_bounded made (Truth b) = tt
built_bounded made (Num n) = tt
built_bounded made (Text t) = tt
built_bounded made (Object at) = tt

build_is : {calls : Calls} → CallsAre calls → (f : Value) (d : tree.Code) (env : Option EnvId) (vs : List Value) → IsBounded f → LiteralCode d → AreBounded vs
    → Writes (build calls f d env vs)
build_is c f d env vs h k l =
    also_is (read_property_is f (codes "prototype") h) (λ p q.
    let proto = Some (object_or object_prototype p) in
    bind_is (make_is (new_object Plain proto) (new_fit Plain proto) refl (plain_literal proto)) (λ o r.
    also_is (enter_is (λ here t body b. exec_all_is c here t body b) d env (Object o) vs k tt l) (λ v s. give_is (built o v) (built_bounded o v))))

constructed_is : {calls : Calls} → CallsAre calls → (f : Value) (vs : List Value) (o : Option Class) → MaybeClass o → IsBounded f → AreBounded vs
    → Writes (constructed calls f vs o)
constructed_is c f vs None h k l = raise_is NotFunction tt
constructed_is c f vs (Some (Page d env)) h k l = build_is c f d env vs k h l
constructed_is c f vs (Some (Native which)) h k l = row_of_is c _ which Undefined vs tt l
constructed_is c f vs (Some (Bound target own args)) h k l = c.construct (Object target) (args ++ vs) tt (values_joined args vs h.1 l)
constructed_is c f vs (Some Plain) h k l = raise_is NotFunction tt
constructed_is c f vs (Some Array) h k l = raise_is NotFunction tt
constructed_is c f vs (Some Fault) h k l = raise_is NotFunction tt
constructed_is c f vs (Some Math) h k l = raise_is NotFunction tt
constructed_is c f vs (Some Window) h k l = raise_is NotFunction tt
constructed_is c f vs (Some (Node n)) h k l = raise_is NotFunction tt
constructed_is c f vs (Some (Event parts)) h k l = raise_is NotFunction tt

begin_is : {go : Act} (may : Bool) → Writes go → Writes (begin may go)
begin_is may h = choose_is may (stepped_is (λ u. h)) (raise_is NotFunction tt)

pub calls_are : (depth : ℕ) → CallsAre (calls_at depth)
calls_are zero = record {
  call = λ f this vs h k. asking_any (λ o. begin_is (is_function o) (raise_is TooDeep tt));
  construct = λ f vs h k. asking_any (λ o. begin_is (is_constructor o) (raise_is TooDeep tt));
}
calls_are (suc d) = record {
  call = λ f this vs h k. asking_is MaybeClass (λ s l. class_of_literal s f l) (λ o p. begin_is (is_function o) (called_is (calls_are d) this vs o p h k));
  construct = λ f vs h k. asking_is MaybeClass (λ s l. class_of_literal s f l) (λ o p. begin_is (is_constructor o) (constructed_is (calls_are d) f vs o p h k));
}
