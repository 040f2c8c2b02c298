-- Acts one after another, and calls of what is built in: the functions of `Object`, and the constructors of errors.
use Rattle.std.proofs.Common.{◌≡◌, refl, ap, ◌∙◌, ℕ, suc, ◌<◌, true, false, List, [], Option, Some, codes, unwrap_or, arith}
use Rattle.std.specs.Option.{option_map}
use Rattle.built_in_paths.specs.Paths.{held_by}
use Rattle.js_core.specs.Tree as tree
use Rattle.js_core.specs.Tree.{call, construct, name}
use Rattle.js_values.specs.Throw.{kind_name}
use Rattle.js_values.specs.declared.built_in.BuiltIn.{BuiltIn}
use Rattle.js_values.specs.declared.built_in.BuiltIn.TheVariants as built_in
use Rattle.js_values.specs.declared.throw.ErrorKind.{ErrorKind}
use Rattle.js_values.specs.declared.throw.ErrorKind.TheVariants as kind
use Rattle.js_values.specs.declared.value.Value.{Value}
use Rattle.js_values.specs.declared.value.Value.TheVariants.{Object as Reference, Undefined}
use Rattle.object_heap.specs.Chain.{object_at}
use Rattle.object_heap.specs.Object.{Object}
use Rattle.object_heap.specs.Property.{hidden, own_property}
use Rattle.object_heap.specs.declared.object.Class.{Class}
use Rattle.object_heap.specs.declared.object.Class.TheVariants.{Native}
use Rattle.object_heap.specs.declared.property.Prop.{Prop}
use Rattle.page_meaning.specs.Act.{Act, Calls, Ended, Outcome, also, on_value, then_on}
use Rattle.page_meaning.specs.Calls.{begin, called, calls_at, constructed, constructs, is_constructor}
use Rattle.page_meaning.specs.Expressions.{eval, eval_args}
use Rattle.page_meaning.specs.Places.{at_place, function_at, function_place, window}
use Rattle.page_meaning.specs.Pristine.{built_ins}
use Rattle.page_meaning.specs.Properties.{get_member, is_function}
use Rattle.page_meaning.specs.Rows.{row_of}
use Rattle.page_meaning.specs.Store.{Store}
use Rattle.page_meaning.specs.declared.signal.Signal.{Signal}
use Rattle.page_meaning.specs.declared.signal.Signal.TheVariants.{Value as Val}
use Rattle.page_writer.specs.Statements.{object_function}
use Rattle.rebuilding.specs.Scene.{IsRunning, Scene, inside}
use Rattle.rebuilding.proofs.Ordinary.{built_in_unhosted}
use Rattle.rebuilding.proofs.Paths.{plain_read, built_in_found, name_read}
use Rattle.object_shapes.specs.Shapes.{built_in_at}
use Rattle.page_meaning.specs.Places.{built_in_count}

-- what goes on with a value, once it is there
pub also_on : (f : Value → Act) {o : Outcome Signal} {v : Value} {t : Store} {k : ℕ} → o ≡ Ended (Val v) t k → then_on o (on_value f) ≡ (f v).run t k
also_on f e = ap (λ (o : Outcome Signal). then_on o (on_value f)) e

-- ---- calls

-- a built-in function is called, and takes a step
pub native_called : (d : ℕ) (which : BuiltIn) (f : ℕ) (this : Value) (vs : List Value) (s : Store) (n : ℕ)
    → (object_at s.heap.objects f).class ≡ Native which
    → ((calls_at (suc d)).call (Reference (at_place f)) this vs).run s (suc n) ≡ (row_of (calls_at d) false which this vs).run s n
native_called d which f this vs s n e =
    ap (λ (c : Class). (begin (is_function (Some c)) (called (calls_at d) this vs (Some c))).run s (suc n)) e

-- and so it is constructed, where it may be
pub native_constructed : (d : ℕ) (which : BuiltIn) (f : ℕ) (vs : List Value) (s : Store) (n : ℕ) → (object_at s.heap.objects f).class ≡ Native which
    → constructs which ≡ true
    → ((calls_at (suc d)).construct (Reference (at_place f)) vs).run s (suc n) ≡ (row_of (calls_at d) true which Undefined vs).run s n
native_constructed d which f vs s n e may =
    ap (λ (c : Class). (begin (is_constructor (Some c)) (constructed (calls_at d) (Reference (at_place f)) vs (Some c))).run s (suc n)) e
    ∙ ap (λ b. (begin b (row_of (calls_at d) true which Undefined vs)).run s (suc n)) may

module _ (c : Scene) (s : Store) (sites : List ℕ) (r : IsRunning c s.heap sites) where
  -- ---- what is built in is what it was

  class_stays : (k : ℕ) → 0 < k → k < built_in_count → (object_at s.heap.objects k).class ≡ (built_in_at k).class
  class_stays k positive low = ap (λ (o : Object). o.class) (r.own.objects k positive low)

  pub is_define_property : (object_at s.heap.objects (function_place built_in.ObjectDefineProperty)).class ≡ Native built_in.ObjectDefineProperty
  unfolding function_place built_in_count
  is_define_property = class_stays 21 (omega arith) (omega arith)

  pub is_create : (object_at s.heap.objects (function_place built_in.ObjectCreate)).class ≡ Native built_in.ObjectCreate
  unfolding function_place built_in_count
  is_create = class_stays 20 (omega arith) (omega arith)

  pub is_prevent_extensions : (object_at s.heap.objects (function_place built_in.ObjectPreventExtensions)).class
      ≡ Native built_in.ObjectPreventExtensions
  unfolding function_place built_in_count
  is_prevent_extensions = class_stays 25 (omega arith) (omega arith)

  pub is_bind : (object_at s.heap.objects (function_place built_in.FunctionPrototypeBind)).class ≡ Native built_in.FunctionPrototypeBind
  unfolding function_place built_in_count
  is_bind = class_stays 33 (omega arith) (omega arith)

  pub is_error : (object_at s.heap.objects (function_place built_in.Error)).class ≡ Native built_in.Error
  unfolding function_place built_in_count
  is_error = class_stays 87 (omega arith) (omega arith)

  pub is_type_error : (object_at s.heap.objects (function_place built_in.TypeError)).class ≡ Native built_in.TypeError
  unfolding function_place built_in_count
  is_type_error = class_stays 89 (omega arith) (omega arith)

  pub is_range_error : (object_at s.heap.objects (function_place built_in.RangeError)).class ≡ Native built_in.RangeError
  unfolding function_place built_in_count
  is_range_error = class_stays 91 (omega arith) (omega arith)

  pub is_reference_error : (object_at s.heap.objects (function_place built_in.ReferenceError)).class ≡ Native built_in.ReferenceError
  unfolding function_place built_in_count
  is_reference_error = class_stays 93 (omega arith) (omega arith)

  -- ---- functions of `Object`

  module _ (calls : Calls) (n : ℕ) where
    -- a name that holds a built-in function
    pub constructor_read : (x : List ℕ) (which : BuiltIn) → held_by built_ins window.0 x ≡ Some (function_place which)
        → (eval calls (inside c) (name x)).run s n ≡ Ended (Val (Reference (function_at which))) s n
    constructor_read x which held = name_read c s sites r calls n x (function_place which) held

    member_got : (k : ℕ) (x : List ℕ) (p : Prop) → own_property (built_in_at k).props x ≡ Some p
        → (get_member (Reference (at_place k)) x).run s n ≡ Ended (Val p.value) s n
    member_got k x p there =
        plain_read c s sites r calls n (at_place k) x (built_in_unhosted k x p there)
        ∙ ap (λ (o : Option Prop). Ended (Val (unwrap_or (option_map (λ q. q.value) o) Undefined)) s n) (built_in_found c s sites r k x p there)

    object_called : (x : List ℕ) (which : BuiltIn) (es : tree.Exprs)
        → own_property (built_in_at (function_place built_in.Object)).props x ≡ Some (hidden (Reference (function_at which)))
        → (eval calls (inside c) (call (object_function x) es)).run s n
        ≡ (eval_args calls (inside c) es [] (calls.call (Reference (function_at which)) (Reference (function_at built_in.Object)))).run s n
    object_called x which es there =
        also_on (λ base. also (get_member base x) (λ f. eval_args calls (inside c) es [] (calls.call f base)))
        (constructor_read (codes "Object") built_in.Object refl)
        ∙ also_on (λ f. eval_args calls (inside c) es [] (calls.call f (Reference (function_at built_in.Object))))
        (member_got (function_place built_in.Object) x (hidden (Reference (function_at which))) there)

    pub define_property_called : (es : tree.Exprs) → (eval calls (inside c) (call (object_function (codes "defineProperty")) es)).run s n
        ≡ (eval_args calls (inside c) es [] (calls.call (Reference (function_at built_in.ObjectDefineProperty))
        (Reference (function_at built_in.Object)))).run s n
    unfolding function_place
    define_property_called es = object_called (codes "defineProperty") built_in.ObjectDefineProperty es refl

    pub create_called : (es : tree.Exprs) → (eval calls (inside c) (call (object_function (codes "create")) es)).run s n
        ≡ (eval_args calls (inside c) es [] (calls.call (Reference (function_at built_in.ObjectCreate))
        (Reference (function_at built_in.Object)))).run s n
    unfolding function_place
    create_called es = object_called (codes "create") built_in.ObjectCreate es refl

    pub prevent_extensions_called : (es : tree.Exprs) → (eval calls (inside c) (call (object_function (codes "preventExtensions")) es)).run s n
        ≡ (eval_args calls (inside c) es [] (calls.call (Reference (function_at built_in.ObjectPreventExtensions))
        (Reference (function_at built_in.Object)))).run s n
    unfolding function_place
    prevent_extensions_called es = object_called (codes "preventExtensions") built_in.ObjectPreventExtensions es refl

-- ---- constructors of errors

abbrev pub constructor_of : ErrorKind → BuiltIn
constructor_of kind.Plain = built_in.Error
constructor_of kind.Type = built_in.TypeError
constructor_of kind.Range = built_in.RangeError
constructor_of kind.Reference = built_in.ReferenceError

pub constructor_named : (k : ErrorKind) → held_by built_ins window.0 (kind_name k) ≡ Some (function_place (constructor_of k))
constructor_named kind.Plain = refl
constructor_named kind.Type = refl
constructor_named kind.Range = refl
constructor_named kind.Reference = refl

pub constructor_class : (c : Scene) (s : Store) (sites : List ℕ) → IsRunning c s.heap sites → (k : ErrorKind)
    → (object_at s.heap.objects (function_place (constructor_of k))).class ≡ Native (constructor_of k)
constructor_class c s sites r kind.Plain = is_error c s sites r
constructor_class c s sites r kind.Type = is_type_error c s sites r
constructor_class c s sites r kind.Range = is_range_error c s sites r
constructor_class c s sites r kind.Reference = is_reference_error c s sites r
