-- What a bound function calls has the `bind` of functions.
use Rattle.std.proofs.Common.{◌≡◌, refl, ap, ◌∙◌, ℕ, zero, suc, Bool, true, false, ◌||◌, ◌&&◌, not, nat_eq, List, Option, Some, None, is_some, drop}
use Rattle.std.proofs.lemmas.Bool.{eqb-true}
use Rattle.std.specs.List.{list_all}
use Rattle.std.specs.Option.{option_map}
use Rattle.std.specs.Prelude.{codes}
use Rattle.js_values.specs.declared.built_in.BuiltIn.TheVariants.{FunctionPrototypeBind}
use Rattle.js_values.specs.declared.ids.ObjId.{ObjId}
use Rattle.js_values.specs.declared.value.Value.{Value}
use Rattle.js_values.specs.declared.value.Value.TheVariants.{Object as Reference}
use Rattle.object_heap.proofs.Callers.{property_on}
use Rattle.object_heap.specs.Chain.{AreOlder, first_found, get, get_property, object_at}
use Rattle.object_heap.specs.Object.{Object}
use Rattle.object_heap.specs.Property.{own_property}
use Rattle.object_heap.specs.declared.object.Class.{Class}
use Rattle.object_heap.specs.declared.object.Class.TheVariants as class
use Rattle.object_heap.specs.declared.property.Prop.{Prop}
use Rattle.page_meaning.specs.Places.{function_at, function_prototype}
use Rattle.page_meaning.specs.Pristine.{built_ins}
use Rattle.page_meaning.specs.Properties.{is_function}
use Rattle.page_meaning.specs.Store.{Store}
use Rattle.rebuilding.proofs.Placed.{at_or}
use Rattle.rebuilding.proofs.Stages.{MadeProps}
use Rattle.object_shapes.specs.Shapes.{HasShape, built_in_at}

abbrev pub bind_name : List ℕ
bind_name = codes "bind"

abbrev pub bind_value : Value
bind_value = Reference (function_at FunctionPrototypeBind)

abbrev pub own_bind : Object → Option Prop
own_bind o = own_property o.props bind_name

-- ---- built-in functions inherit it

abbrev is_function_prototype : Option ObjId → Bool
is_function_prototype None = false
is_function_prototype (Some at) = nat_eq at.0 function_prototype.0

abbrev inherits : Object → Bool
inherits o = not (is_function (Some o.class)) || (not (is_some (own_bind o)) && is_function_prototype o.proto)

all_inherit : list_all inherits (drop 3 built_ins) ≡ true
all_inherit = refl

of_function : (o : Object) → inherits o ≡ true → is_function (Some o.class) ≡ true → (own_bind o ≡ None) × (o.proto ≡ Some function_prototype)
of_function o has is = by (own_bind o) refl o.proto refl
  where
    by : (own : Option Prop) → own_bind o ≡ own → (proto : Option ObjId) → o.proto ≡ proto
        → (own_bind o ≡ None) × (o.proto ≡ Some function_prototype)
    by (Some p) e proto f = cc (rw (is, e) at has)
    by None e None f = cc (rw (is, e, f) at has)
    by None e (Some at) f = (e, f ∙ ap (λ n. Some (record { 0 = n })) (eqb-true at.0 function_prototype.0 (rw (is, e, f) at has)))

-- ---- from the prototype of functions

module _ (objects : List Object) (ages : AreOlder objects)
    (prototype : object_at objects function_prototype.0 ≡ built_in_at function_prototype.0) where
  in_prototype : get objects function_prototype.0 bind_name ≡ Some bind_value
  in_prototype =
      ap (option_map (λ (p : Prop). p.value))
      (property_on objects function_prototype.0 bind_name ages
      ∙ ap (λ (o : Object). first_found (own_bind o) o.proto (λ q. get_property objects q bind_name)) prototype)

  pub inherited : (k : ℕ) → own_bind (object_at objects k) ≡ None → (object_at objects k).proto ≡ Some function_prototype
      → get objects k bind_name ≡ Some bind_value
  inherited k own proto =
      ap (option_map (λ (p : Prop). p.value))
      (property_on objects k bind_name ages ∙ (λ i. first_found (own i) (proto i) (λ q. get_property objects q bind_name)))
      ∙ in_prototype

  -- ---- built-in functions

  pub built_in_bind : (k : ℕ) → object_at objects k ≡ built_in_at k → is_function (Some (built_in_at k).class) ≡ true
      → get objects k bind_name ≡ Some bind_value
  built_in_bind zero at is = cc is
  built_in_bind (suc zero) at is = cc is
  built_in_bind (suc (suc zero)) at is = in_prototype
  built_in_bind (suc (suc (suc k))) at is =
      let has = of_function (built_in_at (suc (suc (suc k)))) (at_or inherits (drop 3 built_ins) k all_inherit refl) is in
      inherited (suc (suc (suc k))) (ap own_bind at ∙ has.0) (ap (λ (o : Object). o.proto) at ∙ has.1)

-- ---- things that are functions

pub own_none : (s : Store) (o : Object) (a : Class) (made : Object) → is_function (Some a) ≡ true → HasShape s o a
    → MadeProps a o.props made.props
    → (own_bind made ≡ None) × (o.proto ≡ Some function_prototype)
own_none s o (class.Page body env) made is was begins = (ap (λ ps. own_property ps bind_name) begins.are, was.0)
own_none s o (class.Bound target this args) made is was begins = (ap (λ ps. own_property ps bind_name) begins.are, was.0)
own_none s o class.Plain made is was begins = cc is
own_none s o class.List made is was begins = cc is
own_none s o class.Fault made is was begins = cc is
own_none s o (class.Native which) made is was begins = absurd was
own_none s o class.Math made is was begins = cc is
own_none s o class.Window made is was begins = cc is
own_none s o (class.Node m) made is was begins = cc is
own_none s o (class.Event parts) made is was begins = cc is
