-- What a call does to the properties of an object, edit by edit: what each edit keeps is kept by the call.
use Rattle.std.proofs.Common.{◌≡◌, refl, sym, ap, ◌∙◌, ℕ, ℤ, Bool, true, false, ◌&&◌, ◌||◌, not, List, [], ◌∷◌, ◌++◌, Option, Some, None, unwrap_or, bytes_eq}
use Rattle.std.proofs.lemmas.Bool.{and_parts, eqb-true, not-true}
use Rattle.std.proofs.lemmas.Bool.Decides.{Decides-int_eq}
use Rattle.std.proofs.lemmas.Slice.Eq.{bytes_eq-Decides}
use Rattle.std.specs.Option.{option_eq}
use Rattle.std.specs.Ordering.{int_eq}
use Rattle.js_values.specs.declared.value.Value.{Value}
use Rattle.js_values.specs.declared.value.Value.TheVariants.{Undefined, Null, Bool as Truth, Num, Text, Object as At}
use Rattle.object_heap.specs.Define.{elements_below, length_name, number}
use Rattle.object_heap.specs.Property.{Props, asks, keeps, keeps_value, may_update, own_property, same_value, updated, with_property, without_property}
use Rattle.object_heap.specs.declared.property.Change.{Change}
use Rattle.object_heap.specs.declared.property.Prop.{Prop}
use Rattle.object_shapes.proofs.Lists.{Small}

pub record IsNumber (v : Value) : Type 0 where
  pub count : ℕ
  pub is : v ≡ number count

-- a property may become another so: one that is not configurable keeps all but its value and whether it is writable, and those
-- too where it is not writable; the length of an array stays a number
pub record Fits (list : Bool) (name : List ℕ) (p q : Prop) : Type 0 where
  pub configurable : p.configurable ≡ false → q.configurable ≡ false
  pub enumerable : p.configurable ≡ false → q.enumerable ≡ p.enumerable
  pub locked : list ≡ false → p.configurable ≡ false → p.writable ≡ false → q ≡ p
  pub length : list ≡ true → bytes_eq name length_name ≡ true → IsNumber p.value → IsNumber q.value

-- each edit of the properties of an array, or of another object, keeps this. Only names that are allowed are edited
pub record Rules (n : ℕ) (list : Bool) (Allowed : List ℕ → Type 0) (P : Props → Type 0) : Type 0 where
  pub length : list ≡ true → Allowed length_name
  pub adds : (ps : Props) (name : List ℕ) (p : Prop) → Allowed name → own_property ps name ≡ None → Small n p.value → P ps
      → P (ps ++ (name, p) ∷ [])
  pub sets : (ps : Props) (name : List ℕ) (p q : Prop) → Allowed name → own_property ps name ≡ Some p → Fits list name p q
      → (Small n p.value → Small n q.value) → P ps → P (with_property ps name q)
  pub removes : (ps : Props) (name : List ℕ) (p : Prop) → Allowed name → own_property ps name ≡ Some p → p.configurable ≡ true → P ps
      → P (without_property ps name)
  pub filters : (end : ℕ) (ps : Props) → list ≡ true → P ps → P (elements_below end ps)

-- ---- what may be done to a property

same_number : (a b : Option ℤ) → option_eq int_eq a b ≡ true → a ≡ b
same_number None None h = refl
same_number (Some a) (Some b) h = ap Some ((Decides-int_eq a b).0 h)
same_number None (Some b) h = cc h
same_number (Some a) None h = cc h

same_value_same : (v w : Value) → same_value v w ≡ true → v ≡ w
same_value_same Undefined Undefined h = refl
same_value_same Null Null h = refl
same_value_same (Truth true) (Truth b) h = ap Truth (sym h)
same_value_same (Truth false) (Truth b) h = ap Truth (sym (not-true b h))
same_value_same (Num a) (Num b) h = ap Num (same_number a b h)
same_value_same (Text a) (Text b) h = ap Text ((bytes_eq-Decides a b).0 h)
same_value_same (At a) (At b) h = ap (λ n. At (record { 0 = n })) (eqb-true a.0 b.0 h)
same_value_same v w h = cc h

keeps_value_same : (change : Option Value) (old : Value) → keeps_value change old ≡ true → unwrap_or change old ≡ old
keeps_value_same None old h = refl
keeps_value_same (Some v) old h = same_value_same v old h

keeps_same : (change : Option Bool) (old : Bool) → keeps change old ≡ true → unwrap_or change old ≡ old
keeps_same None old h = refl
keeps_same (Some true) true h = refl
keeps_same (Some true) false h = cc
keeps_same (Some false) true h = cc
keeps_same (Some false) false h = refl

-- what is asked of a property that is not configurable
record Asked (p : Prop) (change : Change) : Type 0 where
  configurable : (updated p change).configurable ≡ false
  enumerable : (updated p change).enumerable ≡ p.enumerable
  locked : p.writable ≡ false → updated p change ≡ p

asked : (p : Prop) (change : Change) → p.configurable ≡ false → may_update p change ≡ true → Asked p change
asked p change fixed may =
    let all = rw fixed at may in
    let parts = and_parts (not (asks change.configurable) && keeps change.enumerable p.enumerable)
    (p.writable || (not (asks change.writable) && keeps_value change.value p.value)) all in
    let flags = and_parts (not (asks change.configurable)) (keeps change.enumerable p.enumerable) parts.0 in
    let configurable : unwrap_or change.configurable p.configurable ≡ false = ap (unwrap_or change.configurable) fixed ∙ not-true
    (asks change.configurable) flags.0 in
    let enumerable = keeps_same change.enumerable p.enumerable flags.1 in
    record {
      configurable = configurable;
      enumerable = enumerable;
      locked = λ locked.
          let rest = and_parts (not (asks change.writable)) (keeps_value change.value p.value) (rw locked at parts.1) in
          let value = keeps_value_same change.value p.value rest.1 in
          let writable : unwrap_or change.writable p.writable ≡ p.writable =
          ap (unwrap_or change.writable) locked ∙ not-true (asks change.writable) rest.0 ∙ sym locked
          in
          let settled : unwrap_or change.configurable p.configurable ≡ p.configurable = configurable ∙ sym fixed in
          (λ j. record { value = value j; writable = writable j; enumerable = enumerable j; configurable = settled j });
    }

pub fits_updated : (list : Bool) (name : List ℕ) (p : Prop) (change : Change) → may_update p change ≡ true
    → (list ≡ true → bytes_eq name length_name ≡ true → IsNumber p.value → IsNumber (updated p change).value) → Fits list name p (updated p change)
fits_updated list name p change may numbers = record {
  configurable = λ fixed. (asked p change fixed may).configurable;
  enumerable = λ fixed. (asked p change fixed may).enumerable;
  locked = λ ordinary fixed locked. (asked p change fixed may).locked locked;
  length = numbers;
}
