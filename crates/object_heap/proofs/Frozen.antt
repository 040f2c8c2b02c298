-- A frozen object never changes.
use Rattle.std.proofs.Common.{◌≡◌, refl, sym, ap, ◌∙◌, ℕ, ℤ, Bool, true, false, ◌&&◌, ◌||◌, not, List, Option, Some, None, unwrap_or, nat_lt, nat_le, bytes_eq, if◌then◌else◌}
use Rattle.std.proofs.lemmas.Bool.{and_parts, eqb-true, not-true}
use Rattle.std.proofs.lemmas.Bool.Decides.{Decides-int_eq}
use Rattle.std.proofs.lemmas.Map.Steps.{set_value_same}
use Rattle.std.proofs.lemmas.Slice.Eq.{bytes_eq-Decides}
use Rattle.std.specs.Option.{option_eq}
use Rattle.std.specs.Ordering.{int_eq}
use Rattle.js_values.specs.declared.throw.Throw.{Throw}
use Rattle.js_values.specs.declared.throw.Throw.TheVariants.{CannotDefine, CannotSet}
use Rattle.js_values.specs.declared.value.Value.{Value}
use Rattle.js_values.specs.declared.value.Value.TheVariants.{Undefined, Null, Bool as Truth, Num, Text, Object as At}
use Rattle.object_heap.specs.Object.{is_list, is_window, Object, with_extensible, with_props}
use Rattle.object_heap.specs.declared.property.Change.{Change}
use Rattle.object_heap.specs.declared.property.Prop.{Prop}
use Rattle.object_heap.specs.Attempt.{Attempt}
use Rattle.object_heap.specs.Define.{array_length, define, define_indexed, define_length, define_length_as, define_ordinary, define_own, defined_over, delete_own, deleted_over, is_closed_at, is_writable, length_name, prevented, put_change, put_own, shrunk, valid_length}
use Rattle.object_heap.specs.Index.{index_of}
use Rattle.object_heap.specs.Laws.{IsFrozen}
use Rattle.object_heap.specs.Property.{asks, keeps, keeps_value, may_update, own_property, same_value, updated, with_property}
use Rattle.object_heap.proofs.Arrays.{keeps_same}

same_number : (a b : Option ℤ) → option_eq int_eq a b ≡ true → a ≡ b
same_number None None h = refl
same_number (Some a) (Some b) h = ap Some ((Decides-int_eq a b).0 h)
same_number None (Some b) h = cc h
same_number (Some a) None h = cc h

same_value_same : (v w : Value) → same_value v w ≡ true → v ≡ w
same_value_same Undefined Undefined h = refl
same_value_same Null Null h = refl
same_value_same (Truth true) (Truth b) h = ap Truth (sym h)
same_value_same (Truth false) (Truth b) h = ap Truth (sym (not-true b h))
same_value_same (Num a) (Num b) h = ap Num (same_number a b h)
same_value_same (Text a) (Text b) h = ap Text ((bytes_eq-Decides a b).0 h)
same_value_same (At a) (At b) h = ap (λ n. At (record { 0 = n })) (eqb-true a.0 b.0 h)
same_value_same v w h = cc h

keeps_value_same : (change : Option Value) (old : Value) → keeps_value change old ≡ true → unwrap_or change old ≡ old
keeps_value_same None old h = refl
keeps_value_same (Some v) old h = same_value_same v old h

-- what may be done to a property that is neither writable nor configurable leaves it
updated_same : (p : Prop) (change : Change) → p.configurable ≡ false → p.writable ≡ false → may_update p change ≡ true → updated p change ≡ p
updated_same p change fixed locked may =
    let asked = rw (fixed, locked) at may in
    let flags = (and_parts (not (asks change.configurable) && keeps change.enumerable p.enumerable) (not (asks change.writable) && keeps_value change.value p.value) asked).0 in
    let rest = (and_parts (not (asks change.configurable) && keeps change.enumerable p.enumerable) (not (asks change.writable) && keeps_value change.value p.value) asked).1 in
    let value = keeps_value_same change.value p.value (and_parts (not (asks change.writable)) (keeps_value change.value p.value) rest).1 in
    let writable : unwrap_or change.writable p.writable ≡ p.writable =
    ap (unwrap_or change.writable) locked ∙ not-true (asks change.writable) (and_parts (not (asks change.writable)) (keeps_value change.value p.value) rest).0 ∙ sym locked
    in
    let enumerable = keeps_same change.enumerable p.enumerable (and_parts (not (asks change.configurable)) (keeps change.enumerable p.enumerable) flags).1 in
    let configurable : unwrap_or change.configurable p.configurable ≡ p.configurable =
    ap (unwrap_or change.configurable) fixed ∙ not-true (asks change.configurable) (and_parts (not (asks change.configurable)) (keeps change.enumerable p.enumerable) flags).0 ∙ sym fixed
    in
    (λ j. record { value = value j; writable = writable j; enumerable = enumerable j; configurable = configurable j })

same_if : (o : Object) (b : Bool) (x y : Attempt Object) → x.after ≡ o → y.after ≡ o → (if b then x else y).after ≡ o
same_if o true x y h g = h
same_if o false x y h g = g

module _ (o : Object) (f : IsFrozen o) where
  frozen_over : (t : Throw) (name : List ℕ) (change : Change) (own : Option Prop) → own_property o.props name ≡ own → (defined_over t o name change own).after ≡ o
  frozen_over t name change None e = rw f.extensible refl
  frozen_over t name change (Some p) e = by_case (may_update p change) refl
    where
      by_case : (b : Bool) → may_update p change ≡ b → (defined_over t o name change (Some p)).after ≡ o
      by_case true q =
          let kept : with_property o.props name (updated p change) ≡ o.props =
          ap (with_property o.props name) (updated_same p change (f.configurable name p e) (f.writable name p e) q) ∙ set_value_same (bytes_eq name) o.props p e
          in
          rw q (ap (with_props o) kept)
      by_case false q = rw q refl

  frozen_ordinary : (t : Throw) (name : List ℕ) (change : Change) → (define_ordinary t o name change).after ≡ o
  frozen_ordinary t name change = frozen_over t name change (own_property o.props name) refl

  no_writable_length : (own : Option Prop) → own_property o.props length_name ≡ own → is_writable own ≡ false
  no_writable_length None e = refl
  no_writable_length (Some l) e = f.writable length_name l e

  frozen_indexed : (t : Throw) (name : List ℕ) (change : Change) (index : Option ℕ) → (define_indexed t o name change index).after ≡ o
  frozen_indexed t name change None = frozen_ordinary t name change
  frozen_indexed t name change (Some i) =
      same_if o (nat_lt i (array_length o)) _ _ (frozen_ordinary t name change)
      (rw (no_writable_length (own_property o.props length_name) refl) refl)

  frozen_shrunk : (t : Throw) (change : Change) (end : ℕ) (own : Option Prop) → own_property o.props length_name ≡ own → (shrunk t o change end own).after ≡ o
  frozen_shrunk t change end None e = refl
  frozen_shrunk t change end (Some l) e = rw (f.writable length_name l e) refl

  frozen_length_as : (t : Throw) (change : Change) (end : Option ℕ) → (define_length_as t o change end).after ≡ o
  frozen_length_as t change None = refl
  frozen_length_as t change (Some n) =
      same_if o (nat_le (array_length o) n) _ _ (frozen_ordinary t length_name change) (frozen_shrunk t change n (own_property o.props length_name) refl)

  frozen_length : (t : Throw) (change : Change) (value : Option Value) → (define_length t o change value).after ≡ o
  frozen_length t change None = frozen_ordinary t length_name change
  frozen_length t change (Some v) = frozen_length_as t change (valid_length v)

  frozen_define : (t : Throw) (name : List ℕ) (change : Change) → (define t o name change).after ≡ o
  frozen_define t name change =
      same_if o (is_list o.class) _ _
      (same_if o (bytes_eq name length_name) _ _ (frozen_length t change change.value) (frozen_indexed t name change (index_of name)))
      (frozen_ordinary t name change)

  pub frozen_define_own : (name : List ℕ) (change : Change) → (define_own o name change).after ≡ o
  frozen_define_own name change = same_if o (is_closed_at o name) _ _ refl (frozen_define CannotDefine name change)

  pub frozen_put_own : (can : Bool) (name : List ℕ) (v : Value) → (put_own can o name v).after ≡ o
  frozen_put_own can name v =
      same_if o (not (is_closed_at o name) && can) _ _ (frozen_define CannotSet name (put_change v (own_property o.props name))) refl

  frozen_deleted : (name : List ℕ) (own : Option Prop) → own_property o.props name ≡ own → (deleted_over o name own).after ≡ o
  frozen_deleted name None e = refl
  frozen_deleted name (Some p) e = rw (f.configurable name p e) refl

  pub frozen_delete_own : (name : List ℕ) → (delete_own o name).after ≡ o
  frozen_delete_own name = same_if o (is_closed_at o name) _ _ refl (frozen_deleted name (own_property o.props name) refl)

  pub frozen_prevented : (prevented o).after ≡ o
  frozen_prevented =
      same_if o (o.closed || is_window o.class) _ _ refl
      (ap (with_extensible o) (sym f.extensible))
