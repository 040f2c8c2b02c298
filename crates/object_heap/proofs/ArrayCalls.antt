-- Each call on an array leaves an array.
use Rattle.std.proofs.Common.{◌≡◌, refl, sym, ap, subst, ◌∙◌, ℕ, ◌+◌, ◌≤◌, Bool, true, false, ◌&&◌, ◌||◌, not, List, Option, Some, None, unwrap_or, pos, nat_lt, nat_le, bytes_eq, arith}
use Rattle.std.proofs.lemmas.Bool.{and_parts, leb-true, lt-ltb, ltb-false, ltb-true}
use Rattle.std.proofs.lemmas.Slice.Eq.{bytes_eq-Decides}
use Rattle.js_values.specs.declared.throw.Throw.{Throw}
use Rattle.js_values.specs.declared.throw.Throw.TheVariants.{CannotDefine, CannotSet}
use Rattle.js_values.specs.declared.value.Value.{Value}
use Rattle.js_values.specs.declared.value.Value.TheVariants.{Num}
use Rattle.object_heap.specs.Object.{is_list, is_window, Object, with_props}
use Rattle.object_heap.specs.declared.property.Change.{Change}
use Rattle.object_heap.specs.declared.property.Prop.{Prop}
use Rattle.object_heap.specs.Array.{IsArray, IsLength, IsProper}
use Rattle.object_heap.specs.Attempt.{Attempt}
use Rattle.object_heap.specs.Define.{array_length, define, define_element, define_indexed, define_length, define_length_as, define_ordinary, define_own, defined_over, delete_own, deleted_over, end_kept, elements_below, grown, grown_over, has_writable_length, is_below, is_closed_at, length_in, length_name, number, number_in, prevented, put_change, put_own, shrunk, shrunk_to, valid_length, with_length_over, with_value}
use Rattle.object_heap.specs.Index.{index_end, index_of}
use Rattle.object_heap.specs.Property.{Props, may_update, own_property, updated, without_property}
use Rattle.object_heap.proofs.Arrays.{array_if, above_more, end_kept_small, index_is_not_length, index_is_small, updated_length, with_new_length, with_number, within_elements, within_ordinary, within_removed, Within}
use Rattle.object_heap.proofs.Kept.{define_keeps, define_own_keeps, delete_own_keeps, prevented_keeps, put_own_keeps}

within : (props : Props) (a : IsArray props) → Within (number_in a.length.value) a.length props
within props a = record { there = a.there; above = a.above }

array_of : (l : Prop) (props : Props) → IsLength l → Within (number_in l.value) l props → IsArray props
array_of l props h w = record { length = l; there = w.there; is_length = h; above = w.above }

pub same_length : (o : Object) (a : IsArray o.props) → array_length o ≡ number_in a.length.value
same_length o a = ap length_in a.there

-- where 8.12.9 rejects, the object is as before
refused_over : (t u : Throw) (o : Object) (name : List ℕ) (change : Change) (own : Option Prop) → (defined_over t o name change own).thrown ≡ Some u → (defined_over t o name change own).after ≡ o
refused_over t u o name change None h = by_case o.extensible refl
  where
    by_case : (b : Bool) → o.extensible ≡ b → (defined_over t o name change None).after ≡ o
    by_case true p = cc (rw p at h)
    by_case false p = rw p refl
refused_over t u o name change (Some q) h = by_case (may_update q change) refl
  where
    by_case : (b : Bool) → may_update q change ≡ b → (defined_over t o name change (Some q)).after ≡ o
    by_case true p = cc
    by_case false p = rw p refl

flipped : (name : List ℕ) → bytes_eq name length_name ≡ false → bytes_eq length_name name ≡ false
flipped name h = by_case (bytes_eq length_name name) refl
  where
    by_case : (b : Bool) → bytes_eq length_name name ≡ b → bytes_eq length_name name ≡ false
    by_case false p = p
    by_case true p =
        let same : bytes_eq name length_name ≡ true = (bytes_eq-Decides name length_name).1 (sym ((bytes_eq-Decides length_name name).0 p)) in
        cc (same, h)

-- a property but the length, which is no element past the end
ordinary_array : (t : Throw) (o : Object) (name : List ℕ) (change : Change) (a : IsArray o.props) → bytes_eq length_name name ≡ false → is_below (number_in a.length.value) (index_of name) ≡ true → IsArray (define_ordinary t o name change).after.props
ordinary_array t o name change a other below =
    array_of a.length _ a.is_length (within_ordinary (number_in a.length.value) a.length t o name change (within o.props a) other below)

grown_over_array : (n : ℕ) (l : Prop) (o : Object) (attempt : Attempt Object) (thrown : Option Throw) → IsArray o.props → IsLength l → Within n l attempt.after.props → n ≤ index_end → ((u : Throw) → thrown ≡ Some u → attempt.after ≡ o) → IsArray (grown_over n attempt thrown).after.props
grown_over_array n l o attempt None a h w small back =
    subst (λ own. IsArray (with_length_over attempt.after.props n own)) (sym w.there)
    (with_new_length n l (with_value l (number n)) attempt.after.props w (with_number l n h small) (omega arith))
grown_over_array n l o attempt (Some u) a h w small back = subst (λ (x : Object). IsArray x.props) (sym (back u refl)) a

element_array : (t : Throw) (o : Object) (name : List ℕ) (change : Change) (i : ℕ) → IsArray o.props → index_of name ≡ Some i → IsArray (define_element t o name change i).after.props
element_array t o name change i a e =
    array_if (nat_lt i (array_length o)) _ _
    (λ less. ordinary_array t o name change a other (ap (is_below (number_in a.length.value)) e ∙ ap (nat_lt i) (sym (same_length o a)) ∙ less))
    (λ past. array_if (has_writable_length o) _ _ (λ h. longer past) (λ h. a))
  where
    other : bytes_eq length_name name ≡ false
    other = index_is_not_length name i e

    longer : nat_lt i (array_length o) ≡ false → IsArray (grown (i + 1) (define_ordinary t o name change)).after.props
    longer past =
        let long : number_in a.length.value ≤ i + 1 = omega (arith, ltb-false i (array_length o) past, same_length o a) in
        let w : Within (i + 1) a.length o.props = record { there = a.there; above = above_more (number_in a.length.value) (i + 1) long o.props a.above } in
        let below : is_below (i + 1) (index_of name) ≡ true = ap (is_below (i + 1)) e ∙ lt-ltb i (i + 1) (omega arith) in
        let small : i + 1 ≤ index_end = omega (arith, index_is_small name i e) in
        grown_over_array (i + 1) a.length o (define_ordinary t o name change) (define_ordinary t o name change).thrown a a.is_length
        (within_ordinary (i + 1) a.length t o name change w other below) small (λ u. refused_over t u o name change (own_property o.props name))

indexed_array : (t : Throw) (o : Object) (name : List ℕ) (change : Change) (index : Option ℕ) → IsArray o.props → index_of name ≡ index → bytes_eq length_name name ≡ false → IsArray (define_indexed t o name change index).after.props
indexed_array t o name change None a e other = ordinary_array t o name change a other (ap (is_below (number_in a.length.value)) e)
indexed_array t o name change (Some i) a e other = element_array t o name change i a e

-- a length that a value gives, and that is no lower than this
record Fits (l : Prop) (v : Value) : Type 0 where
  is : v ≡ number (number_in v)
  small : number_in v ≤ index_end
  long : number_in l.value ≤ number_in v

length_array : (t : Throw) (o : Object) (change : Change) (a : IsArray o.props) → Fits a.length (updated a.length change).value → IsArray (define_ordinary t o length_name change).after.props
length_array t o change a fits =
    subst (λ own. IsArray (defined_over t o length_name change own).after.props) (sym a.there)
    (array_if (may_update a.length change) _ _
    (λ may. with_new_length (number_in a.length.value) a.length (updated a.length change) o.props (within o.props a) (updated_length a.length change a.is_length may fits.is fits.small) fits.long)
    (λ no. a))

pub valid_number : (v : Value) (n : ℕ) → valid_length v ≡ Some n → (v ≡ number n) × (n ≤ index_end)
valid_number (Num (Some (pos m))) n h = by_case (nat_lt m 4294967296) refl
  where
    by_case : (b : Bool) → nat_lt m 4294967296 ≡ b → (Num (Some (pos m)) ≡ number n) × (n ≤ index_end)
    by_case true p =
        let same : m ≡ n = cc (rw p at h) in
        (ap number same, omega (arith, same, ltb-true m 4294967296 p))
    by_case false p = cc (rw p at h)
valid_number v n h = cc h

shrunk_array : (t : Throw) (o : Object) (change : Change) (end : ℕ) (a : IsArray o.props) → end ≤ index_end → (updated a.length change).value ≡ number end → IsArray (shrunk t o change end (own_property o.props length_name)).after.props
shrunk_array t o change end a small is =
    subst (λ own. IsArray (shrunk t o change end own).after.props) (sym a.there)
    (array_if (a.length.writable && may_update a.length change) _ _ lower (λ no. a))
  where
    lower : a.length.writable && may_update a.length change ≡ true → IsArray (shrunk_to t o (updated a.length change) end (end_kept end o.props)).after.props
    lower may =
        let p = updated a.length change in
        let kept = end_kept end o.props in
        let whole : p.value ≡ number (number_in p.value) = subst (λ v. v ≡ number (number_in v)) (sym is) refl in
        let low : number_in p.value ≤ index_end = subst (λ v. number_in v ≤ index_end) (sym is) small in
        let h = updated_length a.length change a.is_length (and_parts a.length.writable (may_update a.length change) may).1 whole low in
        with_new_length kept a.length (with_value p (number kept)) (elements_below kept o.props)
        (within_elements (number_in a.length.value) kept a.length o.props (within o.props a)) (with_number p kept h (end_kept_small end o.props small)) (omega arith)

define_length_as_array : (t : Throw) (o : Object) (change : Change) (v : Value) (end : Option ℕ) → IsArray o.props → change.value ≡ Some v → valid_length v ≡ end → IsArray (define_length_as t o change end).after.props
define_length_as_array t o change v None a e valid = a
define_length_as_array t o change v (Some n) a e valid =
    array_if (nat_le (array_length o) n) _ _
    (λ long. length_array t o change a (subst (Fits a.length) (sym value) (record {
      is = refl;
      small = (valid_number v n valid).1;
      long = omega (arith, leb-true (array_length o) n long, same_length o a);
    })))
    (λ short. shrunk_array t o change n a (valid_number v n valid).1 value)
  where
    value : (updated a.length change).value ≡ number n
    value = ap (λ x. unwrap_or x a.length.value) e ∙ (valid_number v n valid).0

define_length_array : (t : Throw) (o : Object) (change : Change) (value : Option Value) → IsArray o.props → change.value ≡ value → IsArray (define_length t o change value).after.props
define_length_array t o change None a e =
    length_array t o change a (subst (Fits a.length) (sym (ap (λ x. unwrap_or x a.length.value) e)) (record {
      is = a.is_length.number;
      small = a.is_length.small;
      long = omega arith;
    }))
define_length_array t o change (Some v) a e = define_length_as_array t o change v (valid_length v) a e refl

pub define_proper : (t : Throw) (o : Object) (name : List ℕ) (change : Change) → IsProper o → IsProper (define t o name change).after
define_proper t o name change h after =
    let list : is_list o.class ≡ true = ap is_list (sym (define_keeps t o name change).class) ∙ after in
    array_if (is_list o.class) _ _
    (λ yes. array_if (bytes_eq name length_name) _ _ (λ same. define_length_array t o change change.value (h list) refl)
    (λ other. indexed_array t o name change (index_of name) (h list) refl (flipped name other)))
    (λ no. cc (list, no))

pub define_own_proper : (o : Object) (name : List ℕ) (change : Change) → IsProper o → IsProper (define_own o name change).after
define_own_proper o name change h after =
    let list : is_list o.class ≡ true = ap is_list (sym (define_own_keeps o name change).class) ∙ after in
    array_if (is_closed_at o name) _ _ (λ yes. h list)
    (λ no. define_proper CannotDefine o name change h (ap is_list (define_keeps CannotDefine o name change).class ∙ list))

pub put_own_proper : (can : Bool) (o : Object) (name : List ℕ) (v : Value) → IsProper o → IsProper (put_own can o name v).after
put_own_proper can o name v h after =
    let change = put_change v (own_property o.props name) in
    let list : is_list o.class ≡ true = ap is_list (sym (put_own_keeps can o name v).class) ∙ after in
    array_if (not (is_closed_at o name) && can) _ _ (λ yes. define_proper CannotSet o name change h (ap is_list (define_keeps CannotSet o name change).class ∙ list))
    (λ no. h list)

deleted_array : (o : Object) (name : List ℕ) (own : Option Prop) → IsArray o.props → own_property o.props name ≡ own → IsArray (deleted_over o name own).after.props
deleted_array o name None a e = a
deleted_array o name (Some p) a e = array_if p.configurable _ _ (λ may. removed may) (λ no. a)
  where
    other : p.configurable ≡ true → (b : Bool) → bytes_eq length_name name ≡ b → bytes_eq length_name name ≡ false
    other may false q = q
    other may true q =
        let same : Some p ≡ Some a.length = sym e ∙ ap (own_property o.props) (sym ((bytes_eq-Decides length_name name).0 q)) ∙ a.there in
        let one : p ≡ a.length = cc same in
        cc (sym may ∙ ap (λ (x : Prop). x.configurable) one ∙ a.is_length.configurable)

    removed : p.configurable ≡ true → IsArray (with_props o (without_property o.props name)).props
    removed may = array_of a.length _ a.is_length (within_removed (number_in a.length.value) a.length o.props name (within o.props a) (other may (bytes_eq length_name name) refl))

pub delete_own_proper : (o : Object) (name : List ℕ) → IsProper o → IsProper (delete_own o name).after
delete_own_proper o name h after =
    let list : is_list o.class ≡ true = ap is_list (sym (delete_own_keeps o name).class) ∙ after in
    array_if (is_closed_at o name) _ _ (λ yes. h list) (λ no. deleted_array o name (own_property o.props name) (h list) refl)

pub prevented_proper : (o : Object) → IsProper o → IsProper (prevented o).after
prevented_proper o h after =
    let list : is_list o.class ≡ true = ap is_list (sym (prevented_keeps o).class) ∙ after in
    array_if (o.closed || is_window o.class) _ _ (λ yes. h list) (λ no. h list)
