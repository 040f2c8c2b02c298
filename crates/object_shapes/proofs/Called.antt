-- Calls on one object keep what each edit of its properties keeps.
use Rattle.std.proofs.Common.{◌≡◌, refl, sym, ap, ◌∙◌, ℕ, ◌+◌, pos, Bool, true, false, ◌&&◌, not, List, [], ◌∷◌, Option, Some, None, unwrap_or, nat_le, nat_lt, bytes_eq, if◌then◌else◌}
use Rattle.std.proofs.lemmas.Bool.{and_parts, not-true}
use Rattle.std.proofs.lemmas.Slice.Eq.{bytes_eq-Decides}
use Rattle.std.specs.Prelude.{cond}
use Rattle.js_values.specs.declared.throw.Throw.{Throw}
use Rattle.js_values.specs.declared.throw.Throw.TheVariants.{CannotDefine, CannotSet}
use Rattle.js_values.specs.declared.value.Value.{Value}
use Rattle.js_values.specs.declared.value.Value.TheVariants.{Num, Undefined}
use Rattle.object_heap.specs.Attempt.{Attempt}
use Rattle.object_heap.specs.Define.{array_length, define, define_indexed, define_length, define_length_as, define_ordinary, define_own, defined_over, delete_own, deleted_over, elements_below, end_kept, grown_over, has_writable_length, is_below, is_closed_at, length_name, number, put_change, put_own, shrunk, valid_length, with_length_over, with_value}
use Rattle.object_heap.specs.Index.{index_of}
use Rattle.object_heap.specs.Object.{is_list, Object}
use Rattle.object_heap.specs.Property.{Props, created, may_update, own_property, updated}
use Rattle.object_heap.specs.declared.property.Change.{Change}
use Rattle.object_heap.specs.declared.property.Prop.{Prop}
use Rattle.object_shapes.proofs.Lists.{Small, SmallSome, unwrap_small}
use Rattle.object_shapes.proofs.Rules.{Fits, IsNumber, Rules, fits_updated}

-- what scripts do to the properties of an object; whether it can be put is told
pub data Call : Type 0 where
  putting : Bool → List ℕ → Value → Call
  defining : List ℕ → Change → Call
  deleting : List ℕ → Call

abbrev pub after_call : Object → Call → Object
after_call o (putting can name v) = (put_own can o name v).after
after_call o (defining name change) = (define_own o name change).after
after_call o (deleting name) = (delete_own o name).after

abbrev pub name_of : Call → List ℕ
name_of (putting can name v) = name
name_of (defining name change) = name
name_of (deleting name) = name

abbrev pub IsSmall : ℕ → Call → Type 0
IsSmall n (putting can name v) = Small n v
IsSmall n (defining name change) = SmallSome n change.value
IsSmall n (deleting name) = Unit {0}

-- the length is found also without the elements from a place up
length_kept : (end : ℕ) (ps : Props) → own_property (elements_below end ps) length_name ≡ own_property ps length_name
length_kept end [] = refl
length_kept end (e ∷ es) = by_case (bytes_eq length_name e.0) refl (is_below end (index_of e.0)) refl (length_kept end es)
  where
    by_case : (c : Bool) → bytes_eq length_name e.0 ≡ c → (d : Bool) → is_below end (index_of e.0) ≡ d
        → own_property (elements_below end es) length_name ≡ own_property es length_name
        → own_property (elements_below end (e ∷ es)) length_name ≡ own_property (e ∷ es) length_name
    by_case c p true q more = rw q (ap (λ r. cond (bytes_eq length_name e.0) (Some e.1) r) more)
    by_case true p false q more =
        let below : is_below end (index_of e.0) ≡ true = ap (λ x. is_below end (index_of x)) (sym ((bytes_eq-Decides length_name e.0).0 p)) in
        cc (below, q)
    by_case false p false q more = rw q (rw p more)

valid_number : (v : Value) (n : ℕ) → valid_length v ≡ Some n → v ≡ number n
valid_number (Num (Some (pos m))) n h = by_case (nat_lt m 4294967296) refl
  where
    by_case : (b : Bool) → nat_lt m 4294967296 ≡ b → Num (Some (pos m)) ≡ number n
    by_case true p =
        let same : m ≡ n = cc (rw p at h) in
        ap number same
    by_case false p = cc (rw p at h)
valid_number v n h = cc h

put_small : (n : ℕ) (v : Value) (own : Option Prop) → Small n v → SmallSome n (put_change v own).value
put_small n v None h = h
put_small n v (Some p) h = h

module _ (n : ℕ) (Allowed : List ℕ → Type 0) (P : Props → Type 0) where
  stays_if : (b : Bool) (x y : Attempt Object) → (b ≡ true → P x.after.props) → (b ≡ false → P y.after.props) → P (if b then x else y).after.props
  stays_if true x y f g = f refl
  stays_if false x y f g = g refl

  -- ---- 8.12.9

  over_stays : (list : Bool) → Rules n list Allowed P → (t : Throw) (o : Object) (name : List ℕ) (change : Change) (own : Option Prop)
      → own_property o.props name ≡ own
      → Allowed name → SmallSome n change.value
      → ((p : Prop) → list ≡ true → bytes_eq name length_name ≡ true → IsNumber p.value → IsNumber (updated p change).value)
      → P o.props → P (defined_over t o name change own).after.props
  over_stays list r t o name change None e a small numbers h =
      stays_if o.extensible _ _ (λ yes. r.adds o.props name (created change) a e (unwrap_small n change.value Undefined small refl) h)
      (λ refused. h)
  over_stays list r t o name change (Some p) e a small numbers h =
      stays_if (may_update p change) _ _
      (λ may. r.sets o.props name p (updated p change) a e (fits_updated list name p change may (numbers p))
      (unwrap_small n change.value p.value small) h)
      (λ refused. h)

  ordinary_stays : (list : Bool) → Rules n list Allowed P → (t : Throw) (o : Object) (name : List ℕ) (change : Change) → Allowed name
      → SmallSome n change.value
      → ((p : Prop) → list ≡ true → bytes_eq name length_name ≡ true → IsNumber p.value → IsNumber (updated p change).value)
      → P o.props → P (define_ordinary t o name change).after.props
  ordinary_stays list r t o name change a small numbers h = over_stays list r t o name change (own_property o.props name) refl a small numbers h

  plain_stays : Rules n false Allowed P → (t : Throw) (o : Object) (name : List ℕ) (change : Change) → is_list o.class ≡ false → Allowed name
      → SmallSome n change.value → P o.props → P (define t o name change).after.props
  plain_stays r t o name change e a small h =
      stays_if (is_list o.class) _ _ (λ list. absurd (cc (list, e)))
      (λ ordinary. ordinary_stays false r t o name change a small (λ p list. absurd (cc list)) h)

  -- ---- 15.4.5.1

  module _ (r : Rules n true Allowed P) where
    longer_over : (ps : Props) (i : ℕ) (own : Option Prop) → own_property ps length_name ≡ own → P ps → P (with_length_over ps i own)
    longer_over ps i None e h = h
    longer_over ps i (Some p) e h = r.sets ps length_name p (with_value p (number i)) (r.length refl) e
        (record {
          configurable = λ c. c;
          enumerable = λ c. refl;
          locked = λ no. absurd (cc no);
          length = λ list same was. record
              { count = i; is = refl };
        })
        (λ was. refl) h

    grown_stays : (i : ℕ) (attempt : Attempt Object) (thrown : Option Throw) → P attempt.after.props → P (grown_over i attempt thrown).after.props
    grown_stays i attempt None h = longer_over attempt.after.props i (own_property attempt.after.props length_name) refl h
    grown_stays i attempt (Some t) h = h

    indexed_stays : (t : Throw) (o : Object) (name : List ℕ) (change : Change) (index : Option ℕ) → bytes_eq name length_name ≡ false → Allowed name
        → SmallSome n change.value
        → P o.props → P (define_indexed t o name change index).after.props
    indexed_stays t o name change None other a small h = ordinary_stays true r t o name change a small (λ p list same. absurd (cc (same, other))) h
    indexed_stays t o name change (Some i) other a small h =
        let one = ordinary_stays true r t o name change a small (λ p list same. absurd (cc (same, other))) h in
        stays_if (nat_lt i (array_length o)) _ _ (λ inside. one)
        (λ past. stays_if (has_writable_length o) _ _
        (λ may. grown_stays (i + 1) (define_ordinary t o name change) (define_ordinary t o name change).thrown one) (λ refused. h))

    shrunk_stays : (t : Throw) (o : Object) (change : Change) (end : ℕ) (own : Option Prop) → own_property o.props length_name ≡ own
        → P o.props → P (shrunk t o change end own).after.props
    shrunk_stays t o change end None e h = h
    shrunk_stays t o change end (Some p) e h =
        let kept = end_kept end o.props in
        let q = with_value (updated p change) (number kept) in
        stays_if (p.writable && may_update p change) _ _
        (λ may.
        r.sets (elements_below kept o.props) length_name p q (r.length refl) (length_kept kept o.props ∙ e)
        (with_number p change kept (and_parts p.writable (may_update p change) may).1) (λ was. refl) (r.filters kept o.props refl h))
        (λ refused. h)
      where
        with_number : (p : Prop) (change : Change) (m : ℕ) → may_update p change ≡ true
            → Fits true length_name p (with_value (updated p change) (number m))
        with_number p change m may =
            let fits = fits_updated false length_name p change may (λ list. absurd (cc list)) in
            record {
              configurable = fits.configurable;
              enumerable = fits.enumerable;
              locked = λ no. absurd (cc no);
              length = λ list same was. record
                  { count = m; is = refl };
            }

    length_as_stays : (t : Throw) (o : Object) (change : Change) (v : Value) (end : Option ℕ) → change.value ≡ Some v → valid_length v ≡ end
        → SmallSome n change.value
        → P o.props → P (define_length_as t o change end).after.props
    length_as_stays t o change v None e valid small h = h
    length_as_stays t o change v (Some m) e valid small h =
        stays_if (nat_le (array_length o) m) _ _
        (λ long. ordinary_stays true r t o length_name change (r.length refl) small
        (λ p list same was. record { count = m; is = ap (λ x. unwrap_or x p.value) e ∙ valid_number v m valid }) h)
        (λ short. shrunk_stays t o change m (own_property o.props length_name) refl h)

    length_stays : (t : Throw) (o : Object) (change : Change) (value : Option Value) → change.value ≡ value → SmallSome n change.value → P o.props
        → P (define_length t o change value).after.props
    length_stays t o change None e small h =
        ordinary_stays true r t o length_name change (r.length refl) small
        (λ p list same was. record { count = was.count; is = ap (λ x. unwrap_or x p.value) e ∙ was.is }) h
    length_stays t o change (Some v) e small h = length_as_stays t o change v (valid_length v) e refl small h

    array_stays : (t : Throw) (o : Object) (name : List ℕ) (change : Change) → is_list o.class ≡ true → Allowed name → SmallSome n change.value
        → P o.props → P (define t o name change).after.props
    array_stays t o name change e a small h =
        stays_if (is_list o.class) _ _
        (λ list. stays_if (bytes_eq name length_name) _ _ (λ same. length_stays t o change change.value refl small h)
        (λ other. indexed_stays t o name change (index_of name) other a small h))
        (λ ordinary. absurd (cc (e, ordinary)))

  -- ---- calls

  define_stays : (list : Bool) → Rules n list Allowed P → (t : Throw) (o : Object) (name : List ℕ) (change : Change) → is_list o.class ≡ list
      → Allowed name → SmallSome n change.value
      → P o.props → P (define t o name change).after.props
  define_stays true r t o name change e a small h = array_stays r t o name change e a small h
  define_stays false r t o name change e a small h = plain_stays r t o name change e a small h

  deleted_stays : (list : Bool) → Rules n list Allowed P → (o : Object) (name : List ℕ) (own : Option Prop) → own_property o.props name ≡ own
      → Allowed name → P o.props → P (deleted_over o name own).after.props
  deleted_stays list r o name None e a h = h
  deleted_stays list r o name (Some p) e a h = stays_if p.configurable _ _ (λ may. r.removes o.props name p a e may h) (λ refused. h)

  pub call_stays : (list : Bool) → Rules n list Allowed P → (o : Object) (call : Call) → is_list o.class ≡ list
      → (is_closed_at o (name_of call) ≡ false → Allowed (name_of call)) → IsSmall n call
      → P o.props → P (after_call o call).props
  call_stays list r o (putting can name v) e a small h =
      stays_if (not (is_closed_at o name) && can) _ _
      (λ may. define_stays list r CannotSet o name (put_change v (own_property o.props name)) e
      (a (not-true (is_closed_at o name) (and_parts (not (is_closed_at o name)) can may).0))
      (put_small n v (own_property o.props name) small) h)
      (λ refused. h)
  call_stays list r o (defining name change) e a small h =
      stays_if (is_closed_at o name) _ _ (λ refused. h) (λ may. define_stays list r CannotDefine o name change e (a may) small h)
  call_stays list r o (deleting name) e a small h =
      stays_if (is_closed_at o name) _ _ (λ refused. h) (λ may. deleted_stays list r o name (own_property o.props name) refl (a may) h)
