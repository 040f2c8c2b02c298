-- What was put is got.
use Rattle.std.proofs.Common.{◌≡◌, refl, sym, ap, subst, ◌∙◌, ℕ, ◌+◌, Bool, true, false, ◌&&◌, not, List, Option, Some, None, slice_set, option_map, unwrap_or, nat_eq, nat_le, nat_lt, bytes_eq, if◌then◌else◌}
use Rattle.std.proofs.lemmas.Bool.{eqb-true}
use Rattle.std.proofs.lemmas.List.{get_or-set_same}
use Rattle.std.proofs.lemmas.Slice.Eq.{bytes_eq-Decides}
use Rattle.js_values.specs.declared.ids.ObjId.{ObjId}
use Rattle.js_values.specs.declared.throw.Throw.{Throw}
use Rattle.js_values.specs.declared.throw.Throw.TheVariants.{CannotSet}
use Rattle.js_values.specs.declared.value.Value.{Value}
use Rattle.js_values.specs.declared.value.Value.TheVariants.{Undefined}
use Rattle.object_heap.specs.Object.{is_list, no_object, Object}
use Rattle.object_heap.specs.declared.property.Change.{Change}
use Rattle.object_heap.specs.declared.property.Prop.{Prop}
use Rattle.object_heap.specs.Attempt.{Attempt}
use Rattle.object_heap.specs.Chain.{can_put, first_found, found_within, get_property, object_at}
use Rattle.object_heap.specs.Define.{array_length, define, define_indexed, define_length, define_length_as, define_ordinary, defined_over, elements_below, end_kept, grown_over, has_writable_length, is_below, is_closed_at, length_name, number, put_change, put_own, shrunk, valid_length, with_length_over, with_value}
use Rattle.object_heap.specs.Index.{index_of}
use Rattle.object_heap.specs.Heap.{put}
use Rattle.object_heap.specs.Laws.{PutThenGet}
use Rattle.object_heap.specs.Property.{Props, created, may_update, own_property, updated}
use Rattle.object_heap.proofs.ArrayCalls.{valid_number}
use Rattle.object_heap.proofs.Lists.{apart, lookup_filter, lookup_last, lookup_set, lookup_set_other, same_key}

-- the property of the name has the value
record Holds (name : List ℕ) (v : Value) (o : Object) : Type 0 where
  property : Prop
  there : own_property o.props name ≡ Some property
  value : property.value ≡ v

-- it has, where nothing was thrown
abbrev HoldsOrThrew : List ℕ → Value → Attempt Object → Type 0
HoldsOrThrew name v attempt = attempt.thrown ≡ None → Holds name v attempt.after

holds_if : (name : List ℕ) (v : Value) (b : Bool) (x y : Attempt Object) → (b ≡ true → HoldsOrThrew name v x) → (b ≡ false → HoldsOrThrew name v y) → HoldsOrThrew name v (if b then x else y)
holds_if name v true x y h g = h refl
holds_if name v false x y h g = g refl

over_holds : (t : Throw) (o : Object) (name : List ℕ) (v : Value) (change : Change) (own : Option Prop) → own_property o.props name ≡ own → change.value ≡ Some v → HoldsOrThrew name v (defined_over t o name change own)
over_holds t o name v change None e value =
    holds_if name v o.extensible _ _
    (λ b h. record {
      property = created change;
      there = lookup_last (bytes_eq name) o.props name (created change) e (same_key name);
      value = ap (λ x. unwrap_or x Undefined) value;
    })
    (λ b h. cc h)
over_holds t o name v change (Some p) e value =
    holds_if name v (may_update p change) _ _
    (λ b h. record {
      property = updated p change;
      there = lookup_set (bytes_eq name) o.props (updated p change) p e;
      value = ap (λ x. unwrap_or x p.value) value;
    })
    (λ b h. cc h)

ordinary_holds : (t : Throw) (o : Object) (name : List ℕ) (v : Value) (change : Change) → change.value ≡ Some v → HoldsOrThrew name v (define_ordinary t o name change)
ordinary_holds t o name v change = over_holds t o name v change (own_property o.props name) refl

length_far : (props : Props) (n : ℕ) (name : List ℕ) (own : Option Prop) → bytes_eq name length_name ≡ false → own_property (with_length_over props n own) name ≡ own_property props name
length_far props n name None far = refl
length_far props n name (Some l) far = lookup_set_other (bytes_eq name) (bytes_eq length_name) props (with_value l (number n)) (apart name length_name far)

grown_holds : (n : ℕ) (name : List ℕ) (v : Value) (attempt : Attempt Object) (thrown : Option Throw) → attempt.thrown ≡ thrown → bytes_eq name length_name ≡ false → HoldsOrThrew name v attempt → HoldsOrThrew name v (grown_over n attempt thrown)
grown_holds n name v attempt None e far h done =
    let held = h e in
    record {
      property = held.property;
      there = length_far attempt.after.props n name (own_property attempt.after.props length_name) far ∙ held.there;
      value = held.value;
    }
grown_holds n name v attempt (Some t) e far h done = h done

indexed_holds : (t : Throw) (o : Object) (name : List ℕ) (v : Value) (change : Change) (index : Option ℕ) → change.value ≡ Some v → bytes_eq name length_name ≡ false → HoldsOrThrew name v (define_indexed t o name change index)
indexed_holds t o name v change None value far = ordinary_holds t o name v change value
indexed_holds t o name v change (Some i) value far =
    holds_if name v (nat_lt i (array_length o)) _ _ (λ b. ordinary_holds t o name v change value)
    (λ b. holds_if name v (has_writable_length o) _ _
    (λ c. grown_holds (i + 1) name v (define_ordinary t o name change) (define_ordinary t o name change).thrown refl far (ordinary_holds t o name v change value))
    (λ c h. cc h))

thrown_if : (t : Throw) (b : Bool) → (if b then None else Some t) ≡ None → b ≡ true
thrown_if t true h = refl
thrown_if t false h = cc h

shrunk_holds : (t : Throw) (o : Object) (v : Value) (change : Change) (end : ℕ) (own : Option Prop) → own_property o.props length_name ≡ own → v ≡ number end → HoldsOrThrew length_name v (shrunk t o change end own)
shrunk_holds t o v change end None e is = λ h. cc h
shrunk_holds t o v change end (Some l) e is =
    holds_if length_name v (l.writable && may_update l change) _ _
    (λ b h.
    let kept = end_kept end o.props in
    let p = with_value (updated l change) (number kept) in
    let all : kept ≡ end = eqb-true kept end (thrown_if t (nat_eq kept end) h) in
    let there : own_property (elements_below kept o.props) length_name ≡ Some l =
    lookup_filter (bytes_eq length_name) (λ k. is_below kept (index_of k)) o.props (λ k same. ap (λ x. is_below kept (index_of x)) (sym ((bytes_eq-Decides length_name k).0 same))) ∙ e
    in
    record {
      property = p;
      there = lookup_set (bytes_eq length_name) (elements_below kept o.props) p l there;
      value = ap number all ∙ sym is;
    })
    (λ b h. cc h)

length_as_holds : (t : Throw) (o : Object) (v : Value) (change : Change) (end : Option ℕ) → change.value ≡ Some v → valid_length v ≡ end → HoldsOrThrew length_name v (define_length_as t o change end)
length_as_holds t o v change None value valid = λ h. cc h
length_as_holds t o v change (Some n) value valid =
    holds_if length_name v (nat_le (array_length o) n) _ _ (λ b. ordinary_holds t o length_name v change value)
    (λ b. shrunk_holds t o v change n (own_property o.props length_name) refl (valid_number v n valid).0)

length_holds : (t : Throw) (o : Object) (v : Value) (change : Change) (asked : Option Value) → change.value ≡ Some v → asked ≡ Some v → HoldsOrThrew length_name v (define_length t o change asked)
length_holds t o v change None value e = cc e
length_holds t o v change (Some w) value e =
    let same : w ≡ v = cc e in
    subst (λ x. HoldsOrThrew length_name v (define_length t o change (Some x))) (sym same) (length_as_holds t o v change (valid_length v) value refl)

define_holds : (t : Throw) (o : Object) (name : List ℕ) (v : Value) (change : Change) → change.value ≡ Some v → HoldsOrThrew name v (define t o name change)
define_holds t o name v change value =
    holds_if name v (is_list o.class) _ _
    (λ b. holds_if name v (bytes_eq name length_name) _ _
    (λ same. subst (λ x. HoldsOrThrew x v (define_length t o change change.value)) (sym ((bytes_eq-Decides name length_name).0 same)) (length_holds t o v change change.value value value))
    (λ far. indexed_holds t o name v change (index_of name) value far))
    (λ b. ordinary_holds t o name v change value)

put_value : (v : Value) (own : Option Prop) → (put_change v own).value ≡ Some v
put_value v None = refl
put_value v (Some p) = refl

put_holds : (can : Bool) (o : Object) (name : List ℕ) (v : Value) → HoldsOrThrew name v (put_own can o name v)
put_holds can o name v =
    holds_if name v (not (is_closed_at o name) && can) _ _
    (λ b. define_holds CannotSet o name v (put_change v (own_property o.props name)) (put_value v (own_property o.props name))) (λ b h. cc h)

found_own : (own : Option Prop) (proto : Option ObjId) (up : ℕ → Option Prop) (p : Prop) → own ≡ Some p → first_found own proto up ≡ Some p
found_own None proto up p e = cc e
found_own (Some q) proto up p e = e

pub put_then_get : PutThenGet
unfolding put get_property
put_then_get h k name v there done =
    let attempt = put_own (can_put h.objects k name) (object_at h.objects k) name v in
    let held = put_holds (can_put h.objects k name) (object_at h.objects k) name v done in
    let objects = slice_set h.objects k attempt.after in
    let at : object_at objects k ≡ attempt.after = get_or-set_same h.objects k attempt.after no_object there in
    let own : own_property (object_at objects k).props name ≡ Some held.property = ap (λ (o : Object). own_property o.props name) at ∙ held.there in
    ap (option_map (λ (p : Prop). p.value)) (found_own (own_property (object_at objects k).props name) (object_at objects k).proto (λ q. found_within (λ o. own_property o.props name) objects k q) held.property own)
    ∙ ap Some held.value
