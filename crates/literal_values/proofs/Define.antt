-- What is put into a literal object, defined and deleted leaves one.
use Rattle.std.proofs.Common.{◌≡◌, refl, ap, subst, ℕ, ◌+◌, ◌≤◌, ◌<◌, ◌&&◌, ◌||◌, not, pos, negsuc, Bool, true, false, List, [], ◌∷◌, ◌++◌, Option, Some, None, IfSome, IsSome, nat_le, nat_lt, bytes_eq, is_some, unwrap_or, if◌then◌else◌, arith}
use Rattle.std.proofs.lemmas.Bool.{and_parts, ltb-true}
use Rattle.std.proofs.lemmas.Option.{IfSome_then}
use Rattle.js_values.specs.declared.throw.Throw.{Throw}
use Rattle.js_values.specs.declared.throw.Throw.TheVariants.{CannotDefine, CannotDelete, CannotSet, InvalidLength}
use Rattle.js_values.specs.declared.value.Value.{Value}
use Rattle.js_values.specs.declared.value.Value.TheVariants.{Undefined, Null, Bool as Truth, Num, Text, Object as Obj}
use Rattle.object_heap.specs.Attempt.{Attempt, done, throws}
use Rattle.object_heap.specs.Define.{array_length, define, define_indexed, define_length, define_length_as, define_ordinary, define_own, defined_over, delete_own, deleted_over, elements_below, end_kept, end_with, grown, grown_over, has_writable_length, is_below, is_closed_at, length_name, number, prevented, put_change, put_own, shrunk, shrunk_to, valid_length, with_length, with_length_over, with_value}
use Rattle.object_heap.specs.Heap.{with_added}
use Rattle.object_heap.specs.Index.{index_end, index_of, is_decimal, number_of}
use Rattle.object_heap.specs.Object.{Object, is_list, is_window, with_props}
use Rattle.object_heap.specs.Property.{Props, created, may_update, own_property, updated, with_property, without_property}
use Rattle.object_heap.specs.declared.property.Change.{Change}
use Rattle.object_heap.specs.declared.property.Prop.{Prop}
use Rattle.literal_values.proofs.Entries.{props_filtered, props_found, props_joined, props_removed, props_set}
use Rattle.literal_values.proofs.Units.{text_seen}
use Rattle.literal_values.specs.Objects.{LiteralChange, LiteralObject, LiteralProps, MaybeProp}
use Rattle.literal_values.specs.Values.{IsBounded, IsText, MaybeBounded}

-- ---- properties

pub length_text : IsText length_name
length_text = text_seen length_name refl

pub own_in : (props : Props) (name : List ℕ) → LiteralProps props → MaybeProp (own_property props name)
own_in props name h = props_found (bytes_eq name) props h

with_property_in : (props : Props) (name : List ℕ) (p : Prop) → IsBounded p.value → LiteralProps props → LiteralProps (with_property props name p)
with_property_in props name p v h = props_set (bytes_eq name) props p v h

without_property_in : (props : Props) (name : List ℕ) → LiteralProps props → LiteralProps (without_property props name)
without_property_in props name h = props_removed (bytes_eq name) props h

property_last : (props : Props) (name : List ℕ) (p : Prop) → IsText name → IsBounded p.value → LiteralProps props → LiteralProps (props ++ (name, p) ∷ [])
property_last props name p n v h = props_joined props ((name, p) ∷ []) h (n, v, tt)

with_props_in : (o : Object) (props : Props) → LiteralObject o → LiteralProps props → LiteralObject (with_props o props)
with_props_in o props h k = record { class = h.class; props = k }

-- what a change asks for, if it does
asked_in : (o : Option Value) (v : Value) → MaybeBounded o → IsBounded v → IsBounded (unwrap_or o v)
asked_in None v h k = k
asked_in (Some w) v h k = h

-- ---- what is tried

pub record AfterIn (attempt : Attempt Object) : Type 0 where
  pub after : LiteralObject attempt.after

done_in : {o : Object} → LiteralObject o → AfterIn (done o)
done_in h = record { after = h }

throws_in : {o : Object} (t : Throw) → LiteralObject o → AfterIn (throws o t)
throws_in t h = record { after = h }

if_in : (b : Bool) {x y : Attempt Object} → AfterIn x → AfterIn y → AfterIn (if b then x else y)
if_in true h k = h
if_in false h k = k

over_in : (t : Throw) (o : Object) (name : List ℕ) (change : Change) (p : Option Prop) → LiteralObject o → IsText name → LiteralChange change
    → MaybeProp p → AfterIn (defined_over t o name change p)
over_in t o name change None h n c p =
    if_in o.extensible (done_in (with_props_in o _ h (property_last o.props name (created change) n (asked_in change.value Undefined c tt) h.props))) (throws_in t h)
over_in t o name change (Some q) h n c p =
    if_in (may_update q change) (done_in (with_props_in o _ h (with_property_in o.props name (updated q change) (asked_in change.value q.value c p) h.props))) (throws_in t h)

ordinary_in : (t : Throw) (o : Object) (name : List ℕ) (change : Change) → LiteralObject o → IsText name → LiteralChange change → AfterIn (define_ordinary t o name change)
ordinary_in t o name change h n c = over_in t o name change (own_property o.props name) h n c (own_in o.props name h.props)

-- ---- arrays

-- no length is larger
abbrev longest : ℕ
longest = 4294967296

number_small : (n : ℕ) → n ≤ longest → IsBounded (number n)
number_small n small = omega arith

pub index_small : (name : List ℕ) → IfSome (index_of name) (λ i. i < longest)
index_small name = by_case (is_decimal name && nat_lt (number_of name) index_end) refl
  where
    by_case : (b : Bool) → (is_decimal name && nat_lt (number_of name) index_end) ≡ b → IfSome (if b then Some (number_of name) else None) (λ i. i < longest)
    by_case true e = omega (arith, ltb-true (number_of name) index_end (and_parts (is_decimal name) (nat_lt (number_of name) index_end) e).1)
    by_case false e = tt

valid_in : (v : Value) → IfSome (valid_length v) (λ n. (n < longest) × IsBounded v)
valid_in Undefined = tt
valid_in Null = tt
valid_in (Truth b) = tt
valid_in (Num None) = tt
valid_in (Num (Some (negsuc n))) = tt
valid_in (Text t) = tt
valid_in (Obj at) = tt
valid_in (Num (Some (pos n))) = by_case (nat_lt n 4294967296) refl
  where
    by_case : (b : Bool) → nat_lt n 4294967296 ≡ b → IfSome (if b then Some n else None) (λ m. (m < longest) × IsBounded (number n))
    by_case true e = let small : n < longest = ltb-true n 4294967296 e in (small, number_small n (omega arith))
    by_case false e = tt

with_length_in : (o : Object) (n : ℕ) → n ≤ longest → LiteralObject o → LiteralObject (with_length o n)
with_length_in o n small h = with_props_in o _ h (by_case (own_property o.props length_name))
  where
    by_case : (p : Option Prop) → LiteralProps (with_length_over o.props n p)
    by_case None = h.props
    by_case (Some p) = with_property_in o.props length_name (with_value p (number n)) (number_small n small) h.props

grown_in : (n : ℕ) (x : Attempt Object) → n ≤ longest → AfterIn x → AfterIn (grown n x)
grown_in n x small h = by_case x.thrown
  where
    by_case : (t : Option Throw) → AfterIn (grown_over n x t)
    by_case None = done_in (with_length_in x.after n small h.after)
    by_case (Some t) = h

indexed_in : (t : Throw) (o : Object) (name : List ℕ) (change : Change) (index : Option ℕ) → LiteralObject o → IsText name → LiteralChange change → IfSome index (λ i. i < longest)
    → AfterIn (define_indexed t o name change index)
indexed_in t o name change None h n c small = ordinary_in t o name change h n c
indexed_in t o name change (Some i) h n c small =
    let one = ordinary_in t o name change h n c in
    if_in (nat_lt i (array_length o)) one (if_in (has_writable_length o) (grown_in (i + 1) _ (omega arith) one) (throws_in t h))

end_small : (end : ℕ) (i : Option ℕ) (configurable : Bool) → end ≤ longest → IfSome i (λ j. j < longest) → end_with end i configurable ≤ longest
end_small end None configurable h k = h
end_small end (Some i) true h k = h
end_small end (Some i) false h k = omega arith

kept_small : (props : Props) (end : ℕ) → end ≤ longest → end_kept end props ≤ longest
kept_small [] end h = h
kept_small (e ∷ es) end h = kept_small es (end_with end (index_of e.0) e.1.configurable) (end_small end (index_of e.0) e.1.configurable h (index_small e.0))

shrunk_to_in : (t : Throw) (o : Object) (p : Prop) (end kept : ℕ) → kept ≤ longest → LiteralObject o → AfterIn (shrunk_to t o p end kept)
shrunk_to_in t o p end kept small h =
    record { after = with_props_in o _ h (with_property_in (elements_below kept o.props) length_name (with_value p (number kept)) (number_small kept small) (props_filtered (λ e. is_below kept (index_of e.0)) o.props h.props)) }

shrunk_in : (t : Throw) (o : Object) (change : Change) (end : ℕ) (p : Option Prop) → end ≤ longest → LiteralObject o → AfterIn (shrunk t o change end p)
shrunk_in t o change end None small h = throws_in t h
shrunk_in t o change end (Some p) small h =
    if_in (p.writable && may_update p change) (shrunk_to_in t o (updated p change) end (end_kept end o.props) (kept_small o.props end small) h) (throws_in t h)

length_as_in : (t : Throw) (o : Object) (change : Change) (m : Option ℕ) → LiteralObject o → IfSome m (λ n. (n < longest) × LiteralChange change) → AfterIn (define_length_as t o change m)
length_as_in t o change None h k = throws_in InvalidLength h
length_as_in t o change (Some n) h k =
    if_in (nat_le (array_length o) n) (ordinary_in t o length_name change h length_text k.1) (shrunk_in t o change n (own_property o.props length_name) (omega (arith, k.0)) h)

-- an array's length is one of the numbers whatever is asked for
length_in : (t : Throw) (o : Object) (change : Change) (v : Option Value) → change.value ≡ v → LiteralObject o → AfterIn (define_length t o change v)
length_in t o change None e h = ordinary_in t o length_name change h length_text (rw e tt)
length_in t o change (Some v) e h = length_as_in t o change (valid_length v) h (IfSome_then (valid_length v) (valid_in v) (λ n k. (k.0, rw e k.1)))

define_in : (t : Throw) (o : Object) (name : List ℕ) (change : Change) → LiteralObject o → IsText name → LiteralChange change → AfterIn (define t o name change)
define_in t o name change h n c =
    if_in (is_list o.class)
    (if_in (bytes_eq name length_name) (length_in t o change change.value refl h) (indexed_in t o name change (index_of name) h n c (index_small name)))
    (ordinary_in t o name change h n c)

-- ---- what scripts do

pub define_own_in : (o : Object) (name : List ℕ) (change : Change) → LiteralObject o → IsText name → LiteralChange change → AfterIn (define_own o name change)
define_own_in o name change h n c = if_in (is_closed_at o name) (throws_in CannotDefine h) (define_in CannotDefine o name change h n c)

put_change_in : (v : Value) (p : Option Prop) → IsBounded v → LiteralChange (put_change v p)
put_change_in v None h = h
put_change_in v (Some p) h = h

pub put_own_in : (can : Bool) (o : Object) (name : List ℕ) (v : Value) → LiteralObject o → IsText name → IsBounded v → AfterIn (put_own can o name v)
put_own_in can o name v h n k =
    if_in (not (is_closed_at o name) && can) (define_in CannotSet o name (put_change v (own_property o.props name)) h n (put_change_in v (own_property o.props name) k)) (throws_in CannotSet h)

-- what an array's length becomes is a number of the language, whatever is put: what is no length is refused
pub record LengthIn (v : Value) (attempt : Attempt Object) : Type 0 where
  pub after : LiteralObject attempt.after
  pub valid : attempt.thrown ≡ None → IsSome (valid_length v)

refused_in : {o : Object} (v : Value) (t : Throw) → LiteralObject o → LengthIn v (throws o t)
refused_in v t h = record { after = h; valid = λ e. absurd (cc e) }

length_if_in : (v : Value) (b : Bool) {x y : Attempt Object} → LengthIn v x → LengthIn v y → LengthIn v (if b then x else y)
length_if_in v true h k = h
length_if_in v false h k = k

valid_case : (v : Value) (x : Attempt Object) (m : Option ℕ) → valid_length v ≡ m → AfterIn x → (m ≡ None → x.thrown ≡ Some InvalidLength) → LengthIn v x
valid_case v x None e h k = record { after = h.after; valid = λ n. absurd (cc (n, k refl)) }
valid_case v x (Some n) e h k = record { after = h.after; valid = λ d. ap is_some e }

length_value_in : (t : Throw) (o : Object) (change : Change) (v w : Option Value) (u : Value) → change.value ≡ Some u → change.value ≡ v → LiteralObject o → LengthIn u (define_length t o change v)
length_value_in t o change None w u e k h = absurd (cc (e, k))
length_value_in t o change (Some v) w u e k h =
    let same : v ≡ u = cc (e, k) in
    subst (λ x. LengthIn x (define_length t o change (Some v))) same
    (valid_case v _ (valid_length v) refl (length_in t o change (Some v) k h) (λ n. rw n refl))

put_value : (v : Value) (p : Option Prop) → (put_change v p).value ≡ Some v
put_value v None = refl
put_value v (Some p) = refl

pub put_length_in : (can : Bool) (o : Object) (v : Value) → is_list o.class ≡ true → LiteralObject o → LengthIn v (put_own can o length_name v)
put_length_in can o v list h =
    let change = put_change v (own_property o.props length_name) in
    length_if_in v (not (is_closed_at o length_name) && can)
    (rw list (length_value_in CannotSet o change change.value None v (put_value v (own_property o.props length_name)) refl h)) (refused_in v CannotSet h)

pub delete_own_in : (o : Object) (name : List ℕ) → LiteralObject o → AfterIn (delete_own o name)
delete_own_in o name h = if_in (is_closed_at o name) (throws_in CannotDelete h) (by_case (own_property o.props name))
  where
    by_case : (p : Option Prop) → AfterIn (deleted_over o name p)
    by_case None = done_in h
    by_case (Some p) = if_in p.configurable (done_in (with_props_in o _ h (without_property_in o.props name h.props))) (throws_in CannotDelete h)

pub prevented_in : (o : Object) → LiteralObject o → AfterIn (prevented o)
prevented_in o h = if_in (o.closed || is_window o.class) (throws_in CannotDefine h) (done_in (record { class = h.class; props = h.props }))

pub added_in : (o : Object) (name : List ℕ) (p : Prop) → LiteralObject o → IsText name → IsBounded p.value → LiteralObject (with_added o name p)
added_in o name p h n v = by_case (is_list o.class || is_some (own_property o.props name))
  where
    by_case : (b : Bool) → LiteralObject (if b then o else with_props o (o.props ++ (name, p) ∷ []))
    by_case true = h
    by_case false = with_props_in o _ h (property_last o.props name p n v h.props)
