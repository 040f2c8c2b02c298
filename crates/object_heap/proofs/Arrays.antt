-- Arrays stay arrays.
use Rattle.std.proofs.Common.{◌≡◌, refl, sym, ap, ◌∙◌, ℕ, ◌<◌, ◌≤◌, Bool, true, false, ◌&&◌, not, List, [], ◌∷◌, ◌++◌, Option, Some, None, unwrap_or, nat_lt, bytes_eq, if◌then◌else◌, arith}
use Rattle.std.proofs.lemmas.Bool.{and_parts, lt-ltb, ltb-true, not-true}
use Rattle.std.proofs.lemmas.Slice.Eq.{bytes_eq-Decides}
use Rattle.std.specs.List.{list_all}
use Rattle.js_values.specs.declared.throw.Throw.{Throw}
use Rattle.object_heap.specs.Object.{Object}
use Rattle.object_heap.specs.declared.property.Change.{Change}
use Rattle.object_heap.specs.declared.property.Prop.{Prop}
use Rattle.object_heap.specs.Array.{IsArray, IsLength}
use Rattle.object_heap.specs.Attempt.{Attempt}
use Rattle.object_heap.specs.Define.{define_ordinary, defined_over, elements_below, end_kept, end_with, is_below, length_name, number, number_in, with_value}
use Rattle.object_heap.specs.Index.{index_end, index_of, is_decimal, number_of}
use Rattle.object_heap.specs.Property.{Props, asks, keeps, may_update, own_property, updated, with_property, without_property}
use Rattle.object_heap.proofs.Lists.{all_filter, all_last, all_remove, all_set, all_weaker, apart, lookup_before, lookup_filter, lookup_remove_other, lookup_set, lookup_set_other}

pub array_if : (b : Bool) (x y : Attempt Object) → (b ≡ true → IsArray x.after.props) → (b ≡ false → IsArray y.after.props) → IsArray (if b then x else y).after.props
array_if true x y f g = f refl
array_if false x y f g = g refl

-- `length` is no index
pub length_is_below : (n : ℕ) → is_below n (index_of length_name) ≡ true
length_is_below n = refl

pub index_is_not_length : (name : List ℕ) (i : ℕ) → index_of name ≡ Some i → bytes_eq length_name name ≡ false
index_is_not_length name i h = by_case (bytes_eq length_name name) refl
  where
    by_case : (b : Bool) → bytes_eq length_name name ≡ b → bytes_eq length_name name ≡ false
    by_case false p = p
    by_case true p =
        let none : None ≡ Some i = ap index_of ((bytes_eq-Decides length_name name).0 p) ∙ h in
        cc none

pub index_is_small : (name : List ℕ) (i : ℕ) → index_of name ≡ Some i → i < index_end
index_is_small name i h = by_case (is_decimal name && nat_lt (number_of name) index_end) refl
  where
    by_case : (b : Bool) → (is_decimal name && nat_lt (number_of name) index_end) ≡ b → i < index_end
    by_case true p =
        let same : number_of name ≡ i = cc (rw p at h) in
        let less : number_of name < index_end = ltb-true _ _ (and_parts (is_decimal name) _ p).1 in
        omega (arith, same, less)
    by_case false p = cc (rw p at h)

-- a bound for the elements serves as a larger one
is_below_more : (n m : ℕ) → n ≤ m → (index : Option ℕ) → is_below n index ≡ true → is_below m index ≡ true
is_below_more n m h None below = refl
is_below_more n m h (Some i) below = lt-ltb i m (omega (arith, h, ltb-true i n below))

pub above_more : (n m : ℕ) → n ≤ m → (props : Props) → list_all (λ e. is_below n (index_of e.0)) props ≡ true → list_all (λ e. is_below m (index_of e.0)) props ≡ true
above_more n m h props = all_weaker (λ e. is_below n (index_of e.0)) (λ e. is_below m (index_of e.0)) props (λ e. is_below_more n m h (index_of e.0))

-- the length is this property, and all elements are below n
pub record Within (n : ℕ) (length : Prop) (props : Props) : Type 0 where
  pub there : own_property props length_name ≡ Some length
  pub above : list_all (λ e. is_below n (index_of e.0)) props ≡ true

within_last : (n : ℕ) (l p : Prop) (props : Props) (name : List ℕ) → Within n l props → bytes_eq length_name name ≡ false → is_below n (index_of name) ≡ true → Within n l (props ++ (name, p) ∷ [])
within_last n l p props name w other below = record {
  there = lookup_before (bytes_eq length_name) props name p other ∙ w.there;
  above = all_last (λ e. is_below n (index_of e.0)) props (name, p) w.above below;
}

within_set : (n : ℕ) (l p : Prop) (props : Props) (name : List ℕ) → Within n l props → bytes_eq length_name name ≡ false → Within n l (with_property props name p)
within_set n l p props name w other = record {
  there = lookup_set_other (bytes_eq length_name) (bytes_eq name) props p (apart length_name name other) ∙ w.there;
  above = all_set (λ k. is_below n (index_of k)) (bytes_eq name) props p w.above;
}

within_if : (n : ℕ) (l : Prop) (b : Bool) (x y : Attempt Object) → Within n l x.after.props → Within n l y.after.props → Within n l (if b then x else y).after.props
within_if n l true x y h g = h
within_if n l false x y h g = g

within_over : (n : ℕ) (l : Prop) (t : Throw) (o : Object) (name : List ℕ) (change : Change) (own : Option Prop) → Within n l o.props → bytes_eq length_name name ≡ false → is_below n (index_of name) ≡ true → Within n l (defined_over t o name change own).after.props
within_over n l t o name change None w other below = within_if n l o.extensible _ _ (within_last n l _ o.props name w other below) w
within_over n l t o name change (Some p) w other below = within_if n l (may_update p change) _ _ (within_set n l _ o.props name w other) w

-- a property but the length, which is no element at n or past it
pub within_ordinary : (n : ℕ) (l : Prop) (t : Throw) (o : Object) (name : List ℕ) (change : Change) → Within n l o.props → bytes_eq length_name name ≡ false → is_below n (index_of name) ≡ true → Within n l (define_ordinary t o name change).after.props
within_ordinary n l t o name change = within_over n l t o name change (own_property o.props name)

-- the length becomes another one
pub with_new_length : (n : ℕ) (l m : Prop) (props : Props) → Within n l props → IsLength m → n ≤ number_in m.value → IsArray (with_property props length_name m)
with_new_length n l m props w is_length long = record {
  length = m;
  there = lookup_set (bytes_eq length_name) props m l w.there;
  is_length = is_length;
  above = all_set (λ k. is_below (number_in m.value) (index_of k)) (bytes_eq length_name) props m (above_more n (number_in m.value) long props w.above);
}

pub with_number : (l : Prop) (n : ℕ) → IsLength l → n ≤ index_end → IsLength (with_value l (number n))
with_number l n h small = record { number = refl; small = small; enumerable = h.enumerable; configurable = h.configurable }

pub keeps_same : (change : Option Bool) (old : Bool) → keeps change old ≡ true → unwrap_or change old ≡ old
keeps_same None old h = refl
keeps_same (Some true) true h = refl
keeps_same (Some true) false h = cc
keeps_same (Some false) true h = cc
keeps_same (Some false) false h = refl

-- what may be changed of a length: its value, and whether it is writable
pub updated_length : (l : Prop) (change : Change) → IsLength l → may_update l change ≡ true → (updated l change).value ≡ number (number_in (updated l change).value) → number_in (updated l change).value ≤ index_end → IsLength (updated l change)
updated_length l change h may is small =
    let asked = rw h.configurable at may in
    let flags = (and_parts (not (asks change.configurable) && keeps change.enumerable l.enumerable) _ asked).0 in
    record {
      number = is;
      small = small;
      enumerable = keeps_same change.enumerable l.enumerable (and_parts (not (asks change.configurable)) (keeps change.enumerable l.enumerable) flags).1 ∙ h.enumerable;
      configurable = ap (unwrap_or change.configurable) h.configurable ∙ not-true (asks change.configurable) (and_parts (not (asks change.configurable)) (keeps change.enumerable l.enumerable) flags).0;
    }

end_with_small : (end : ℕ) (index : Option ℕ) (configurable : Bool) → end ≤ index_end → ((i : ℕ) → index ≡ Some i → i < index_end) → end_with end index configurable ≤ index_end
end_with_small end None c h small = h
end_with_small end (Some i) true h small = h
end_with_small end (Some i) false h small = omega (arith, h, small i refl)

pub end_kept_small : (end : ℕ) (props : Props) → end ≤ index_end → end_kept end props ≤ index_end
end_kept_small end [] h = h
end_kept_small end (e ∷ es) h = end_kept_small (end_with end (index_of e.0) e.1.configurable) es (end_with_small end (index_of e.0) e.1.configurable h (index_is_small e.0))

-- only elements go
pub within_elements : (n kept : ℕ) (l : Prop) (props : Props) → Within n l props → Within kept l (elements_below kept props)
within_elements n kept l props w = record {
  there =
      lookup_filter (bytes_eq length_name) (λ k. is_below kept (index_of k)) props (λ k same. ap (λ x. is_below kept (index_of x)) (sym ((bytes_eq-Decides length_name k).0 same))) ∙ w.there;
  above = all_filter (λ e. is_below kept (index_of e.0)) props;
}

-- a property that may be deleted is not the length
pub within_removed : (n : ℕ) (l : Prop) (props : Props) (name : List ℕ) → Within n l props → bytes_eq length_name name ≡ false → Within n l (without_property props name)
within_removed n l props name w other = record {
  there = lookup_remove_other (bytes_eq length_name) (bytes_eq name) props (apart length_name name other) ∙ w.there;
  above = all_remove (λ k. is_below n (index_of k)) (bytes_eq name) props w.above;
}
