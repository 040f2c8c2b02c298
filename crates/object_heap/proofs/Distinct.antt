-- Names of properties stay distinct.
use Rattle.std.proofs.Common.{◌≡◌, refl, sym, subst, ℕ, ◌+◌, Bool, true, false, ◌&&◌, ◌||◌, not, filter, is_some, List, [], ◌∷◌, ◌++◌, Option, Some, None, nat_le, nat_lt, bytes_eq, if◌then◌else◌}
use Rattle.std.proofs.lemmas.Map.{keys-set_value}
use Rattle.std.proofs.lemmas.Slice.Eq.{bytes_eq-Decides}
use Rattle.std.specs.List.{AllByRecursion, IsDistinct}
use Rattle.std.specs.Map.{keys_of, lookup, remove_entry}
use Rattle.js_values.specs.declared.throw.Throw.{Throw}
use Rattle.js_values.specs.declared.throw.Throw.TheVariants.{CannotDefine, CannotSet}
use Rattle.js_values.specs.declared.value.Value.{Value}
use Rattle.object_heap.specs.declared.property.Change.{Change}
use Rattle.object_heap.specs.declared.property.Prop.{Prop}
use Rattle.object_heap.specs.Attempt.{Attempt}
use Rattle.object_heap.specs.Define.{array_length, define, define_indexed, define_length, define_length_as, define_ordinary, define_own, defined_over, delete_own, deleted_over, elements_below, end_kept, grown_over, has_writable_length, is_below, is_closed_at, length_name, number, prevented, put_change, put_own, shrunk, valid_length, with_length_over, with_value}
use Rattle.object_heap.specs.Heap.{with_added}
use Rattle.object_heap.specs.Index.{index_of}
use Rattle.object_heap.specs.Object.{is_list, is_window, Object, with_props}
use Rattle.object_heap.specs.Property.{HasDistinctNames, Props, may_update, own_property, updated, with_property}

pub flipped : (x y : List ℕ) → bytes_eq x y ≡ false → bytes_eq y x ≡ false
flipped x y h = by_case (bytes_eq y x) refl
  where
    by_case : (b : Bool) → bytes_eq y x ≡ b → bytes_eq y x ≡ false
    by_case false p = p
    by_case true p =
        let same : bytes_eq x y ≡ true = (bytes_eq-Decides x y).1 (sym ((bytes_eq-Decides y x).0 p)) in
        cc (same, h)

-- ---- lists

all_last : (P : List ℕ → Type 0) (props : Props) (name : List ℕ) (p : Prop) → AllByRecursion P (keys_of props) → P name → AllByRecursion P (keys_of (props ++ (name, p) ∷ []))
all_last P [] name p h one = (one, tt)
all_last P (e ∷ es) name p h one = (h.0, all_last P es name p h.1 one)

pub distinct_last : (props : Props) (name : List ℕ) (p : Prop) → own_property props name ≡ None → HasDistinctNames props → HasDistinctNames (props ++ (name, p) ∷ [])
unfolding IsDistinct
distinct_last [] name p none h = (tt, tt)
distinct_last (e ∷ es) name p none h = by_case (bytes_eq name e.0) refl (λ g. distinct_last es name p g h.1)
  where
    by_case : (b : Bool) → bytes_eq name e.0 ≡ b → (lookup (bytes_eq name) es ≡ None → HasDistinctNames (es ++ (name, p) ∷ [])) → HasDistinctNames ((e ∷ es) ++ (name, p) ∷ [])
    by_case true g more = cc (rw g at none)
    by_case false g more = (all_last (λ y. bytes_eq e.0 y ≡ false) es name p h.0 (flipped name e.0 g), more (rw g at none))

pub distinct_set : (props : Props) (name : List ℕ) (p : Prop) → HasDistinctNames props → HasDistinctNames (with_property props name p)
distinct_set props name p h = subst (IsDistinct bytes_eq) (sym (keys-set_value (bytes_eq name) props p)) h

all_removed : (P : List ℕ → Type 0) (test : List ℕ → Bool) (props : Props) → AllByRecursion P (keys_of props) → AllByRecursion P (keys_of (remove_entry test props))
all_removed P test [] h = h
all_removed P test (e ∷ es) h = by_case (test e.0) refl (all_removed P test es h.1)
  where
    by_case : (b : Bool) → test e.0 ≡ b → AllByRecursion P (keys_of (remove_entry test es)) → AllByRecursion P (keys_of (remove_entry test (e ∷ es)))
    by_case true g more = rw g h.1
    by_case false g more = rw g (h.0, more)

pub distinct_removed : (test : List ℕ → Bool) (props : Props) → HasDistinctNames props → HasDistinctNames (remove_entry test props)
unfolding IsDistinct
distinct_removed test [] h = h
distinct_removed test (e ∷ es) h = by_case (test e.0) refl (distinct_removed test es h.1)
  where
    by_case : (b : Bool) → test e.0 ≡ b → HasDistinctNames (remove_entry test es) → HasDistinctNames (remove_entry test (e ∷ es))
    by_case true g more = rw g h.1
    by_case false g more = rw g (all_removed (λ y. bytes_eq e.0 y ≡ false) test es h.0, more)

all_filtered : (P : List ℕ → Type 0) (test : List ℕ × Prop → Bool) (props : Props) → AllByRecursion P (keys_of props) → AllByRecursion P (keys_of (filter test props))
all_filtered P test [] h = h
all_filtered P test (e ∷ es) h = by_case (test e) refl (all_filtered P test es h.1)
  where
    by_case : (b : Bool) → test e ≡ b → AllByRecursion P (keys_of (filter test es)) → AllByRecursion P (keys_of (filter test (e ∷ es)))
    by_case true g more = rw g (h.0, more)
    by_case false g more = rw g more

pub distinct_filtered : (test : List ℕ × Prop → Bool) (props : Props) → HasDistinctNames props → HasDistinctNames (filter test props)
unfolding IsDistinct
distinct_filtered test [] h = h
distinct_filtered test (e ∷ es) h = by_case (test e) refl (distinct_filtered test es h.1)
  where
    by_case : (b : Bool) → test e ≡ b → HasDistinctNames (filter test es) → HasDistinctNames (filter test (e ∷ es))
    by_case true g more = rw g (all_filtered (λ y. bytes_eq e.0 y ≡ false) test es h.0, more)
    by_case false g more = rw g more

pub no_name : HasDistinctNames []
unfolding IsDistinct
no_name = tt

pub one_name : (x : List ℕ) (p : Prop) → HasDistinctNames ((x, p) ∷ [])
unfolding IsDistinct
one_name x p = (tt, tt)

pub two_names : (x : List ℕ) (p : Prop) (y : List ℕ) (q : Prop) → bytes_eq x y ≡ false → HasDistinctNames ((x, p) ∷ (y, q) ∷ [])
unfolding IsDistinct
two_names x p y q h = ((h, tt), (tt, tt))

-- ---- calls

names_if : (b : Bool) (x y : Attempt Object) → HasDistinctNames x.after.props → HasDistinctNames y.after.props → HasDistinctNames (if b then x else y).after.props
names_if true x y h g = h
names_if false x y h g = g

over_names : (t : Throw) (o : Object) (name : List ℕ) (change : Change) (own : Option Prop) → own_property o.props name ≡ own → HasDistinctNames o.props → HasDistinctNames (defined_over t o name change own).after.props
over_names t o name change None e h = names_if o.extensible _ _ (distinct_last o.props name _ e h) h
over_names t o name change (Some p) e h = names_if (may_update p change) _ _ (distinct_set o.props name _ h) h

ordinary_names : (t : Throw) (o : Object) (name : List ℕ) (change : Change) → HasDistinctNames o.props → HasDistinctNames (define_ordinary t o name change).after.props
ordinary_names t o name change h = over_names t o name change (own_property o.props name) refl h

length_over_names : (props : Props) (n : ℕ) (own : Option Prop) → HasDistinctNames props → HasDistinctNames (with_length_over props n own)
length_over_names props n None h = h
length_over_names props n (Some p) h = distinct_set props length_name (with_value p (number n)) h

grown_names : (n : ℕ) (attempt : Attempt Object) (thrown : Option Throw) → HasDistinctNames attempt.after.props → HasDistinctNames (grown_over n attempt thrown).after.props
grown_names n attempt None h = length_over_names attempt.after.props n (own_property attempt.after.props length_name) h
grown_names n attempt (Some t) h = h

indexed_names : (t : Throw) (o : Object) (name : List ℕ) (change : Change) (index : Option ℕ) → HasDistinctNames o.props → HasDistinctNames (define_indexed t o name change index).after.props
indexed_names t o name change None h = ordinary_names t o name change h
indexed_names t o name change (Some i) h =
    names_if (nat_lt i (array_length o)) _ _ (ordinary_names t o name change h)
    (names_if (has_writable_length o) _ _ (grown_names (i + 1) (define_ordinary t o name change) (define_ordinary t o name change).thrown (ordinary_names t o name change h)) h)

shrunk_names : (t : Throw) (o : Object) (change : Change) (end : ℕ) (own : Option Prop) → HasDistinctNames o.props → HasDistinctNames (shrunk t o change end own).after.props
shrunk_names t o change end None h = h
shrunk_names t o change end (Some p) h =
    let kept = end_kept end o.props in
    names_if (p.writable && may_update p change) _ _
    (distinct_set (elements_below kept o.props) length_name (with_value (updated p change) (number kept)) (distinct_filtered (λ e. is_below kept (index_of e.0)) o.props h)) h

length_as_names : (t : Throw) (o : Object) (change : Change) (end : Option ℕ) → HasDistinctNames o.props → HasDistinctNames (define_length_as t o change end).after.props
length_as_names t o change None h = h
length_as_names t o change (Some n) h =
    names_if (nat_le (array_length o) n) _ _ (ordinary_names t o length_name change h) (shrunk_names t o change n (own_property o.props length_name) h)

length_names : (t : Throw) (o : Object) (change : Change) (value : Option Value) → HasDistinctNames o.props → HasDistinctNames (define_length t o change value).after.props
length_names t o change None h = ordinary_names t o length_name change h
length_names t o change (Some v) h = length_as_names t o change (valid_length v) h

pub define_names : (t : Throw) (o : Object) (name : List ℕ) (change : Change) → HasDistinctNames o.props → HasDistinctNames (define t o name change).after.props
define_names t o name change h =
    names_if (is_list o.class) _ _
    (names_if (bytes_eq name length_name) _ _ (length_names t o change change.value h) (indexed_names t o name change (index_of name) h))
    (ordinary_names t o name change h)

pub define_own_names : (o : Object) (name : List ℕ) (change : Change) → HasDistinctNames o.props → HasDistinctNames (define_own o name change).after.props
define_own_names o name change h = names_if (is_closed_at o name) _ _ h (define_names CannotDefine o name change h)

pub put_own_names : (can : Bool) (o : Object) (name : List ℕ) (v : Value) → HasDistinctNames o.props → HasDistinctNames (put_own can o name v).after.props
put_own_names can o name v h =
    names_if (not (is_closed_at o name) && can) _ _ (define_names CannotSet o name (put_change v (own_property o.props name)) h) h

deleted_names : (o : Object) (name : List ℕ) (own : Option Prop) → HasDistinctNames o.props → HasDistinctNames (deleted_over o name own).after.props
deleted_names o name None h = h
deleted_names o name (Some p) h = names_if p.configurable _ _ (distinct_removed (bytes_eq name) o.props h) h

pub delete_own_names : (o : Object) (name : List ℕ) → HasDistinctNames o.props → HasDistinctNames (delete_own o name).after.props
delete_own_names o name h = names_if (is_closed_at o name) _ _ h (deleted_names o name (own_property o.props name) h)

pub prevented_names : (o : Object) → HasDistinctNames o.props → HasDistinctNames (prevented o).after.props
prevented_names o h = names_if (o.closed || is_window o.class) _ _ h h

pub added_names : (o : Object) (name : List ℕ) (p : Prop) → HasDistinctNames o.props → HasDistinctNames (with_added o name p).props
added_names o name p h = by_case (is_list o.class) (own_property o.props name) refl
  where
    by_case : (b : Bool) (own : Option Prop) → own_property o.props name ≡ own → HasDistinctNames (if b || is_some own then o else with_props o (o.props ++ (name, p) ∷ [])).props
    by_case true own e = h
    by_case false None e = distinct_last o.props name p e h
    by_case false (Some q) e = h
