-- Tables of functions, of which one row after another is used.
use Rattle.std.proofs.Common.{◌≡◌, refl, sym, ap, subst, ◌∙◌, ℕ, ◌+◌, ◌<◌, Bool, true, false, not, ◌&&◌, List, [], ◌∷◌, length, drop, get_or, add-one, Option, Some, None, is_some, bytes_eq}
use Rattle.std.proofs.Math.Seq.{drop-cons}
use Rattle.std.proofs.lemmas.List.{length-set, set-get_or, set-set}
use Rattle.std.specs.Borrow.{Bor}
use Rattle.std.proofs.lemmas.Bool.{and_parts, cond-false, cond-true, not-true}
use Rattle.js_values.specs.declared.built_in.BuiltIn.{BuiltIn}
use Rattle.js_values.specs.declared.ids.ObjId.{ObjId}
use Rattle.js_values.specs.declared.throw.Throw.TheVariants.{CannotDefine}
use Rattle.js_values.specs.declared.value.Value.TheVariants as value
use Rattle.object_heap.specs.declared.object.Class.{Class}
use Rattle.object_heap.specs.declared.object.Class.TheVariants.{List as Array}
use Rattle.object_heap.specs.Attempt.{done}
use Rattle.object_heap.specs.Chain.{object_at}
use Rattle.object_heap.specs.Define as object
use Rattle.object_heap.specs.Define.{is_closed_at, length_name}
use Rattle.object_heap.specs.Heap.{Contents, at_object, define_own, with_object, with_objects}
use Rattle.object_heap.specs.Index.{index_of}
use Rattle.object_heap.specs.Object.{Object, is_list, is_window, no_object}
use Rattle.object_heap.specs.Property.{own_property}
use Rattle.object_heap.proofs.Callers.{object_set_same, open_at, ordinary_new}
use Rattle.page_meaning.specs.Places.{function_at}
use Rattle.page_meaning.specs.Tables.{Method}
use Rattle.page_start.specs.BuiltIns.{hidden_change, method_given, methods_given, rows, takes, takes_all, with_method, with_methods}

abbrev pub Row : Type 0
Row = Bor (List ℕ) × BuiltIn × ℕ

-- a row, and the rows behind it
rows_next : (ms : List Row) (i : ℕ) (d : Row) → i < length ms → rows (drop i ms) ≡ ((get_or ms i d).0.now, (get_or ms i d).1, (get_or ms i d).2) ∷ rows (drop (i + 1) ms)
rows_next ms i d there = rw add-one (ap rows (drop-cons ms i d there))

is_absent : {A : Type 0} (o : Option A) → not (is_some o) ≡ true → o ≡ None
is_absent None h = refl
is_absent (Some a) h = cc h

-- ---- an open array, which gets one property more
are_all : (a b c d e f : Bool) → (a && (b && (c && (d && (e && f))))) ≡ true → (a ≡ true) × (b ≡ true) × (c ≡ true) × (d ≡ true) × (e ≡ true) × (f ≡ true)
are_all true true true true true true h = (refl, refl, refl, refl, refl, refl)
are_all false b c d e f h = cc h
are_all true false c d e f h = cc h
are_all true true false d e f h = cc h
are_all true true true false e f h = cc h
are_all true true true true false f h = cc h
are_all true true true true true false h = cc h

-- an array is not the global object
no_window : (o : Object) → is_list o.class ≡ true → is_window o.class ≡ false
no_window o h = by_class o.class h
  where
    by_class : (c : Class) → is_list c ≡ true → is_window c ≡ false
    by_class Array h = refl
    by_class c h = cc h

method_defined : (o : Object) (x : List ℕ) (which : BuiltIn) → takes o x ≡ true
    → object.define_own o x (hidden_change (value.Object (function_at which))) ≡ done (with_method o x which)
method_defined o x which h =
    let all = are_all (is_list o.class) o.extensible (not o.closed) (not (bytes_eq x length_name)) (not (is_some (index_of x))) (not (is_some (own_property o.props x))) h in
    let change = hidden_change (value.Object (function_at which)) in
    cond-false (is_closed_at o x) _ _ (open_at o x (not-true o.closed all.2) (no_window o all.0)) ∙ cond-true (is_list o.class) _ _ all.0 ∙ cond-false (bytes_eq x length_name) _ _ (not-true (bytes_eq x length_name) all.3)
    ∙ ap (object.define_indexed CannotDefine o x change) (is_absent (index_of x) all.4) ∙ ordinary_new o x change (is_absent (own_property o.props x) all.5) all.1

pub method_defined_at : (h : Contents) (at : ObjId) (x : List ℕ) (which : BuiltIn) → takes (object_at h.objects at.0) x ≡ true
    → define_own h at.0 x (hidden_change (value.Object (function_at which))) ≡ done (method_given h at x which)
unfolding define_own
method_defined_at h at x which t = ap (at_object h at.0) (method_defined (object_at h.objects at.0) x which t)

-- ---- an open array, which gets the functions of a table: what the rest of it makes of the array is the whole
pub record Giving (h0 h : Contents) (at : ObjId) (all rest : List Method) : Type 0 where
  pub there : at.0 < length h.objects
  pub takes : takes_all (object_at h.objects at.0) rest ≡ true
  pub whole : methods_given h at rest ≡ methods_given h0 at all

pub giving_begins : (h : Contents) (at : ObjId) (all : List Method) → at.0 < length h.objects → takes_all (object_at h.objects at.0) all ≡ true → Giving h h at all all
giving_begins h at all there t = record { there = there; takes = t; whole = refl }

pub giving_on : (h0 h h' : Contents) (at : ObjId) (all : List Method) (ms : List Row) (i : ℕ) (d : Row) → i < length ms → h' ≡ method_given h at (get_or ms i d).0.now (get_or ms i d).1
    → Giving h0 h at all (rows (drop i ms)) → Giving h0 h' at all (rows (drop (i + 1) ms))
giving_on h0 h h' at all ms i d there given g =
    let m = get_or ms i d in
    let o = object_at h.objects at.0 in
    let p = with_method o m.0.now m.1 in
    let rest = rows (drop (i + 1) ms) in
    let now : object_at h'.objects at.0 ≡ p = ap (λ (c : Contents). object_at c.objects at.0) given ∙ object_set_same h.objects at.0 p g.there in
    record {
      there = subst (λ (c : Contents). at.0 < length c.objects) (sym given) (subst (λ n. at.0 < n) (sym (length-set h.objects at.0 p)) g.there);
      takes = ap (λ x. takes_all x rest) now ∙ (and_parts (takes o m.0.now) (takes_all p rest) (sym (ap (takes_all o) (rows_next ms i d there)) ∙ g.takes)).1;
      whole =
          ap (λ x. with_object h' at.0 (with_methods x rest)) now ∙ ap (λ c. with_object c at.0 (with_methods p rest)) given
          ∙ ap (with_objects h) (set-set h.objects at.0 p (with_methods p rest)) ∙ ap (methods_given h at) (sym (rows_next ms i d there)) ∙ g.whole;
    }

pub giving_ends : (h0 h : Contents) (at : ObjId) (all : List Method) → Giving h0 h at all [] → h ≡ methods_given h0 at all
giving_ends h0 h at all g = sym (ap (with_objects h) (set-get_or h.objects at.0 no_object)) ∙ g.whole
