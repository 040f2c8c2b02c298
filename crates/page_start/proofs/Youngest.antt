-- The youngest object, where something is done to it.
use Rattle.std.proofs.Common.{◌≡◌, refl, ap, ◌∙◌, ℕ, ◌<◌, List, [], ◌∷◌, ◌++◌, Some, Result, Ok, Err, append_assoc, length}
use Rattle.std.specs.Prelude.{OnOk, codes, slice_set}
use Rattle.std.proofs.lemmas.Bool.{lt-ltb}
use Rattle.js_values.specs.declared.built_in.BuiltIn.TheVariants as built_in
use Rattle.js_values.specs.declared.ids.ObjId.{ObjId}
use Rattle.object_heap.specs.declared.object.Class.{Class}
use Rattle.object_heap.specs.declared.object.Class.TheVariants.{List as Array}
use Rattle.object_heap.specs.Chain.{object_at}
use Rattle.object_heap.specs.Heap.{Contents, close, first_props, made, new_object, with_new_object, with_object, with_objects}
use Rattle.object_heap.specs.Object.{Object, class_at, older, whole_object, with_closed}
use Rattle.object_heap.specs.Property.{Props}
use Rattle.page_meaning.specs.Places.{object_prototype}
use Rattle.page_meaning.specs.Pristine.{built}
use Rattle.page_meaning.specs.Tables.{array_prototype_functions}
use Rattle.page_start.specs.BuiltIns.{array_prototype_object, beside, method_given, methods_given, with_method, with_methods}

youngest_at : (os : List Object) (o : Object) → object_at (os ++ o ∷ []) (length os) ≡ o
youngest_at [] o = refl
youngest_at (x ∷ os) o = youngest_at os o

youngest_set : (os : List Object) (o p : Object) → slice_set (os ++ o ∷ []) (length os) p ≡ os ++ p ∷ []
youngest_set [] o p = refl
youngest_set (x ∷ os) o p = ap (λ l. x ∷ l) (youngest_set os o p)

youngest_becomes : (h : Contents) (o p : Object) → with_object (with_new_object h o) (length h.objects) p ≡ with_new_object h p
youngest_becomes h o p = ap (λ os. with_objects h os) (youngest_set h.objects o p)

there : (k : ℕ) (p : ObjId) → p.0 < k → older k (Some p) ≡ Some p
there k p h = rw (lt-ltb p.0 k h) refl

-- what is made is there as it was given, where its prototype is older
pub made_whole : (h h1 : Contents) (class : Class) (p : ObjId) (props : Props) → class_at (length h.objects) class ≡ class → p.0 < length h.objects
    → h1 ≡ made h (whole_object class (Some p) props) → h1 ≡ with_new_object h (whole_object class (Some p) props)
made_whole h h1 class p props e l m = m ∙ rw (e, there (length h.objects) p l) refl

closed : (h h1 h2 : Contents) (o : Object) (at : ObjId) → at.0 ≡ length h.objects → h1 ≡ with_new_object h o → h2 ≡ close h1 at.0 → h2 ≡ with_new_object h (with_closed o)
closed h h1 h2 o at i m c =
    c ∙ rw (i, m) (ap (λ x. with_object (with_new_object h o) (length h.objects) (with_closed x)) (youngest_at h.objects o) ∙ youngest_becomes h o (with_closed o))

-- a built-in object, from its steps
pub closed_youngest : (h h1 h2 : Contents) (class : Class) (p at : ObjId) (props : Props) → class_at (length h.objects) class ≡ class → p.0 < length h.objects
    → at.0 ≡ length h.objects → h1 ≡ made h (whole_object class (Some p) props) → h2 ≡ close h1 at.0 → h2 ≡ beside h (built class p props ∷ [])
closed_youngest h h1 h2 class p at props e l i m c = closed h h1 h2 (whole_object class (Some p) props) at i (made_whole h h1 class p props e l m) c

-- the youngest object, once it is changed
changed : (h h1 h2 : Contents) (o p : Object) (at : ObjId) → at.0 ≡ length h.objects → h1 ≡ with_new_object h o → h2 ≡ with_object h1 at.0 p → h2 ≡ with_new_object h p
changed h h1 h2 o p at i m c = c ∙ rw (i, m) (youngest_becomes h o p)

-- an array before its second property, and with it
abbrev pub array_start : Object
array_start = new_object Array (Some object_prototype)

abbrev pub array_begun : Object
array_begun = with_method array_start (codes "constructor") built_in.Array

-- it is there when it is made, and when it has its constructor
pub array_made : (h h1 : Contents) (at : ObjId) → 1 < length h.objects → at.0 ≡ length h.objects → h1 ≡ made h array_start → object_at h1.objects at.0 ≡ array_start
array_made h h1 at l i m = rw (i, made_whole h h1 Array object_prototype (first_props Array) refl l m) (youngest_at h.objects array_start)

new_begun : (h h1 h2 : Contents) (at : ObjId) → 1 < length h.objects → at.0 ≡ length h.objects → h1 ≡ made h array_start → h2 ≡ method_given h1 at (codes "constructor") built_in.Array
    → h2 ≡ with_new_object h array_begun
new_begun h h1 h2 at l i m d =
    changed h h1 h2 array_start array_begun at i (made_whole h h1 Array object_prototype (first_props Array) refl l m)
    (d ∙ ap (λ o. with_object h1 at.0 (with_method o (codes "constructor") built_in.Array)) (array_made h h1 at l i m))

pub array_has_begun : (h h1 h2 : Contents) (at : ObjId) → 1 < length h.objects → at.0 ≡ length h.objects → h1 ≡ made h array_start → h2 ≡ method_given h1 at (codes "constructor") built_in.Array
    → object_at h2.objects at.0 ≡ array_begun
array_has_begun h h1 h2 at l i m d = rw (i, new_begun h h1 h2 at l i m d) (youngest_at h.objects array_begun)

pub array_youngest : (h h1 h2 h3 h4 : Contents) (at : ObjId) → 1 < length h.objects → at.0 ≡ length h.objects → h1 ≡ made h array_start
    → h2 ≡ method_given h1 at (codes "constructor") built_in.Array → h3 ≡ methods_given h2 at array_prototype_functions → h4 ≡ close h3 at.0 → h4 ≡ beside h (array_prototype_object ∷ [])
array_youngest h h1 h2 h3 h4 at l i m d e c =
    closed h h3 h4 (with_methods array_begun array_prototype_functions) at i
    (changed h h2 h3 array_begun (with_methods array_begun array_prototype_functions) at i (new_begun h h1 h2 at l i m d)
    (e ∙ ap (λ o. with_object h2 at.0 (with_methods o array_prototype_functions)) (array_has_begun h h1 h2 at l i m d))) c

-- more objects beside those that were pushed
pub then_beside : {A E : Type 0} (r : Result A E) (h h1 h2 : Contents) (os ps : List Object) → h1 ≡ beside h os → OnOk r (h2 ≡ beside h1 ps) → OnOk r (h2 ≡ beside h (os ++ ps))
then_beside (Ok a) h h1 h2 os ps e d = rw e at d ∙ ap (λ l. with_objects h l) (append_assoc h.objects os ps)
then_beside (Err x) h h1 h2 os ps e d = d
