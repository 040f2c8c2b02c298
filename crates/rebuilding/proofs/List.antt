-- The list of a running scene: what it has at a number, and one thing more at its end.
use Rattle.std.proofs.Common.{◌≡◌, ◌⊎◌, inl, inr, refl, sym, ap, ap₂, subst, ◌∙◌, ℕ, zero, suc, ◌+◌, ◌<◌, ◌≤◌, true, ◌&&◌, not, List, [], ◌∷◌, ◌++◌, Option, Some, None, length, slice_index, slice_index_or, slice_set, nat_le, nat_lt, nat_eq, bytes_eq, length-append, length-set, arith}
use Rattle.std.proofs.lemmas.Bool.{and_from, cases_lt, cond-false, cond-true, le-ltb, ltb-true}
use Rattle.std.proofs.lemmas.List.{get_or_append_left, get_or_push}
use Rattle.std.proofs.lemmas.List.Folds.{list_all-append}
use Rattle.std.proofs.lemmas.List.Sums.{AllPass-from_list_all}
use Rattle.std.proofs.lemmas.Option.{same_Some}
use Rattle.std.specs.Fmt.{decimal}
use Rattle.std.specs.List.{list_all}
use Rattle.std.specs.List.Sorted.{IsStrictlyIncreasing}
use Rattle.js_values.specs.declared.throw.Throw.TheVariants.{CannotSet}
use Rattle.js_values.specs.declared.value.Value.TheVariants.{Object as Reference}
use Rattle.object_heap.proofs.Callers.{object_set_other, object_set_same, property_on, sound_put}
use Rattle.object_heap.specs.Array.{IsArray, IsProper}
use Rattle.object_heap.specs.Attempt.{Attempt, done}
use Rattle.object_heap.specs.Chain.{can_put, first_found, get_property, inherited_by, may_put, object_at}
use Rattle.object_heap.specs.Define.{define, define_indexed, define_ordinary, defined_over, grown, length_name, number_in, put_change, put_own, whole_property}
use Rattle.object_heap.specs.Heap.{Contents, IsSound, at_object, put, with_object}
use Rattle.object_heap.specs.Index.{index_end, index_of}
use Rattle.object_heap.specs.Object.{Object, whole_object, with_closed}
use Rattle.object_heap.specs.Property.{Props, own_property}
use Rattle.object_heap.specs.declared.object.Class.TheVariants as class
use Rattle.object_heap.specs.declared.property.Prop.{Prop}
use Rattle.page_meaning.specs.Descriptors.{open_property}
use Rattle.page_meaning.specs.Places.{array_prototype, array_prototype_place, at_place, object_prototype, window}
use Rattle.page_meaning.specs.Pristine.{array_prototype_props, built, object_prototype_props}
use Rattle.rebuilding.specs.Scene.{IsDocument, IsRunning, Scene, elements, frame_count, is_site, list_length, list_of}
use Rattle.rebuilding.proofs.Indices.{are_named, decimal_not_length, decimal_other, decimal_same, index_of_decimal, no_index_among}
use Rattle.object_shapes.specs.Shapes.{IsWindow, built_in_at}
use Rattle.page_meaning.specs.Places.{built_in_count, document}
use Rattle.object_shapes.specs.Links.{all_below}

-- ---- elements

element_at : (m j i : ℕ) (ks : List ℕ) → j ≡ m + i → m + length ks ≤ index_end → i < length ks
    → own_property (elements m ks) (decimal j) ≡ Some (open_property (Reference (at_place (slice_index_or ks i 0))))
element_at m j i [] at small h = absurd (omega (arith, h))
element_at m j zero (k ∷ ks) at small h = cond-true (bytes_eq (decimal j) (decimal m)) _ _ (decimal_same j m (omega (arith, at)))
element_at m j (suc i) (k ∷ ks) at small h =
    cond-false (bytes_eq (decimal j) (decimal m)) _ _
    (decimal_other j m (omega (arith, at, small, h)) (omega (arith, small, h)) (λ e. omega (arith, at, e)))
    ∙ element_at (suc m) j i ks (omega (arith, at)) (omega (arith, small)) (omega (arith, h))

element_past : (m j : ℕ) (ks : List ℕ) → m + length ks ≤ j → j < index_end → own_property (elements m ks) (decimal j) ≡ None
element_past m j [] past small = refl
element_past m j (k ∷ ks) past small =
    cond-false (bytes_eq (decimal j) (decimal m)) _ _ (decimal_other j m small (omega (arith, past, small)) (λ e. omega (arith, past, e)))
    ∙ element_past (suc m) j ks (omega (arith, past)) small

elements_last : (m j : ℕ) (ks : List ℕ) (k : ℕ) → j ≡ m + length ks
    → elements m (ks ++ k ∷ []) ≡ elements m ks ++ (decimal j, open_property (Reference (at_place k))) ∷ []
elements_last m j [] k at =
    let same : m ≡ j = omega (arith, at) in
    ap (λ i. (decimal i, open_property (Reference (at_place k))) ∷ []) same
elements_last m j (q ∷ ks) k at =
    ap (λ es. (decimal m, open_property (Reference (at_place q))) ∷ es) (elements_last (suc m) j ks k (omega (arith, at)))

-- ---- one more element of the list as an object

list_past : (sites : List ℕ) (n : ℕ) → n ≡ length sites → n < index_end → own_property (list_of sites).props (decimal n) ≡ None
list_past sites n is small =
    cond-false (bytes_eq (decimal n) length_name) _ _ (decimal_not_length n small) ∙ element_past 0 n sites (omega (arith, is)) small

list_put : (sites : List ℕ) (n k : ℕ) → n ≡ length sites → n < index_end
    → put_own true (list_of sites) (decimal n) (Reference (at_place k)) ≡ done (list_of (sites ++ k ∷ []))
list_put sites n k is small =
    let o : Object = list_of sites in
    let v = Reference (at_place k) in
    let none = list_past sites n is small in
    let long : n + 1 ≡ length (sites ++ k ∷ []) = omega (arith, is, length-append sites (k ∷ [])) in
    ap (λ (p : Option Prop). define CannotSet o (decimal n) (put_change v p)) none
    ∙ cond-false (bytes_eq (decimal n) length_name) _ (define_indexed CannotSet o (decimal n) (whole_property v) (index_of (decimal n)))
    (decimal_not_length n small)
    ∙ ap (define_indexed CannotSet o (decimal n) (whole_property v)) (index_of_decimal n small)
    ∙ cond-false (nat_lt n (length sites)) _ (grown (n + 1) (define_ordinary CannotSet o (decimal n) (whole_property v)))
    (le-ltb n (length sites) (omega (arith, is)))
    ∙ ap (λ (p : Option Prop). grown (n + 1) (defined_over CannotSet o (decimal n) (whole_property v) p)) none
    ∙ ap (λ (es : Props). done (whole_object class.List (Some array_prototype) ((length_name, list_length (n + 1)) ∷ es)))
    (sym (elements_last 0 n sites k (omega (arith, is))))
    ∙ ap (λ m. done (whole_object class.List (Some array_prototype) ((length_name, list_length m) ∷ elements 0 (sites ++ k ∷ [])))) long

-- ---- the prototypes of the list

array_prototype_is : built_in_at array_prototype_place ≡ built class.List object_prototype array_prototype_props
unfolding array_prototype_place
array_prototype_is = refl

object_prototype_is : built_in_at object_prototype.0 ≡ with_closed (whole_object class.Plain None object_prototype_props)
object_prototype_is = refl

array_prototype_named : are_named array_prototype_props ≡ true
array_prototype_named = refl

object_prototype_named : are_named object_prototype_props ≡ true
object_prototype_named = refl

array_prototype_built_in : (0 < array_prototype_place) × (array_prototype_place < built_in_count)
unfolding array_prototype_place built_in_count
array_prototype_built_in = (omega arith, omega arith)

object_prototype_built_in : object_prototype.0 < built_in_count
unfolding built_in_count
object_prototype_built_in = omega arith

pub window_built_in : window.0 < built_in_count
unfolding built_in_count
window_built_in = omega arith

-- ---- the list in the heap

-- the heap, in whose list these things stand and one more
abbrev pub with_thing : Scene → Contents → List ℕ → ℕ → Contents
with_thing c h sites k = with_object h c.list (list_of (sites ++ k ∷ []))

module _ (c : Scene) (h : Contents) (sites : List ℕ) (r : IsRunning c h sites) where
  -- an array has so many elements at most
  pub sites_few : length sites ≤ index_end
  sites_few =
      let array : IsArray (list_of sites).props = subst (λ (o : Object). IsProper o) r.place.list (r.place.sound.arrays c.list) refl in
      subst (λ (p : Prop). number_in p.value ≤ index_end)
      (sym (same_Some (list_length (length sites)) array.length array.there)) array.is_length.small

  pub element_found : (i : ℕ) → i < length sites
      → get_property h.objects c.list (decimal i) ≡ Some (open_property (Reference (at_place (slice_index_or sites i 0))))
  element_found i inside =
      let small : i < index_end = omega (arith, inside, sites_few) in
      let name : List ℕ = decimal i in
      let own = cond-false (bytes_eq name length_name) _ _ (decimal_not_length i small)
      ∙ element_at 0 i i sites (omega arith) (omega (arith, sites_few)) inside in
      property_on h.objects c.list name r.place.sound.prototypes
      ∙ ap (λ (o : Object). first_found (own_property o.props name) o.proto (λ q. get_property h.objects q name)) r.place.list
      ∙ ap (λ (p : Option Prop). first_found p (Some array_prototype) (λ q. get_property h.objects q name)) own

  -- the prototypes have no element
  none_above_arrays : (n : ℕ) → n < index_end → get_property h.objects object_prototype.0 (decimal n) ≡ None
  none_above_arrays n small =
      property_on h.objects object_prototype.0 (decimal n) r.place.sound.prototypes
      ∙ ap (λ (o : Object). first_found (own_property o.props (decimal n)) o.proto (λ q. get_property h.objects q (decimal n)))
      (r.own.objects object_prototype.0 (omega arith) object_prototype_built_in ∙ object_prototype_is)
      ∙ ap (λ (p : Option Prop). first_found p None (λ q. get_property h.objects q (decimal n)))
      (no_index_among object_prototype_props n small object_prototype_named)

  none_inherited : (n : ℕ) → n < index_end → get_property h.objects array_prototype_place (decimal n) ≡ None
  none_inherited n small =
      property_on h.objects array_prototype_place (decimal n) r.place.sound.prototypes
      ∙ ap (λ (o : Object). first_found (own_property o.props (decimal n)) o.proto (λ q. get_property h.objects q (decimal n)))
      (r.own.objects array_prototype_place array_prototype_built_in.0 array_prototype_built_in.1 ∙ array_prototype_is)
      ∙ ap (λ (p : Option Prop). first_found p (Some object_prototype) (λ q. get_property h.objects q (decimal n)))
      (no_index_among array_prototype_props n small array_prototype_named)
      ∙ none_above_arrays n small

  list_can_put : (n : ℕ) → n ≡ length sites → n < index_end → can_put h.objects c.list (decimal n) ≡ true
  unfolding can_put
  list_can_put n is small =
      ap (λ (o : Object). may_put o.extensible (own_property o.props (decimal n)) (inherited_by h.objects o.proto (decimal n))) r.place.list
      ∙ ap₂ (may_put true) (list_past sites n is small) (none_inherited n small)

  pub thing_put_in : (n k : ℕ) → n ≡ length sites → n < index_end → put h c.list (decimal n) (Reference (at_place k)) ≡ done (with_thing c h sites k)
  unfolding put
  thing_put_in n k is small =
      ap (λ b. at_object h c.list (put_own b (object_at h.objects c.list) (decimal n) (Reference (at_place k)))) (list_can_put n is small)
      ∙ ap (λ (o : Object). at_object h c.list (put_own true o (decimal n) (Reference (at_place k)))) r.place.list
      ∙ ap (at_object h c.list) (list_put sites n k is small)

  -- ---- the scene goes on

  rising_on : (k : ℕ) → all_below k sites ≡ true → IsStrictlyIncreasing (sites ++ k ∷ [])
  rising_on k below i there = by (cases_lt (i + 1) (length sites))
    where
      long : length (sites ++ k ∷ []) ≡ length sites + 1
      long = length-append sites (k ∷ [])

      by : (i + 1 < length sites) ⊎ (length sites ≤ i + 1) → slice_index (sites ++ k ∷ []) i < slice_index (sites ++ k ∷ []) (i + 1)
      by (inl early) =
          let one : slice_index (sites ++ k ∷ []) i ≡ slice_index sites i = get_or_append_left sites (k ∷ []) 0 i (omega (arith, early)) in
          let two : slice_index (sites ++ k ∷ []) (i + 1) ≡ slice_index sites (i + 1) = get_or_append_left sites (k ∷ []) 0 (i + 1) early in
          omega (arith, one, two, r.place.rising i early)
      by (inr last) =
          let end : length sites ≡ i + 1 = omega (arith, last, there, long) in
          let one : slice_index (sites ++ k ∷ []) i ≡ slice_index sites i = get_or_append_left sites (k ∷ []) 0 i (omega (arith, end)) in
          let two : slice_index (sites ++ k ∷ []) (i + 1) ≡ k = get_or_push sites k 0 (i + 1) end in
          let low : slice_index sites i < k = ltb-true (slice_index sites i) k
          (AllPass-from_list_all (λ j. nat_lt j k) sites below i 0 (omega (arith, end))) in
          omega (arith, one, two, low)

  sites_on : (k : ℕ) → is_site c h k ≡ true → list_all (is_site c (with_thing c h sites k)) (sites ++ k ∷ []) ≡ true
  sites_on k site =
      let all : list_all (is_site c h) (sites ++ k ∷ []) ≡ true =
      list_all-append (is_site c h) sites (k ∷ [])
      ∙ and_from (list_all (is_site c h) sites) (list_all (is_site c h) (k ∷ [])) r.place.stand (and_from (is_site c h k) true site refl)
      in
      subst (λ n. list_all (λ j. nat_le frame_count j && (nat_lt j n && not (nat_eq j c.list))) (sites ++ k ∷ []) ≡ true)
      (sym (length-set h.objects c.list (list_of (sites ++ k ∷ [])))) all

  pub list_grown : (k : ℕ) → length sites < index_end → is_site c h k ≡ true → all_below k sites ≡ true
      → IsRunning c (with_thing c h sites k) (sites ++ k ∷ [])
  list_grown k few site below =
      let o : Object = list_of (sites ++ k ∷ []) in
      let long : length (slice_set h.objects c.list o) ≡ length h.objects = length-set h.objects c.list o in
      record {
        place = record {
          sound = subst IsSound (ap (λ (a : Attempt Contents). a.after) (thing_put_in (length sites) k refl few))
              (sound_put h r.place.sound c.list (decimal (length sites)) (Reference (at_place k)));
          list = object_set_same h.objects c.list o r.place.list_there;
          list_young = r.place.list_young;
          list_there = subst (λ n. c.list < n) (sym long) r.place.list_there;
          scope = r.place.scope;
          scope_there = r.place.scope_there;
          stand = sites_on k site;
          rising = rising_on k below;
          few = omega (arith, few, length-append sites (k ∷ []));
        };
        own = record {
          objects = λ j some low. object_set_other h.objects c.list j o (λ e. omega (arith, e, low, r.place.list_young)) ∙ r.own.objects j some low;
          document = subst IsDocument (sym (object_set_other h.objects c.list document.0 o (λ e. omega (arith, e, r.place.list_young)))) r.own.document;
          window = subst IsWindow
              (sym (object_set_other h.objects c.list window.0 o (λ e. omega (arith, e, window_built_in, r.place.list_young)))) r.own.window;
        };
      }
