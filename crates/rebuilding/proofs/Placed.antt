-- Where what a plan names stands: built-in objects keep their places, and a thing that was made keeps its site.
use Rattle.std.proofs.Common.{◌≡◌, refl, sym, ap, ◌∙◌, ℕ, zero, suc, ◌+◌, ◌-◌, ◌<◌, ◌≤◌, Bool, true, false, nat_eq, nat_lt, List, [], ◌∷◌, ◌++◌, Option, Some, None, length, arith}
use Rattle.std.proofs.Math.ListN.{get_or-append}
use Rattle.std.proofs.Math.Seq.{get_or-append_seam}
use Rattle.std.proofs.lemmas.Bool.{eq-eqb, eqb-true, le-ltb, lt-ltb, ltb-false, ltb-true, and_parts}
use Rattle.std.proofs.lemmas.List.Folds.{list_all-append, list_any_at}
use Rattle.std.proofs.lemmas.List.Quantifiers.{position-Some}
use Rattle.std.specs.List.{list_all, position}
use Rattle.heap_walker.specs.Things.{IsWalk, is_in, needs_links}
use Rattle.js_values.specs.declared.ids.ObjId.{ObjId}
use Rattle.js_values.specs.declared.throw.ErrorKind.{ErrorKind}
use Rattle.js_values.specs.declared.throw.ErrorKind.TheVariants as kind
use Rattle.js_values.specs.declared.value.Value.{Value}
use Rattle.js_values.specs.declared.value.Value.TheVariants as value
use Rattle.object_heap.specs.Chain.{object_at}
use Rattle.object_heap.specs.Object.{Object, no_object}
use Rattle.page_meaning.specs.Places.{array_prototype_place, error_prototype, error_prototype_place, event_prototype, event_prototype_place, function_prototype, node_prototype, node_prototype_place, range_error_prototype_place, reference_error_prototype_place, type_error_prototype_place}
use Rattle.page_meaning.specs.Store.{Store}
use Rattle.rebuild_plan.specs.Compact.{moved_proto, place_of, placed}
use Rattle.heap_walker.proofs.Callers.{thing_of}
use Rattle.rebuild_plan.proofs.Callers as plan
use Rattle.rebuild_plan.specs.Moved.{first_thing}
use Rattle.rebuilding.specs.Rebuilt.{nth}
use Rattle.rebuilding.specs.Sites.{site, sited_needs, sited_proto, sited_value, sited_values}
use Rattle.page_meaning.specs.Places.{built_in_count}
use Rattle.object_shapes.specs.Links.{is_thing, proto_links, value_links, values_links, all_below}

-- ---- lists

pub at_or : (p : Object → Bool) (os : List Object) (k : ℕ) → list_all p os ≡ true → p no_object ≡ true → p (object_at os k) ≡ true
at_or p [] k all none = none
at_or p (o ∷ os) zero all none = (and_parts _ _ all).0
at_or p (o ∷ os) (suc k) all none = at_or p os k (and_parts _ _ all).1 none

-- ---- places

pub some_built_in : 0 < built_in_count
unfolding built_in_count
some_built_in = omega arith

pub array_low : array_prototype_place < built_in_count
unfolding array_prototype_place built_in_count
array_low = omega arith

pub function_low : function_prototype.0 < built_in_count
unfolding built_in_count
function_low = omega arith

pub node_low : node_prototype.0 < built_in_count
unfolding node_prototype_place built_in_count
node_low = omega arith

pub event_low : event_prototype.0 < built_in_count
unfolding event_prototype_place built_in_count
event_low = omega arith

pub error_low : (k : ErrorKind) → (error_prototype k).0 < built_in_count
unfolding error_prototype_place range_error_prototype_place reference_error_prototype_place type_error_prototype_place built_in_count
error_low kind.Plain = omega arith
error_low kind.Type = omega arith
error_low kind.Range = omega arith
error_low kind.Reference = omega arith

pub place_in : (things : List ℕ) (i : ℕ) → i < length things → is_in (nth things i) things ≡ true
place_in things i inside = list_any_at (nat_eq (nth things i)) things i 0 inside (eq-eqb (nth things i) (nth things i) refl)

pub is_thing_at : (s : Store) (things : List ℕ) (i : ℕ) → IsWalk s things → i < length things → is_thing s (nth things i) ≡ true
is_thing_at s things i walk inside = thing_of s (nth things i) (walk.sound (nth things i) (place_in things i inside))

-- each of these is a thing's
abbrev pub AreYoung : List ℕ → Type 0
AreYoung ks = (n : ℕ) → n < length ks → first_thing ≤ nth ks n

-- a thing is younger than what a page begins with, and there
pub thing_inside : (s : Store) (k : ℕ) → is_thing s k ≡ true → (first_thing ≤ k) × (k < length s.heap.objects)
thing_inside s k thing =
    let parts = and_parts (nat_lt built_in_count k) (nat_lt k (length s.heap.objects)) thing in
    let past : built_in_count < k = ltb-true built_in_count k parts.0 in
    (omega (arith, past), ltb-true k (length s.heap.objects) parts.1)

pub young_walk : (s : Store) (things : List ℕ) → IsWalk s things → AreYoung things
young_walk s things walk n inside = (thing_inside s (nth things n) (is_thing_at s things n walk inside)).0

-- what is built in keeps its place, and so does the document
pub place_low : (ks : List ℕ) (k : ℕ) → AreYoung ks → k < first_thing → place_of ks k ≡ k
place_low ks k young low = by (position (nat_eq k) ks) refl
  where
    by : (o : Option ℕ) → position (nat_eq k) ks ≡ o → place_of ks k ≡ k
    by None is = ap (placed k) is
    by (Some i) is =
        let found = position-Some (nat_eq k) ks i 0 is in
        absurd (omega (arith, low, young i found.0, eqb-true k (nth ks i) found.1))

pub place_built_in : (s : Store) (things : List ℕ) (k : ℕ) → IsWalk s things → k < built_in_count → place_of things k ≡ k
place_built_in s things k walk low = place_low things k (young_walk s things walk) (omega (arith, low))

-- the place of a thing, which has this number
pub number_at : (things : List ℕ) (k : ℕ) → is_in k things ≡ true
    → (i : ℕ) × (place_of things k ≡ first_thing + i) × (i < length things) × (nth things i ≡ k)
number_at things k h = let m = plan.number_at things k h in (m.0, ap (placed k) m.1, m.2, m.3)

-- ---- sites

pub site_low : (sites : List ℕ) (k : ℕ) → k < first_thing → site sites k ≡ k
site_low sites k low = rw (lt-ltb k first_thing low) refl

pub site_built_in : (sites : List ℕ) (k : ℕ) → k < built_in_count → site sites k ≡ k
site_built_in sites k low = site_low sites k (omega (arith, low))

pub site_thing : (sites : List ℕ) (n : ℕ) → site sites (first_thing + n) ≡ nth sites n
site_thing sites n =
    let high : nat_lt (first_thing + n) first_thing ≡ false = le-ltb (first_thing + n) first_thing (omega arith) in
    let back : (first_thing + n) - first_thing ≡ n = omega arith in
    rw high (ap (nth sites) back)

pub nth_more : (sites : List ℕ) (place j : ℕ) → j < length sites → nth (sites ++ place ∷ []) j ≡ nth sites j
nth_more sites place j inside = get_or-append sites (place ∷ []) 0 j inside

pub nth_last : (sites : List ℕ) (place : ℕ) → nth (sites ++ place ∷ []) (length sites) ≡ place
nth_last sites place = get_or-append_seam sites place [] 0

-- what stands stays where it is when one more thing is made
pub site_more : (sites : List ℕ) (place k : ℕ) → k < first_thing + length sites → site (sites ++ place ∷ []) k ≡ site sites k
site_more sites place k stands = by (nat_lt k first_thing) refl
  where
    by : (b : Bool) → nat_lt k first_thing ≡ b → site (sites ++ place ∷ []) k ≡ site sites k
    by true low = rw low refl
    by false high =
        let past : first_thing ≤ k = ltb-false k first_thing high in
        rw high (nth_more sites place (k - first_thing) (omega (arith, past, stands)))

-- a built-in prototype is that of the rebuilt object
pub proto_built_in : (s : Store) (things sites : List ℕ) (k : ℕ) → IsWalk s things → k < built_in_count
    → sited_proto sites (moved_proto things (Some (record { 0 = k }))) ≡ Some (record { 0 = k })
proto_built_in s things sites k walk low =
    ap (λ n. Some (record { 0 = n })) (ap (site sites) (place_built_in s things k walk low) ∙ site_built_in sites k low)

-- ---- what refers to what stands stays

module _ (sites : List ℕ) (place : ℕ) where
  abbrev stand : List ℕ → Bool
  stand ks = all_below (first_thing + length sites) ks

  abbrev after : List ℕ
  after = sites ++ place ∷ []

  pub site_stays : (k : ℕ) → nat_lt k (first_thing + length sites) ≡ true → site after k ≡ site sites k
  site_stays k h = site_more sites place k (ltb-true k (first_thing + length sites) h)

  pub value_stays : (v : Value) → stand (value_links v) ≡ true → sited_value after v ≡ sited_value sites v
  value_stays (value.Object at) h = ap (λ n. value.Object (record { 0 = n })) (site_stays at.0 (and_parts _ _ h).0)
  value_stays value.Undefined h = refl
  value_stays value.Null h = refl
  value_stays (value.Bool b) h = refl
  value_stays (value.Num n) h = refl
  value_stays (value.Text t) h = refl

  pub values_stay : (vs : List Value) → stand (values_links vs) ≡ true → sited_values after vs ≡ sited_values sites vs
  values_stay [] h = refl
  values_stay (v ∷ vs) h =
      let split = sym (list_all-append (λ k. nat_lt k (first_thing + length sites)) (value_links v) (values_links vs)) ∙ h in
      let here = value_stays v (and_parts _ _ split).0 in
      let others = values_stay vs (and_parts _ _ split).1 in
      (λ i. here i ∷ others i)

  pub needs_stay : (ns : List (List ℕ × Value)) → stand (needs_links ns) ≡ true → sited_needs after ns ≡ sited_needs sites ns
  needs_stay [] h = refl
  needs_stay (n ∷ ns) h =
      let split = sym (list_all-append (λ k. nat_lt k (first_thing + length sites)) (value_links n.1) (needs_links ns)) ∙ h in
      let here = value_stays n.1 (and_parts _ _ split).0 in
      let others = needs_stay ns (and_parts _ _ split).1 in
      (λ i. (n.0, here i) ∷ others i)

  pub proto_stays : (proto : Option ObjId) → stand (proto_links proto) ≡ true → sited_proto after proto ≡ sited_proto sites proto
  proto_stays None h = refl
  proto_stays (Some at) h = ap (λ n. Some (record { 0 = n })) (site_stays at.0 (and_parts _ _ h).0)
