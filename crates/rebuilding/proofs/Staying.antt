-- What stays where objects are made and changed: a page on which the statements of a saved page run remains one.
use Rattle.std.proofs.Common.{◌≡◌, ◌⊎◌, inl, inr, refl, sym, ap, subst, ◌∙◌, ℕ, ◌+◌, ◌-◌, ◌<◌, ◌≤◌, Bool, true, false, not, ◌&&◌, nat_eq, nat_le, nat_lt, List, [], ◌∷◌, Some, None, length, slice_index_or, slice_set, le_refl, le_trans, lt_of_lt_of_le, length-append, length-set, arith}
use Rattle.std.proofs.lemmas.Bool.{and_from, and_parts, eqb-false, le-leb, leb-true, lt-ltb, ltb-false, ltb-true, ne_eqb, not-true, or_parts, cases_lt, eqb-true}
use Rattle.std.proofs.lemmas.List.Sums.{AllPass-from_list_all}
use Rattle.std.specs.List.{list_all}
use Rattle.std.specs.Option.{ForSome}
use Rattle.heap_walker.specs.Things.{is_in}
use Rattle.js_values.specs.declared.ids.ObjId.{ObjId}
use Rattle.object_heap.proofs.Callers.{object_absent, object_before, object_set_other, object_set_same, settled_same, sound_pushed}
use Rattle.object_heap.specs.Chain.{object_at}
use Rattle.object_heap.specs.Heap.{Contents, IsFit, IsSound, with_new_object, with_object}
use Rattle.object_heap.specs.Object.{Object, target_of}
use Rattle.page_meaning.specs.Act.{Ended}
use Rattle.page_meaning.specs.Classes.{is_made}
use Rattle.page_meaning.specs.Places.{window}
use Rattle.page_meaning.specs.Primitives.{make, next_place}
use Rattle.page_meaning.specs.Store.{Store, with_heap}
use Rattle.rebuilding.specs.Running.{Stays}
use Rattle.rebuilding.specs.Scene.{IsDocument, IsHosting, IsRunning, Scene, frame_count, is_site}
use Rattle.object_heap.specs.Laws.{IsSameKind}
use Rattle.object_heap.specs.declared.object.Class.{Class}
use Rattle.object_heap.specs.declared.object.Class.TheVariants as class
use Rattle.page_host.specs.Host.{Host, object_of_node}
use Rattle.page_writer.specs.Frame.{nth_node}
use Rattle.rebuilding.specs.Sites.{site}
use Rattle.object_shapes.specs.Shapes.{IsWindow}
use Rattle.rebuilding.proofs.Basics.{not_in}
use Rattle.page_meaning.specs.Places.{built_in_count, document}
use Rattle.rebuild_plan.specs.Moved.{first_thing}

-- ---- sites

-- a thing may stand at the place
pub record Stands (c : Scene) (h : Contents) (k : ℕ) : Type 0 where
  pub young : frame_count ≤ k
  pub there : k < length h.objects
  pub other : k ≡ c.list → ⊥

pub site_stands : (c : Scene) (h : Contents) (k : ℕ) → is_site c h k ≡ true → Stands c h k
site_stands c h k e =
    let one = and_parts (nat_le frame_count k) (nat_lt k (length h.objects) && not (nat_eq k c.list)) e in
    let two = and_parts (nat_lt k (length h.objects)) (not (nat_eq k c.list)) one.1 in
    record {
      young = leb-true frame_count k one.0;
      there = ltb-true k (length h.objects) two.0;
      other = eqb-false k c.list (not-true (nat_eq k c.list) two.1);
    }

pub stands_site : (c : Scene) (h : Contents) (k : ℕ) → Stands c h k → is_site c h k ≡ true
stands_site c h k s =
    let last : not (nat_eq k c.list) ≡ true = ap not (ne_eqb k c.list s.other) in
    and_from (nat_le frame_count k) (nat_lt k (length h.objects) && not (nat_eq k c.list)) (le-leb frame_count k s.young)
    (and_from (nat_lt k (length h.objects)) (not (nat_eq k c.list)) (lt-ltb k (length h.objects) s.there) last)

site_stays : (c : Scene) (h i : Contents) → length h.objects ≤ length i.objects → (k : ℕ) → is_site c h k ≡ true → is_site c i k ≡ true
site_stays c h i more k e =
    let s = site_stands c h k e in
    stands_site c i k (record { young = s.young; there = lt_of_lt_of_le s.there more; other = s.other })

pub all_through : {X : Type 0} (p q : X → Bool) (xs : List X) → ((x : X) → p x ≡ true → q x ≡ true) → list_all p xs ≡ true → list_all q xs ≡ true
all_through p q [] f h = refl
all_through p q (x ∷ xs) f h =
    let both = and_parts (p x) (list_all p xs) h in
    and_from (q x) (list_all q xs) (f x both.0) (all_through p q xs f both.1)

module _ (c : Scene) (h : Contents) (sites : List ℕ) (r : IsRunning c h sites) where
  -- what is named and not built in is a thing
  pub site_thing : (k : ℕ) → nat_lt k (first_thing + length sites) ≡ true → nat_lt k first_thing ≡ false → Stands c h (site sites k)
  site_thing k below e =
      let there : k - first_thing < length sites = omega
      (arith, ltb-false k first_thing e, ltb-true k (first_thing + length sites) below) in
      let passes : is_site c h (slice_index_or sites (k - first_thing) 0) ≡ true = AllPass-from_list_all (is_site c h) sites r.place.stand
      (k - first_thing) 0 there in
      rw e (site_stands c h (slice_index_or sites (k - first_thing) 0) passes)

  -- what is named stands: it is built in, or a thing
  pub site_place : (k : ℕ) → nat_lt k (first_thing + length sites) ≡ true → (site sites k < first_thing) ⊎ Stands c h (site sites k)
  site_place k below = by (nat_lt k first_thing) refl
    where
      by : (b : Bool) → nat_lt k first_thing ≡ b → (site sites k < first_thing) ⊎ Stands c h (site sites k)
      by true e = rw e (inl (ltb-true k first_thing e))
      by false e = inr (site_thing k below e)

  pub begun_there : (k : ℕ) → k < first_thing → k < length h.objects
  begun_there k low = omega (arith, low, r.place.list_young, r.place.list_there)

  pub low_there : (k : ℕ) → k < built_in_count → k < length h.objects
  low_there k low = begun_there k (omega (arith, low))

  pub place_there : (k : ℕ) → (k < first_thing) ⊎ Stands c h k → k < length h.objects
  place_there k (inl low) = begun_there k low
  place_there k (inr s) = s.there

  pub place_other : (k : ℕ) → (k < first_thing) ⊎ Stands c h k → k ≡ c.list → ⊥
  place_other k (inl low) e = absurd (omega (arith, low, e, r.place.list_young))
  place_other k (inr s) e = s.other e

  pub site_there : (k : ℕ) → nat_lt k (first_thing + length sites) ≡ true → site sites k < length h.objects
  site_there k below = place_there (site sites k) (site_place k below)

  pub window_there : window.0 < length h.objects
  window_there = omega (arith, r.place.list_there)

-- ---- what stays

pub stays_on : (h i j : Contents) (but : List ℕ) → Stays h i [] → Stays i j but → Stays h j but
stays_on h i j but f g = record {
  more = le_trans f.more g.more;
  objects = λ k there other. g.objects k (lt_of_lt_of_le there f.more) other ∙ f.objects k there refl;
  more_environments = le_trans f.more_environments g.more_environments;
  environments = λ k there. g.environments k (lt_of_lt_of_le there f.more_environments) ∙ f.environments k there;
}

pub stays_made : (h : Contents) (o : Object) → Stays h (with_new_object h o) []
stays_made h o = record {
  more = omega (arith, length-append h.objects (o ∷ []));
  objects = λ k there other. object_before h.objects o k there;
  more_environments = le_refl (length h.environments);
  environments = λ k there. refl;
}

other_of : (j k : ℕ) → is_in j (k ∷ []) ≡ false → j ≡ k → ⊥
other_of j k e = eqb-false j k (or_parts (nat_eq j k) false e).0

pub stays_changed : (h : Contents) (k : ℕ) (o : Object) → Stays h (with_object h k o) (k ∷ [])
stays_changed h k o = record {
  more = omega (arith, length-set h.objects k o);
  objects = λ j there e. object_set_other h.objects k j o (other_of j k e);
  more_environments = le_refl (length h.environments);
  environments = λ j there. refl;
}

-- ---- the page

positive : 0 < built_in_count
unfolding built_in_count
positive = omega arith

pub document_there : (c : Scene) (h : Contents) (sites : List ℕ) → IsRunning c h sites → document.0 < length h.objects
document_there c h sites r = begun_there c h sites r document.0 (omega arith)

pub running_on : (c : Scene) (h i : Contents) (sites but : List ℕ) → IsRunning c h sites → IsSound i → Stays h i but
    → IsWindow (object_at i.objects window.0) → IsDocument (object_at i.objects document.0)
    → ((k : ℕ) → 0 < k → k < built_in_count → is_in k but ≡ false) → is_in c.list but ≡ false → IsRunning c i sites
running_on c h i sites but r sound stays rest first low other = record {
  place = record {
    sound = sound;
    list = stays.objects c.list r.place.list_there other ∙ r.place.list;
    list_young = r.place.list_young;
    list_there = lt_of_lt_of_le r.place.list_there stays.more;
    scope = stays.environments c.env r.place.scope_there ∙ r.place.scope;
    scope_there = lt_of_lt_of_le r.place.scope_there stays.more_environments;
    stand = all_through (is_site c h) (is_site c i) sites (site_stays c h i stays.more) r.place.stand;
    rising = r.place.rising;
    few = r.place.few;
  };
  own = record {
    objects = λ k some below. stays.objects k (low_there c h sites r k below) (low k some below) ∙ r.own.objects k some below;
    document = first;
    window = rest;
  };
}

-- where no old object changes
pub running_after : (c : Scene) (h i : Contents) (sites : List ℕ) → IsRunning c h sites → IsSound i → Stays h i [] → IsRunning c i sites
running_after c h i sites r sound stays =
    running_on c h i sites [] r sound stays (subst IsWindow (sym (stays.objects window.0 (window_there c h sites r) refl)) r.own.window)
    (subst IsDocument (sym (stays.objects document.0 (document_there c h sites r) refl)) r.own.document)
    (λ k positive below. refl) refl

-- ---- the host

-- no object becomes one of another kind
pub hosting_on : (h i : Contents) (g : Host) → ((k : ℕ) → k < length h.objects → IsSameKind (object_at i.objects k).class (object_at h.objects k).class)
    → IsHosting h g → IsHosting i g
hosting_on h i g same is = record { sound = is.sound; objects = λ k low. by k low (cases_lt (place k) (length h.objects)); clock = is.clock }
  where
    place : ℕ → ℕ
    place k = (object_of_node g.objects (nth_node k)).0

    one : (k : ℕ) (a b : Class) → IsSameKind a b → b ≡ class.Node (nth_node k) → a ≡ class.Node (nth_node k)
    one k a b (inl e) node = e ∙ node
    one k a b (inr events) node = cc (node, events.1)

    by : (k : ℕ) → k < length g.nodes → (place k < length h.objects) ⊎ (length h.objects ≤ place k)
        → (object_at i.objects (place k)).class ≡ class.Node (nth_node k)
    by k low (inl there) = one k _ _ (same (place k) there) (is.objects k low)
    by k low (inr past) = cc (sym (ap (λ (o : Object). o.class) (object_absent h.objects (place k) past)) ∙ is.objects k low)

pub hosting_stays : (h i : Contents) (g : Host) → Stays h i [] → IsHosting h g → IsHosting i g
hosting_stays h i g stays is = hosting_on h i g (λ k there. inl (ap (λ (o : Object). o.class) (stays.objects k there refl))) is

-- nor does the one that changes
pub hosting_changed : (h i : Contents) (g : Host) (k : ℕ) → Stays h i (k ∷ []) → IsSameKind (object_at i.objects k).class (object_at h.objects k).class
    → IsHosting h g → IsHosting i g
hosting_changed h i g k stays own is = hosting_on h i g (λ j there. by j there (nat_eq j k) refl) is
  where
    by : (j : ℕ) → j < length h.objects → (b : Bool) → nat_eq j k ≡ b → IsSameKind (object_at i.objects j).class (object_at h.objects j).class
    by j there true e = subst (λ m. IsSameKind (object_at i.objects m).class (object_at h.objects m).class) (sym (eqb-true j k e)) own
    by j there false e = inl (ap (λ (o : Object). o.class) (stays.objects j there (not_in j k (eqb-false j k e))))

-- ---- one object more

pub some_below : (p : ObjId) (k : ℕ) → p.0 < k → ForSome (Some p) (λ q. q.0 < k)
some_below p k h q e = let same : p ≡ q = cc e in subst (λ (x : ObjId). x.0 < k) same h

pub none_below : (k : ℕ) → ForSome None (λ (q : ObjId). q.0 < k)
none_below k q e = cc e

pub running_made : (c : Scene) (h : Contents) (sites : List ℕ) (o : Object) → IsRunning c h sites → IsFit o
    → ForSome o.proto (λ p. p.0 < length h.objects)
    → ForSome (target_of o.class) (λ t. t.0 < length h.objects) → IsRunning c (with_new_object h o) sites
running_made c h sites o r fit proto target =
    running_after c h (with_new_object h o) sites r (sound_pushed h r.place.sound o fit proto target) (stays_made h o)

pub made_there : (h : Contents) (o : Object) → length h.objects < length (with_new_object h o).objects
made_there h o = omega (arith, length-append h.objects (o ∷ []))

-- the act that makes it
pub make_run : (o : Object) (fit : IsFit o) (made : is_made o.class ≡ true) (s : Store) (n : ℕ) → ForSome o.proto (λ p. p.0 < length s.heap.objects)
    → ForSome (target_of o.class) (λ t. t.0 < length s.heap.objects)
    → (make o fit made).run s n ≡ Ended (next_place s.heap) (with_heap s (with_new_object s.heap o)) n
make_run o fit made s n proto target =
    ap (λ x. Ended (next_place s.heap) (with_heap s (with_new_object s.heap x)) n) (settled_same (length s.heap.objects) o proto target)

-- ---- an object that changes

-- an old object may change that is a thing, or the global object or the document's, which stay at rest
abbrev pub MayChange : ℕ → Object → Type 0
MayChange k o = (frame_count ≤ k) ⊎ (((k ≡ window.0) × IsWindow o) ⊎ ((k ≡ document.0) × IsDocument o))

pub running_changed : (c : Scene) (h : Contents) (sites : List ℕ) (k : ℕ) (o : Object) → IsRunning c h sites → IsSound (with_object h k o)
    → k < length h.objects
    → (k ≡ c.list → ⊥) → MayChange k o → IsRunning c (with_object h k o) sites
running_changed c h sites k o r sound there other who = by who
  where
    on : IsWindow (object_at (slice_set h.objects k o) window.0) → IsDocument (object_at (slice_set h.objects k o) document.0)
        → ((j : ℕ) → 0 < j → j < built_in_count → j ≡ k → ⊥) → IsRunning c (with_object h k o) sites
    on rest first apart =
        running_on c h (with_object h k o) sites (k ∷ []) r sound (stays_changed h k o) rest first
        (λ j above below. not_in j k (apart j above below)) (not_in c.list k (λ e. other (sym e)))

    window_kept : (window.0 ≡ k → ⊥) → IsWindow (object_at (slice_set h.objects k o) window.0)
    window_kept apart = subst IsWindow (sym (object_set_other h.objects k window.0 o apart)) r.own.window

    document_kept : (document.0 ≡ k → ⊥) → IsDocument (object_at (slice_set h.objects k o) document.0)
    document_kept apart = subst IsDocument (sym (object_set_other h.objects k document.0 o apart)) r.own.document

    by : MayChange k o → IsRunning c (with_object h k o) sites
    by (inl young) =
        on (window_kept (λ e. omega (arith, e, young, positive))) (document_kept (λ e. omega (arith, e, young)))
        (λ j above below e. omega (arith, e, young, below))
    by (inr (inl rest)) =
        on (subst (λ j. IsWindow (object_at (slice_set h.objects k o) j)) rest.0 (subst IsWindow (sym (object_set_same h.objects k o there)) rest.1))
        (document_kept (λ e. omega (arith, e, rest.0, positive))) (λ j above below e. omega (arith, e, above, rest.0))
    by (inr (inr rest)) =
        on (window_kept (λ e. omega (arith, e, rest.0, positive)))
        (subst (λ j. IsDocument (object_at (slice_set h.objects k o) j)) rest.0 (subst IsDocument (sym (object_set_same h.objects k o there)) rest.1))
        (λ j above below e. omega (arith, e, below, rest.0))
