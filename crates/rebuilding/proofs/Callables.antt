-- Functions that listeners and timers call: their counterparts stand, can be called, and are as many.
use Rattle.std.proofs.Common.{◌≡◌, ◌⊎◌, inl, inr, refl, sym, ap, ◌∙◌, ℕ, ◌+◌, ◌<◌, ◌≤◌, true, false, List, [], ◌∷◌, length, arith}
use Rattle.std.proofs.lemmas.Bool.{and_from, cases_eq, cases_lt, lt-ltb}
use Rattle.heap_walker.specs.Still.{Still}
use Rattle.heap_walker.specs.Things.{IsWalk, is_in}
use Rattle.object_heap.specs.Chain.{object_at}
use Rattle.object_heap.specs.Environment.{Environment}
use Rattle.object_heap.specs.Heap.{Contents}
use Rattle.object_heap.specs.Object.{Object}
use Rattle.object_heap.specs.declared.object.Class.{Class}
use Rattle.page_meaning.specs.Classes.{is_callable_class}
use Rattle.page_meaning.specs.Places.{built_in_count, document}
use Rattle.page_meaning.specs.Store.{Store}
use Rattle.page_writer.specs.Frame.{nth_node}
use Rattle.object_heap.specs.declared.object.Class.TheVariants as class
use Rattle.rebuild_plan.specs.Moved.{first_thing, place_of}
use Rattle.rebuilding.specs.Rebuilt.{ClassIsRebuilt, bound, event, fault, list, node, nth, page, plain}
use Rattle.rebuilding.specs.Running.{Stand}
use Rattle.rebuilding.specs.Scene.{IsRunning, Scene}
use Rattle.rebuilding.specs.Sites.{site}
use Rattle.rebuilding.proofs.Known.{IsKnown}
use Rattle.rebuilding.proofs.Naming.{site_of_built_in}
use Rattle.rebuilding.proofs.Placed.{number_at, place_low, site_thing, young_walk}
use Rattle.rebuilding.proofs.SitesApart.{site_there, sites_differ}

-- a class keeps whether it can be called
class_callable : {c : Scene} {es : List Environment} {s : Store} {things sites : List ℕ} {k : ℕ} {C D : Class} → ClassIsRebuilt c es s things sites k C D
    → is_callable_class D ≡ is_callable_class C
class_callable plain = refl
class_callable list = refl
class_callable fault = refl
class_callable (page round) = refl
class_callable bound = refl
class_callable node = refl
class_callable event = refl

module _ (c : Scene) (h : Contents) (s : Store) (things sites : List ℕ) (running : IsRunning c h sites) (count : length sites ≡ length things)
    (still : Still s) (walk : IsWalk s things)
    (document_class : (object_at s.heap.objects document.0).class ≡ class.Node (nth_node 0))
    (classes : (n : ℕ) → n < length things
    → ClassIsRebuilt c h.environments s things sites (nth sites n) (object_at s.heap.objects (nth things n)).class (object_at h.objects (nth sites n)).class) where
  abbrev spot : ℕ → ℕ
  spot x = site sites (place_of things x)

  low_spot : (x : ℕ) → x < first_thing → spot x ≡ x
  low_spot x low = site_of_built_in things sites x low (young_walk s things walk)

  -- the site of a thing with its number
  thing_spot : (x : ℕ) → is_in x things ≡ true → (i : ℕ) × (spot x ≡ nth sites i) × (i < length things) × (nth things i ≡ x)
  thing_spot x among = let i = number_at things x among in (i.0, ap (site sites) i.1 ∙ site_thing sites i.0, i.2, i.3)

  -- it stands
  pub known_stands : (x : ℕ) → IsKnown things x → Stand sites (place_of things x ∷ [])
  known_stands x (inl low) =
      and_from _ _ (lt-ltb (place_of things x) (first_thing + length sites) (omega (arith, place_low things x (young_walk s things walk) low, low))) refl
  known_stands x (inr among) =
      let i = number_at things x among in
      and_from _ _ (lt-ltb (place_of things x) (first_thing + length sites) (omega (arith, i.1, i.2, count))) refl

  -- it can be called
  pub known_callable : (x : ℕ) → IsKnown things x → is_callable_class (object_at s.heap.objects x).class ≡ true
      → is_callable_class (object_at h.objects (spot x)).class ≡ true
  known_callable x (inr among) is =
      let i = thing_spot x among in
      ap (λ k. is_callable_class (object_at h.objects k).class) i.1 ∙ class_callable (classes i.0 i.2)
      ∙ ap (λ k. is_callable_class (object_at s.heap.objects k).class) i.3 ∙ is
  known_callable x (inl low) is = ap (λ k. is_callable_class (object_at h.objects k).class) (low_spot x low) ∙ by (cases_eq x 0) (cases_lt x built_in_count)
    where
      nothing : (C : Class) → is_callable_class C ≡ false → (object_at s.heap.objects x).class ≡ C → is_callable_class (object_at h.objects x).class ≡ true
      nothing C none e = let bad : false ≡ true = sym none ∙ sym (ap is_callable_class e) ∙ is in absurd (cc)

      by : (x ≡ 0) ⊎ (x ≡ 0 → ⊥) → (x < built_in_count) ⊎ (built_in_count ≤ x) → is_callable_class (object_at h.objects x).class ≡ true
      by (inl first) place = nothing class.Window refl (ap (λ k. (object_at s.heap.objects k).class) first ∙ still.shaped.window.class)
      by (inr other) (inl built) =
          ap (λ (o : Object). is_callable_class o.class) (running.own.objects x (omega (arith, other)) built ∙ sym (still.shaped.built_ins x (omega (arith, other)) built)) ∙ is
      by (inr other) (inr past) =
          let last : x ≡ document.0 = omega (arith, low, past) in
          nothing (class.Node (nth_node 0)) refl (ap (λ k. (object_at s.heap.objects k).class) last ∙ document_class)

  -- two have two counterparts
  pub known_apart : (x y : ℕ) → IsKnown things x → IsKnown things y → spot x ≡ spot y → x ≡ y
  known_apart x y (inl a) (inl b) same = sym (low_spot x a) ∙ same ∙ low_spot y b
  known_apart x y (inl a) (inr b) same =
      let j = thing_spot y b in
      absurd (omega (arith, a, low_spot x a, same, j.1, (site_there c h sites j.0 running (omega (arith, j.2, count))).0))
  known_apart x y (inr a) (inl b) same =
      let i = thing_spot x a in
      absurd (omega (arith, b, low_spot y b, same, i.1, (site_there c h sites i.0 running (omega (arith, i.2, count))).0))
  known_apart x y (inr a) (inr b) same = by (cases_eq i.0 j.0)
    where
      i : (n : ℕ) × (spot x ≡ nth sites n) × (n < length things) × (nth things n ≡ x)
      i = thing_spot x a

      j : (n : ℕ) × (spot y ≡ nth sites n) × (n < length things) × (nth things n ≡ y)
      j = thing_spot y b

      by : (i.0 ≡ j.0) ⊎ (i.0 ≡ j.0 → ⊥) → x ≡ y
      by (inl e) = sym i.3 ∙ ap (nth things) e ∙ j.3
      by (inr other) =
          absurd (sites_differ sites i.0 j.0 running.place.rising (omega (arith, i.2, count)) (omega (arith, j.2, count)) other (sym i.1 ∙ same ∙ j.1))
