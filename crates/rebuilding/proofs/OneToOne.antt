-- The naming of a page that was saved and the one that was rebuilt is one to one.
use Rattle.std.proofs.Common.{◌≡◌, sym, ◌∙◌, subst, ℕ, ◌<◌, ◌≤◌, true, not, ◌&&◌, nat_eq, nat_le, nat_lt, List, length, arith}
use Rattle.std.proofs.lemmas.Bool.{and_parts, leb-true, ltb-true}
use Rattle.object_heap.specs.Heap.{Contents}
use Rattle.page_host.specs.Host.{Host}
use Rattle.page_meaning.specs.Store.{Store}
use Rattle.heap_walker.specs.Things.{IsWalk}
use Rattle.rebuilding.specs.Rebuilt.{IsRebuilt, nth}
use Rattle.rebuilding.specs.Scene.{Scene, frame_count, is_site}
use Rattle.rebuilding.proofs.Basics.{all_at}
use Rattle.rebuilding.proofs.Naming.{IsPair, built_in, differ, rising_places, thing}
use Rattle.rebuilding.proofs.Placed.{AreYoung, young_walk}

module _ (c : Scene) (s : Store) (things : List ℕ) (h : Contents) (g : Host) (sites : List ℕ) (walk : IsWalk s things) (is : IsRebuilt c s things h g sites) where
  pub site_below : (n : ℕ) → n < length things → n < length sites
  site_below n below = subst (λ m. n < m) (sym is.count) below

  pub site_parts : (n : ℕ) → n < length things → (frame_count ≤ nth sites n) × (nth sites n < length h.objects)
  site_parts n below =
      let k : ℕ = nth sites n in
      let all : is_site c h k ≡ true = all_at (is_site c h) sites n is.running.place.stand (site_below n below) in
      let one = and_parts (nat_le frame_count k) (nat_lt k (length h.objects) && not (nat_eq k c.list)) all in
      let two = and_parts (nat_lt k (length h.objects)) (not (nat_eq k c.list)) one.1 in
      (leb-true frame_count k one.0, ltb-true k (length h.objects) two.0)

  pub young_sites : AreYoung sites
  young_sites n below = let parts = site_parts n (omega (arith, below, is.count)) in omega (arith, parts.0)

  pub same_places : (a b i j : ℕ) → IsPair things sites a b → IsPair things sites i j → nat_eq a i ≡ nat_eq b j
  same_places a b i j (built_in one low) (built_in two small) = rw (one, two)
  same_places a b i j (built_in one low) (thing p) =
      differ a i b j (λ e. absurd (omega (arith, e, low, p.one, young_walk s things walk p.place p.below)))
      (λ e. absurd (omega (arith, e, low, one, p.two, (site_parts p.place p.below).0)))
  same_places a b i j (thing p) (built_in two small) =
      differ a i b j (λ e. absurd (omega (arith, e, small, p.one, young_walk s things walk p.place p.below)))
      (λ e. absurd (omega (arith, e, small, two, p.two, (site_parts p.place p.below).0)))
  same_places a b i j (thing p) (thing q) =
      let left : nat_eq (nth things p.place) (nth things q.place) ≡ nat_eq p.place q.place =
      rising_places things p.place q.place walk.rising p.below q.below
      in
      let right : nat_eq (nth sites p.place) (nth sites q.place) ≡ nat_eq p.place q.place =
      rising_places sites p.place q.place is.running.place.rising (site_below p.place p.below) (site_below q.place q.below)
      in
      rw (p.one, p.two, q.one, q.two) (left ∙ sym right)
