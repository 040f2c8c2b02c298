-- Where sites stand, and that two of them are two places.
use Rattle.std.proofs.Common.{◌≡◌, ◌⊎◌, inl, inr, ℕ, ◌<◌, ◌≤◌, true, not, ◌&&◌, nat_eq, nat_le, nat_lt, List, length, arith}
use Rattle.std.proofs.lemmas.Bool.{and_parts, cases_order, leb-true, ltb-true}
use Rattle.std.proofs.lemmas.List.Kept.{AllPairs-from_increasing}
use Rattle.std.specs.List.Sorted.{IsStrictlyIncreasing}
use Rattle.object_heap.specs.Heap.{Contents}
use Rattle.rebuilding.specs.Rebuilt.{nth}
use Rattle.rebuilding.specs.Scene.{IsRunning, Scene, frame_count, is_site}
use Rattle.rebuilding.proofs.Basics.{all_at}

pub site_there : (c : Scene) (h : Contents) (sites : List ℕ) (n : ℕ) → IsRunning c h sites → n < length sites
    → (frame_count ≤ nth sites n) × (nth sites n < length h.objects)
site_there c h sites n running inside =
    let k : ℕ = nth sites n in
    let is : is_site c h k ≡ true = all_at (is_site c h) sites n running.place.stand inside in
    let others : (nat_lt k (length h.objects) && not (nat_eq k c.list))
    ≡ true = (and_parts (nat_le frame_count k) (nat_lt k (length h.objects) && not (nat_eq k c.list)) is).1 in (
      leb-true frame_count k (and_parts (nat_le frame_count k) (nat_lt k (length h.objects) && not (nat_eq k c.list)) is).0,
      ltb-true k (length h.objects) (and_parts (nat_lt k (length h.objects)) (not (nat_eq k c.list)) others).0,
    )

pub sites_differ : (sites : List ℕ) (m n : ℕ) → IsStrictlyIncreasing sites → m < length sites → n < length sites → (m ≡ n → ⊥) → nth sites m
    ≡ nth sites n → ⊥
sites_differ sites m n rising left right other same = by (cases_order m n)
  where
    by : (m ≡ n) ⊎ ((m < n) ⊎ (n < m)) → ⊥
    by (inl equal) = other equal
    by (inr (inl below)) = omega (arith, AllPairs-from_increasing sites rising m n 0 below right, same)
    by (inr (inr above)) = omega (arith, AllPairs-from_increasing sites rising n m 0 above left, same)
