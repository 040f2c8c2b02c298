-- Listeners stay distinct where one is added or removed.
use Rattle.std.proofs.Common.{◌≡◌, Bool, true, false, List, [], ◌∷◌, ◌++◌, filter, if◌then◌else◌, refl, ◌∙◌}
use Rattle.std.proofs.lemmas.Bool.{or_parts}
use Rattle.page_host.specs.declared.listener.Listener.{Listener}
use Rattle.page_host.specs.Listeners.{is_registered, is_same_listener, with_listener}
use Rattle.page_host.specs.Same.{same_equivalence}
use Rattle.page_host.specs.Sound.{AreDistinct}

registered_end : (ls : List Listener) (l m : Listener) → is_registered ls m ≡ false → is_same_listener m l ≡ false → is_registered (ls ++ l ∷ []) m ≡ false
registered_end [] l m h e = rw e
registered_end (k ∷ ls) l m h e = let p = or_parts (is_same_listener m k) (is_registered ls m) h in rw (p.0, registered_end ls l m p.1 e)

distinct_end : (ls : List Listener) (l : Listener) → is_registered ls l ≡ false → AreDistinct ls → AreDistinct (ls ++ l ∷ [])
distinct_end [] l h d = (refl, tt)
distinct_end (m ∷ ls) l h d =
    let p = or_parts (is_same_listener l m) (is_registered ls l) h in
    (registered_end ls l m d.0 (same_equivalence.symm m l ∙ p.0), distinct_end ls l p.1 d.1)

registered_left : (p : Listener → Bool) (ls : List Listener) (m : Listener) → is_registered ls m ≡ false → is_registered (filter p ls) m ≡ false
registered_left p [] m h = refl
registered_left p (l ∷ ls) m h =
    let q = or_parts (is_same_listener m l) (is_registered ls m) h in
    by_case (p l) q.0 (registered_left p ls m q.1)
  where
    by_case : (b : Bool) → is_same_listener m l ≡ false → is_registered (filter p ls) m ≡ false → is_registered (if b then l ∷ filter p ls else filter p ls) m ≡ false
    by_case true e later = rw (e, later)
    by_case false e later = later

pub distinct_left : (p : Listener → Bool) (ls : List Listener) → AreDistinct ls → AreDistinct (filter p ls)
distinct_left p [] d = tt
distinct_left p (l ∷ ls) d = by_case (p l) (distinct_left p ls d.1)
  where
    by_case : (b : Bool) → AreDistinct (filter p ls) → AreDistinct (if b then l ∷ filter p ls else filter p ls)
    by_case true later = (registered_left p ls l d.0, later)
    by_case false later = later

pub distinct_with : (ls : List Listener) (l : Listener) → AreDistinct ls → AreDistinct (with_listener ls l)
distinct_with ls l d = by_case (is_registered ls l) refl
  where
    by_case : (b : Bool) → is_registered ls l ≡ b → AreDistinct (if b then ls else ls ++ l ∷ [])
    by_case true e = d
    by_case false e = distinct_end ls l e d
