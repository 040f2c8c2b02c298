-- Listeners of which no two are the same: none is the same as one before it.
use Rattle.std.proofs.Common.{◌≡◌, refl, ◌∙◌, Bool, true, false, filter, if◌then◌else◌, List, [], ◌∷◌, ◌++◌}
use Rattle.std.proofs.lemmas.Bool.{or_parts}
use Rattle.dom_tree.proofs.Callers.{eq_sym}
use Rattle.page_host.specs.Listeners.{is_registered, is_same_listener, same_mark}
use Rattle.page_host.specs.Sound.{AreDistinct}
use Rattle.page_host.specs.declared.listener.Listener.{Listener}
use Rattle.host_relations.proofs.Texts.{text_sym}

-- none of them is the same as one before it
abbrev pub AreNew : List Listener → List Listener → Type 0
AreNew before [] = Unit {0}
AreNew before (l ∷ ls) = (is_registered before l ≡ false) × AreNew (before ++ l ∷ []) ls

-- ---- those that pass a test

fewer : (p : Listener → Bool) (ls : List Listener) (l : Listener) → is_registered ls l ≡ false → is_registered (filter p ls) l ≡ false
fewer p [] l h = refl
fewer p (m ∷ ls) l h = let parts = or_parts (is_same_listener l m) (is_registered ls l) h in by (p m) parts.0 (fewer p ls l parts.1)
  where
    by : (c : Bool) → is_same_listener l m ≡ false → is_registered (filter p ls) l ≡ false → is_registered (if c then m ∷ filter p ls else filter p ls) l ≡ false
    by true e later = rw e later
    by false e later = later

passed_distinct : (p : Listener → Bool) (ls : List Listener) → AreDistinct ls → AreDistinct (filter p ls)
passed_distinct p [] d = tt
passed_distinct p (l ∷ ls) d = by (p l) (fewer p ls l d.0) (passed_distinct p ls d.1)
  where
    by : (c : Bool) → is_registered (filter p ls) l ≡ false → AreDistinct (filter p ls) → AreDistinct (if c then l ∷ filter p ls else filter p ls)
    by true new later = (new, later)
    by false new later = later

-- ---- in the order in which they were added

mark_sym : (a b : Bool) → same_mark a b ≡ same_mark b a
mark_sym true true = refl
mark_sym true false = refl
mark_sym false true = refl
mark_sym false false = refl

same_sym : (l m : Listener) → is_same_listener l m ≡ is_same_listener m l
same_sym l m = rw (eq_sym l.node.0 m.node.0, eq_sym l.call.0 m.call.0, mark_sym l.capture m.capture, text_sym l.kind m.kind) refl

-- each of the others is apart from the first ones
abbrev AreApart : List Listener → List Listener → Type 0
AreApart before [] = Unit {0}
AreApart before (l ∷ ls) = (is_registered before l ≡ false) × AreApart before ls

apart_at_first : (ls : List Listener) → AreApart [] ls
apart_at_first [] = tt
apart_at_first (l ∷ ls) = (refl, apart_at_first ls)

apart_last : (before : List Listener) (m l : Listener) → is_registered before l ≡ false → is_same_listener m l ≡ false → is_registered (before ++ m ∷ []) l ≡ false
apart_last [] m l h e = let f : is_same_listener l m ≡ false = same_sym l m ∙ e in rw f refl
apart_last (x ∷ before) m l h e = let parts = or_parts (is_same_listener l x) (is_registered before l) h in rw parts.0 (apart_last before m l parts.1 e)

one_more : (before : List Listener) (m : Listener) (ls : List Listener) → AreApart before ls → is_registered ls m ≡ false → AreApart (before ++ m ∷ []) ls
one_more before m [] a h = tt
one_more before m (l ∷ ls) a h = let parts = or_parts (is_same_listener m l) (is_registered ls m) h in (apart_last before m l a.0 parts.0, one_more before m ls a.1 parts.1)

new_of : (before ls : List Listener) → AreDistinct ls → AreApart before ls → AreNew before ls
new_of before [] d a = tt
new_of before (l ∷ ls) d a = (a.0, new_of (before ++ l ∷ []) ls d.1 (one_more before l ls a.1 d.0))

pub passed_new : (p : Listener → Bool) (ls : List Listener) → AreDistinct ls → AreNew [] (filter p ls)
passed_new p ls d = new_of [] (filter p ls) (passed_distinct p ls d) (apart_at_first (filter p ls))
