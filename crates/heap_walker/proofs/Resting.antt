-- What the things of a page at rest refer to is built in or walked.
use Rattle.std.proofs.Common.{◌≡◌, ◌⊎◌, inl, inr, refl, sym, ap, arith, ◌∙◌, ℕ, suc, ◌<◌, Bool, true, false, List, [], ◌∷◌, ◌++◌, length, nat_eq, nat_lt}
use Rattle.std.proofs.Math.Bool.{or-true}
use Rattle.std.proofs.lemmas.Bool.{eq-eqb, eqb-true, ltb-false, ltb-true, or_cases}
use Rattle.std.proofs.lemmas.List.Folds.{list_any-append}
use Rattle.std.specs.List.{list_all}
use Rattle.global_names.specs.Names.{names_global}
use Rattle.object_heap.specs.Chain.{object_at}
use Rattle.object_heap.specs.Object.{Object}
use Rattle.object_heap.specs.Property.{Props}
use Rattle.page_meaning.specs.Places.{built_in_count, document, window}
use Rattle.page_meaning.specs.Store.{Store}
use Rattle.heap_walker.specs.Still.{Still, made_links}
use Rattle.heap_walker.specs.Things.{IsWalk, Reach, class_links, globals_of, host_links, is_in, link, links, made_globals, root, roots, timers_links}
use Rattle.object_shapes.specs.Links.{all_below, is_thing, props_links, proto_links, value_links}
use Rattle.heap_walker.proofs.Bindings.{links_there, made_below}
use Rattle.heap_walker.proofs.Hosted.{timers_below}

-- what holds of all holds of each
pub each_of : (p : ℕ → Bool) (ks : List ℕ) → list_all p ks ≡ true → (j : ℕ) → is_in j ks ≡ true → p j ≡ true
each_of p [] all j h = cc h
each_of p (k ∷ ks) all j h = by (p k) refl (nat_eq j k) refl (λ a g. each_of p ks a j g)
  where
    by : (b : Bool) → p k ≡ b → (c : Bool) → nat_eq j k ≡ c → (list_all p ks ≡ true → is_in j ks ≡ true → p j ≡ true) → p j ≡ true
    by true holds true same later = ap p (eqb-true j k same) ∙ holds
    by true holds false other later = later (rw holds at all) (rw other at h)
    by false fails c same later = cc (rw fails at all)

-- and what holds of each holds of all
pub all_of : (p : ℕ → Bool) (ks : List ℕ) → ((j : ℕ) → is_in j ks ≡ true → p j ≡ true) → list_all p ks ≡ true
all_of p [] each = refl
all_of p (k ∷ ks) each =
    let first : p k ≡ true = each k (rw (here k) refl) in
    rw first (all_of p ks (λ j h. each j (rw h (or-true (nat_eq j k)))))
  where
    here : (n : ℕ) → nat_eq n n ≡ true
    here n = eq-eqb n n refl

-- something that is there is built in, the document or a thing
built_in_or_thing : (s : Store) (j : ℕ) → nat_lt j (length s.heap.objects) ≡ true → (j < suc built_in_count) ⊎ (is_thing s j ≡ true)
built_in_or_thing s j there = by (nat_lt built_in_count j) refl
  where
    by : (b : Bool) → nat_lt built_in_count j ≡ b → (j < suc built_in_count) ⊎ (is_thing s j ≡ true)
    by true h = inr (rw (h, there) refl)
    by false h = inl (omega (arith, ltb-false built_in_count j h))

-- what a reached thing refers to is built in, the document or reached
pub link_reached : (s : Store) → Still s → (k : ℕ) → Reach s k → (j : ℕ) → is_in j (links s k) ≡ true → (j < suc built_in_count) ⊎ Reach s j
link_reached s still k from j h = by (built_in_or_thing s j (each_of (λ n. nat_lt n (length s.heap.objects)) (links s k) (links_there s still k) j h))
  where
    by : (j < suc built_in_count) ⊎ (is_thing s j ≡ true) → (j < suc built_in_count) ⊎ Reach s j
    by (inl low) = inl low
    by (inr thing) = inr (link from thing h)

-- and so, where it can be reached, among those that are complete
pub among_all : (s : Store) (things : List ℕ) → ((k : ℕ) → Reach s k → is_in k things ≡ true) → (j : ℕ) → (j < suc built_in_count) ⊎ Reach s j
    → (j < suc built_in_count) ⊎ (is_in j things ≡ true)
among_all s things complete j (inl low) = inl low
among_all s things complete j (inr reach) = inr (complete j reach)

pub links_in_walk : (s : Store) (things : List ℕ) → Still s → IsWalk s things → (k : ℕ) → is_in k things ≡ true → (j : ℕ) → is_in j (links s k) ≡ true → (j < suc built_in_count) ⊎ (is_in j things ≡ true)
links_in_walk s things still walk k found j h = among_all s things walk.complete j (link_reached s still k (walk.sound k found) j h)

-- ---- the parts of links

-- what is among one of two lists is among both
pub among_left : (j : ℕ) (xs ys : List ℕ) → is_in j xs ≡ true → is_in j (xs ++ ys) ≡ true
among_left j xs ys h = list_any-append (nat_eq j) xs ys ∙ rw h refl

pub among_right : (j : ℕ) (xs ys : List ℕ) → is_in j ys ≡ true → is_in j (xs ++ ys) ≡ true
among_right j xs ys h = list_any-append (nat_eq j) xs ys ∙ rw h (or-true (is_in j xs))

-- what the globals among properties refer to is among what all refer to
pub globals_among : (ps : Props) (j : ℕ) → is_in j (props_links (made_globals ps)) ≡ true → is_in j (props_links ps) ≡ true
globals_among [] j h = h
globals_among (e ∷ es) j h = by (names_global e.0) refl (globals_among es j)
  where
    last : (is_in j (value_links e.1.value) ≡ true) ⊎ (is_in j (props_links (made_globals es)) ≡ true)
        → (is_in j (props_links (made_globals es)) ≡ true → is_in j (props_links es) ≡ true) → is_in j (props_links (e ∷ es)) ≡ true
    last (inl here) later = among_left j (value_links e.1.value) (props_links es) here
    last (inr more) later = among_right j (value_links e.1.value) (props_links es) (later more)

    by : (b : Bool) → names_global e.0 ≡ b → (is_in j (props_links (made_globals es)) ≡ true → is_in j (props_links es) ≡ true)
        → is_in j (props_links (e ∷ es)) ≡ true
    by true built_in later = among_right j (value_links e.1.value) (props_links es) (later (rw built_in at h))
    by false made later =
        last
        (or_cases (is_in j (value_links e.1.value)) (is_in j (props_links (made_globals es)))
        (sym (list_any-append (nat_eq j) (value_links e.1.value) (props_links (made_globals es))) ∙ rw made at h))
        later

-- what a thing refers to from when it was made is among its links
pub made_among : (s : Store) (k j : ℕ) → is_in j (made_links s (object_at s.heap.objects k)) ≡ true → is_in j (links s k) ≡ true
made_among s k j h = by (or_cases (is_in j (proto_links o.proto)) (is_in j (class_links s o.class)) (sym (list_any-append (nat_eq j) (proto_links o.proto) (class_links s o.class)) ∙ h))
  where
    o : Object
    o = object_at s.heap.objects k

    later : List ℕ
    later = host_links s.host o.class ++ props_links o.props

    by : (is_in j (proto_links o.proto) ≡ true) ⊎ (is_in j (class_links s o.class) ≡ true) → is_in j (links s k) ≡ true
    by (inl here) = among_left j (proto_links o.proto) (class_links s o.class ++ later) here
    by (inr more) = among_right j (proto_links o.proto) (class_links s o.class ++ later) (among_left j (class_links s o.class) later more)

-- so is what it refers to as a node or an event
pub host_among : (s : Store) (k j : ℕ) → is_in j (host_links s.host (object_at s.heap.objects k).class) ≡ true → is_in j (links s k) ≡ true
host_among s k j h =
    let o : Object = object_at s.heap.objects k in
    let later : List ℕ = host_links s.host o.class ++ props_links o.props in
    among_right j (proto_links o.proto) (class_links s o.class ++ later)
    (among_right j (class_links s o.class) later (among_left j (host_links s.host o.class) (props_links o.props) h))

-- and so is what its properties hold
pub props_among : (s : Store) (k j : ℕ) → is_in j (props_links (object_at s.heap.objects k).props) ≡ true → is_in j (links s k) ≡ true
props_among s k j h =
    let o : Object = object_at s.heap.objects k in
    let later : List ℕ = host_links s.host o.class ++ props_links o.props in
    among_right j (proto_links o.proto) (class_links s o.class ++ later)
    (among_right j (class_links s o.class) later (among_right j (host_links s.host o.class) (props_links o.props) h))

-- what it refers to from when it was made is older
pub made_older : (s : Store) (things : List ℕ) → Still s → IsWalk s things → (k : ℕ) → is_in k things ≡ true → (j : ℕ) → is_in j (made_links s (object_at s.heap.objects k)) ≡ true → j < k
made_older s things still walk k found j h =
    ltb-true j k (each_of (λ n. nat_lt n k) (made_links s (object_at s.heap.objects k)) (made_below s still k (walk.sound k found)) j h)

-- ---- what the page begins from

root_there : (s : Store) → Still s → (j : ℕ) → is_in j (roots s) ≡ true → nat_lt j (length s.heap.objects) ≡ true
root_there s still j h = by (or_cases (is_in j globals) (is_in j others) (sym (list_any-append (nat_eq j) globals others) ∙ h))
  where
    globals : List ℕ
    globals = props_links (globals_of s)

    timers : List ℕ
    timers = timers_links s.host.timers

    others : List ℕ
    others = links s document.0 ++ timers

    below : (ks : List ℕ) → all_below (length s.heap.objects) ks ≡ true → is_in j ks ≡ true → nat_lt j (length s.heap.objects) ≡ true
    below ks all g = each_of (λ n. nat_lt n (length s.heap.objects)) ks all j g

    last : (is_in j (links s document.0) ≡ true) ⊎ (is_in j timers ≡ true) → nat_lt j (length s.heap.objects) ≡ true
    last (inl g) = below (links s document.0) (links_there s still document.0) g
    last (inr g) = below timers (timers_below s still.shaped.host s.host.timers still.shaped.host.calls) g

    by : (is_in j globals ≡ true) ⊎ (is_in j others ≡ true) → nat_lt j (length s.heap.objects) ≡ true
    by (inl g) = below (links s window.0) (links_there s still window.0) (props_among s window.0 j (globals_among (object_at s.heap.objects window.0).props j g))
    by (inr g) = last (or_cases (is_in j (links s document.0)) (is_in j timers) (sym (list_any-append (nat_eq j) (links s document.0) timers) ∙ g))

-- what the page begins from is built in, the document or reached
pub root_reached : (s : Store) → Still s → (j : ℕ) → is_in j (roots s) ≡ true → (j < suc built_in_count) ⊎ Reach s j
root_reached s still j h = by (built_in_or_thing s j (root_there s still j h))
  where
    by : (j < suc built_in_count) ⊎ (is_thing s j ≡ true) → (j < suc built_in_count) ⊎ Reach s j
    by (inl low) = inl low
    by (inr thing) = inr (root thing h)

pub roots_in_walk : (s : Store) (things : List ℕ) → Still s → IsWalk s things → (j : ℕ) → is_in j (roots s) ≡ true → (j < suc built_in_count) ⊎ (is_in j things ≡ true)
roots_in_walk s things still walk j h = among_all s things walk.complete j (root_reached s still j h)

-- the parts of what it begins from
pub global_among : (s : Store) (j : ℕ) → is_in j (props_links (globals_of s)) ≡ true → is_in j (roots s) ≡ true
global_among s j h = among_left j (props_links (globals_of s)) (links s document.0 ++ timers_links s.host.timers) h

pub document_among : (s : Store) (j : ℕ) → is_in j (links s document.0) ≡ true → is_in j (roots s) ≡ true
document_among s j h =
    among_right j (props_links (globals_of s)) (links s document.0 ++ timers_links s.host.timers) (among_left j (links s document.0) (timers_links s.host.timers) h)

pub timers_among : (s : Store) (j : ℕ) → is_in j (timers_links s.host.timers) ≡ true → is_in j (roots s) ≡ true
timers_among s j h =
    among_right j (props_links (globals_of s)) (links s document.0 ++ timers_links s.host.timers) (among_right j (links s document.0) (timers_links s.host.timers) h)
