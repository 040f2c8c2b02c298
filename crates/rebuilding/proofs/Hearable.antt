-- The listeners of a reached node can be added again: each calls a function that stands, and no two of them are the same.
use Rattle.std.proofs.Common.{◌≡◌, refl, sym, ap, subst, ◌∙◌, ℕ, ◌<◌, Bool, true, false, ◌&&◌, ◌||◌, nat_eq, bytes_eq, if◌then◌else◌, List, [], ◌∷◌, ◌++◌, length}
use Rattle.std.proofs.lemmas.Bool.{and_from, and_parts, eq-eqb, eqb-true, or_left, or_parts, or_right}
use Rattle.std.proofs.lemmas.List.Elements.{All-head, All-tail}
use Rattle.std.specs.List.{All}
use Rattle.heap_walker.specs.Still.{Still}
use Rattle.heap_walker.specs.Things.{IsWalk, calls_links, heard_at, is_in}
use Rattle.host_relations.proofs.Callers.{AreNew, AreOf, heard_of, passed_new}
use Rattle.js_values.specs.declared.ids.NodeId.{NodeId}
use Rattle.object_heap.specs.Chain.{object_at}
use Rattle.object_heap.specs.Heap.{Contents}
use Rattle.object_heap.specs.declared.object.Class.TheVariants as class
use Rattle.page_host.specs.Listeners.{is_registered, is_same_listener, same_mark}
use Rattle.page_host.specs.declared.listener.Listener.{Listener}
use Rattle.page_meaning.specs.Classes.{is_callable_class}
use Rattle.page_meaning.specs.NodeRows.{listener_of}
use Rattle.page_meaning.specs.Places.{document}
use Rattle.page_meaning.specs.Store.{Store}
use Rattle.page_writer.specs.Frame.{nth_node}
use Rattle.rebuild_plan.specs.Moved.{moved, place_of}
use Rattle.rebuild_plan.specs.Nodes.{moved_listeners}
use Rattle.rebuilding.specs.Rebuilt.{ClassIsRebuilt, nth}
use Rattle.rebuilding.specs.Scene.{IsRunning, Scene}
use Rattle.rebuilding.specs.Sites.{site, sited}
use Rattle.rebuilding.proofs.Callables.{known_apart, known_callable, known_stands}
use Rattle.rebuilding.proofs.Known.{IsKnown}
use Rattle.rebuilding.proofs.ListenPhase.{CanHear, heard_as}

-- each calls what is built in or a thing
abbrev pub AreKnown : List ℕ → List Listener → Type 0
AreKnown things [] = Unit {0}
AreKnown things (l ∷ ls) = IsKnown things l.call.0 × AreKnown things ls

pub all_known : (things : List ℕ) (ls : List Listener) → ((x : ℕ) → is_in x (calls_links ls) ≡ true → IsKnown things x) → AreKnown things ls
all_known things [] each = tt
all_known things (l ∷ ls) each = (
  each l.call.0 (or_left (nat_eq l.call.0 l.call.0) (is_in l.call.0 (calls_links ls)) (eq-eqb l.call.0 l.call.0 refl)),
  all_known things ls (λ x i. each x (or_right (nat_eq x l.call.0) (is_in x (calls_links ls)) i)),
)

-- each calls a function
abbrev AreCallable : Store → List Listener → Type 0
AreCallable s [] = Unit {0}
AreCallable s (l ∷ ls) = (is_callable_class (object_at s.heap.objects l.call.0).class ≡ true) × AreCallable s ls

heard_callable : (s : Store) (k : ℕ) (ls : List Listener) → All (λ l. is_callable_class (object_at s.heap.objects l.call.0).class ≡ true) ls
    → AreCallable s (heard_at k ls)
heard_callable s k [] all = tt
heard_callable s k (l ∷ ls) all =
    by (nat_eq k l.node.0) (All-head (λ m. is_callable_class (object_at s.heap.objects m.call.0).class ≡ true) l ls all)
    (heard_callable s k ls (All-tail (λ m. is_callable_class (object_at s.heap.objects m.call.0).class ≡ true) l ls all))
  where
    by : (b : Bool) → is_callable_class (object_at s.heap.objects l.call.0).class ≡ true → AreCallable s (heard_at k ls)
        → AreCallable s (if b then l ∷ heard_at k ls else heard_at k ls)
    by true first later = (first, later)
    by false first later = later

module _ (c : Scene) (h : Contents) (s : Store) (things sites : List ℕ) (running : IsRunning c h sites) (count : length sites ≡ length things)
    (still : Still s) (walk : IsWalk s things)
    (document_class : (object_at s.heap.objects document.0).class ≡ class.Node (nth_node 0))
    (classes : (n : ℕ) → n < length things
    → ClassIsRebuilt c h.environments s things sites (nth sites n) (object_at s.heap.objects (nth things n)).class (object_at h.objects (nth sites n)).class) where
  can_hear : (ls : List Listener) → AreKnown things ls → AreCallable s ls → CanHear h sites (moved_listeners things ls)
  can_hear [] known callable = tt
  can_hear (l ∷ ls) known callable = (
    (
      known_stands c h s things sites running count still walk document_class classes l.call.0 known.0,
      known_callable c h s things sites running count still walk document_class classes l.call.0 known.0 callable.0,
    ),
    can_hear ls known.1 callable.1,
  )

  -- those of a node
  pub node_can_hear : (a : NodeId) → AreKnown things (heard_at a.0 s.host.listeners) → CanHear h sites (moved_listeners things (heard_at a.0 s.host.listeners))
  node_can_hear a known = can_hear (heard_at a.0 s.host.listeners) known (heard_callable s a.0 s.host.listeners still.shaped.host.heard)

  -- ---- no two are the same

  module _ (k : NodeId) (a : ℕ) where
    abbrev shown : List Listener → List Listener
    shown ls = heard_as k sites (moved_listeners things ls)

    abbrev show : Listener → Listener
    show l = listener_of k l.kind (sited sites (moved things l.call)) l.capture

    shown_end : (xs : List Listener) (y : Listener) → shown (xs ++ y ∷ []) ≡ shown xs ++ show y ∷ []
    shown_end [] y = refl
    shown_end (x ∷ xs) y = ap (λ ls. show x ∷ ls) (shown_end xs y)

    same_back : (l m : Listener) → l.node.0 ≡ a → m.node.0 ≡ a → IsKnown things l.call.0 → IsKnown things m.call.0
        → is_same_listener (show l) (show m) ≡ true → is_same_listener l m ≡ true
    same_back l m one other left right e =
        let calls : Bool = nat_eq (site sites (place_of things l.call.0)) (site sites (place_of things m.call.0)) in
        let x = and_parts (nat_eq k.0 k.0 && calls && same_mark l.capture m.capture) (bytes_eq l.kind m.kind) e in
        let y = and_parts (nat_eq k.0 k.0 && calls) (same_mark l.capture m.capture) x.0 in
        let z = and_parts (nat_eq k.0 k.0) calls y.0 in
        let same : l.call.0 ≡ m.call.0 = known_apart c h s things sites running count still walk document_class classes l.call.0 m.call.0 left right
        (eqb-true (site sites (place_of things l.call.0)) (site sites (place_of things m.call.0)) z.1)
        in
        and_from (nat_eq l.node.0 m.node.0 && nat_eq l.call.0 m.call.0 && same_mark l.capture m.capture) (bytes_eq l.kind m.kind)
        (and_from (nat_eq l.node.0 m.node.0 && nat_eq l.call.0 m.call.0) (same_mark l.capture m.capture)
        (and_from (nat_eq l.node.0 m.node.0) (nat_eq l.call.0 m.call.0) (eq-eqb l.node.0 m.node.0 (one ∙ sym other)) (eq-eqb l.call.0 m.call.0 same)) y.1) x.1

    other_still : (b d : Bool) → (d ≡ true → b ≡ true) → b ≡ false → d ≡ false
    other_still b true back e = let x = back refl in absurd (cc)
    other_still b false back e = refl

    both_false : (b d : Bool) → b ≡ false → d ≡ false → (b || d) ≡ false
    both_false b d e g = rw (e, g) refl

    not_registered : (before : List Listener) (l : Listener) → AreOf a before → AreKnown things before → l.node.0 ≡ a → IsKnown things l.call.0
        → is_registered before l ≡ false → is_registered (shown before) (show l) ≡ false
    not_registered [] l of known mine place e = refl
    not_registered (m ∷ before) l of known mine place e =
        let parts = or_parts (is_same_listener l m) (is_registered before l) e in
        both_false (is_same_listener (show l) (show m)) (is_registered (shown before) (show l))
        (other_still (is_same_listener l m) (is_same_listener (show l) (show m)) (same_back l m mine of.0 place known.0) parts.0)
        (not_registered before l of.1 known.1 mine place parts.1)

    of_end : (xs : List Listener) (y : Listener) → AreOf a xs → y.node.0 ≡ a → AreOf a (xs ++ y ∷ [])
    of_end [] y of e = (e, tt)
    of_end (x ∷ xs) y of e = (of.0, of_end xs y of.1 e)

    known_end : (xs : List Listener) (y : Listener) → AreKnown things xs → IsKnown things y.call.0 → AreKnown things (xs ++ y ∷ [])
    known_end [] y known e = (e, tt)
    known_end (x ∷ xs) y known e = (known.0, known_end xs y known.1 e)

    shown_new : (before ls : List Listener) → AreOf a before → AreKnown things before → AreOf a ls → AreKnown things ls → AreNew before ls
        → AreNew (shown before) (shown ls)
    shown_new before [] of known mine places new = tt
    shown_new before (l ∷ ls) of known mine places new = (
      not_registered before l of known mine.0 places.0 new.0,
      subst (λ ms. AreNew ms (shown ls)) (shown_end before l)
          (shown_new (before ++ l ∷ []) ls (of_end before l of mine.0) (known_end before l known places.0) mine.1 places.1 new.1),
    )

  -- those of a node, at its counterpart
  pub node_hears_new : (k a : NodeId) → AreKnown things (heard_at a.0 s.host.listeners)
      → AreNew [] (heard_as k sites (moved_listeners things (heard_at a.0 s.host.listeners)))
  node_hears_new k a known =
      shown_new k a.0 [] (heard_at a.0 s.host.listeners) tt tt (heard_of a.0 s.host.listeners) known
      (passed_new (λ l. nat_eq a.0 l.node.0) s.host.listeners still.shaped.host.sound.distinct)
