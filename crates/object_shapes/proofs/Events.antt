-- What is done to an event keeps its shape (DOM Level 2 Events, section 1.4, interface Event).
use Rattle.std.proofs.Common.{◌≡◌, ◌⊎◌, inl, inr, refl, sym, ap, subst, ◌∙◌, ℕ, zero, suc, ◌+◌, ◌<◌, ◌≤◌, Bool, true, false, ◌&&◌, not, Option, Some, None, length, if◌then◌else◌, arith}
use Rattle.std.proofs.lemmas.Bool.{and_parts, cases_lt, not-true}
use Rattle.std.proofs.lemmas.Bool.Decides.{nat_tests}
use Rattle.js_core.specs.Text.{Text}
use Rattle.js_values.specs.declared.ids.ObjId.{ObjId}
use Rattle.object_heap.proofs.Callers.{object_absent}
use Rattle.object_heap.specs.Chain.{object_at}
use Rattle.object_heap.specs.Laws.{after_step, gives_parts}
use Rattle.object_heap.specs.Object.{Object, changed_event, with_class}
use Rattle.object_heap.specs.declared.object.Class.{Class}
use Rattle.object_heap.specs.declared.object.Class.TheVariants as class
use Rattle.object_heap.specs.declared.object.EventParts.{EventParts}
use Rattle.page_host.specs.Paths.{phase_number}
use Rattle.page_host.specs.declared.path.Phase.{Phase}
use Rattle.page_host.specs.declared.path.Phase.TheVariants.{Capturing, AtTarget, Bubbling}
use Rattle.page_meaning.specs.Classes.{class_at, is_function, is_made, is_node_class}
use Rattle.page_meaning.specs.Events.{EventStep, after_event, arrived, arrives, begins, begun_at, initialised, initialises, is_prevented, is_stopped, may_begin, prevented_in, prevents, rested, rests, stopped_in, stops}
use Rattle.page_meaning.specs.Places.{built_in_count}
use Rattle.page_meaning.specs.Steps.{fits_event, with_event}
use Rattle.page_meaning.specs.Store.{Store, with_heap}
use Rattle.object_shapes.specs.Hosted.{HasParts, is_node_at, is_node_if}
use Rattle.object_shapes.specs.Links.{all_below, event_links, parts_links, props_links, proto_links}
use Rattle.object_shapes.specs.Shapes.{HasShape, IsShaped, built_in_at}
use Rattle.object_shapes.proofs.Changed.{itself}
use Rattle.object_shapes.proofs.Free.{event_kept, have_no_kept, same_free}
use Rattle.object_shapes.proofs.Held.{held_of, node_there, parts_kept, shape_at}
use Rattle.object_shapes.proofs.Lists.{all_back, all_join}
use Rattle.object_shapes.proofs.Made.{one_below}
use Rattle.object_shapes.proofs.Steps.{Becomes, becomes_kept, built_in_made, object_shaped}

-- ---- the parts

-- with another phase
phased : (s : Store) (e : EventParts) (p : ℕ) → HasParts s e → p < 16
    → HasParts s (record { kind = e.kind; bubbles = e.bubbles; cancelable = e.cancelable; begun = e.begun; sent = e.sent; target = e.target; current = e.current; phase = p })
phased s e p h small = record { fresh = h.fresh; sent = h.sent; begun = h.begun; target = h.target; current = h.current; phase = small }

not_stopped : (p : ℕ) → is_stopped p ≡ false → p < 16 → p + 4 < 16
not_stopped p h small = grind (arith, nat_tests)

not_prevented : (p : ℕ) → is_prevented p ≡ false → p + 8 < 16
not_prevented p h = grind (arith, nat_tests)

initialised_parts : (s : Store) (kind : Text) (bubbles cancelable : Bool) (e : EventParts) → HasParts s e → HasParts s (initialised kind bubbles cancelable e)
initialised_parts s kind bubbles cancelable e h = by_case e.sent refl
  where
    by_case : (b : Bool) → e.sent ≡ b
        → HasParts s (if b then e else record { kind = kind; bubbles = bubbles; cancelable = cancelable; begun = true; sent = false; target = e.target; current = e.current; phase = e.phase })
    by_case true is = h
    by_case false is = record {
      fresh = λ no. cc no;
      sent = sym is ∙ h.sent;
      begun = λ no. refl;
      target = h.target;
      current = h.current;
      phase = h.phase;
    }

stopped_parts : (s : Store) (e : EventParts) (o : Option ObjId) → HasParts s e → HasParts s (stopped_in o e)
stopped_parts s e None h = h
stopped_parts s e (Some at) h = by_case (is_stopped e.phase) refl
  where
    by_case : (b : Bool) → is_stopped e.phase ≡ b
        → HasParts s (if b then e else record { kind = e.kind; bubbles = e.bubbles; cancelable = e.cancelable; begun = e.begun; sent = e.sent; target = e.target; current = e.current; phase = e.phase + 4 })
    by_case true is = h
    by_case false is = phased s e (e.phase + 4) h (not_stopped e.phase is h.phase)

prevented_parts : (s : Store) (e : EventParts) (o : Option ObjId) → HasParts s e → HasParts s (prevented_in o e)
prevented_parts s e None h = h
prevented_parts s e (Some at) h = by_case (e.cancelable && not (is_prevented e.phase)) refl
  where
    by_case : (b : Bool) → (e.cancelable && not (is_prevented e.phase)) ≡ b
        → HasParts s (if b then record { kind = e.kind; bubbles = e.bubbles; cancelable = e.cancelable; begun = e.begun; sent = e.sent; target = e.target; current = e.current; phase = e.phase + 8 } else e)
    by_case true is = phased s e (e.phase + 8) h
        (not_prevented e.phase (not-true (is_prevented e.phase) (and_parts e.cancelable (not (is_prevented e.phase)) is).1))
    by_case false is = h

begun_parts : (s : Store) (e : EventParts) (at : ObjId) → is_node_at s at ≡ true → HasParts s e → HasParts s (begun_at at e)
begun_parts s e at there h = by_case (may_begin e) refl
  where
    by_case : (b : Bool) → may_begin e ≡ b
        → HasParts s (if b then record { kind = e.kind; bubbles = e.bubbles; cancelable = e.cancelable; begun = e.begun; sent = true; target = Some at; current = e.current; phase = e.phase } else e)
    by_case true is = record {
      fresh = h.fresh;
      sent = refl;
      begun = λ yes. (and_parts e.begun (not e.sent) is).0;
      target = there;
      current = h.current;
      phase = h.phase;
    }
    by_case false is = h

small_phase : (p : Phase) → phase_number p + 8 < 16
small_phase Capturing = omega arith
small_phase AtTarget = omega arith
small_phase Bubbling = omega arith

arrived_parts : (s : Store) (e : EventParts) (at : ObjId) (p : Phase) → is_node_at s at ≡ true → HasParts s e → HasParts s (arrived at p e)
arrived_parts s e at p there h = record {
  fresh = h.fresh;
  sent = h.sent;
  begun = h.begun;
  target = h.target;
  current = there;
  phase = by_case (is_prevented e.phase);
}
  where
    by_case : (b : Bool) → (if b then phase_number p + 8 else phase_number p) < 16
    by_case true = small_phase p
    by_case false = let small = small_phase p in omega (arith, small)

rested_parts : (s : Store) (e : EventParts) → HasParts s e → HasParts s (rested e)
rested_parts s e h = record { fresh = h.fresh; sent = h.sent; begun = h.begun; target = h.target; current = refl; phase = omega arith }

after_parts : (s : Store) (g : EventStep) → fits_event s g ≡ true → (e : EventParts) → HasParts s e → HasParts s (after_event g e)
after_parts s (initialises x bubbles cancelable) fit e h = initialised_parts s x bubbles cancelable e h
after_parts s stops fit e h = stopped_parts s e e.current h
after_parts s prevents fit e h = prevented_parts s e e.current h
after_parts s (begins at) fit e h = begun_parts s e at fit h
after_parts s (arrives at p) fit e h = arrived_parts s e at p fit h
after_parts s rests fit e h = rested_parts s e h

-- ---- what it refers to

-- an object of a node is there
node_below : (s : Store) (at : ObjId) → is_node_at s at ≡ true → at.0 < length s.heap.objects
node_below s at h = by_class (class_at s at) refl h
  where
    by_class : (c : Class) → class_at s at ≡ c → is_node_class s.host.nodes c ≡ true → at.0 < length s.heap.objects
    by_class (class.Node k) e there = node_there s at k e
    by_class c e there = cc there

node_if_below : (s : Store) (o : Option ObjId) → is_node_if s o ≡ true → all_below (length s.heap.objects) (proto_links o) ≡ true
node_if_below s None h = refl
node_if_below s (Some at) h = one_below (length s.heap.objects) at.0 (node_below s at h)

-- ---- the event

-- what any event at a place becomes
event_becomes : (s : Store) (k : ℕ) (f : EventParts → EventParts) → ((e : EventParts) → HasParts s e → HasParts s (f e))
    → (o : Object) → (e : EventParts) → o.class ≡ class.Event e → o.closed ≡ false → HasShape s o o.class
    → Becomes (length s.heap.objects) s o (with_class o (class.Event (f e)))
event_becomes s k f keeps o e is free shape =
    let was : HasShape s o (class.Event e) = subst (HasShape s o) is shape in
    let now = keeps e was.2 in
    let names = same_free s.host.nodes s.host.nodes (class.Event e) (class.Event (f e)) (event_kept s.host.nodes (f e) e) o.props
    (subst (λ c. have_no_kept s.host.nodes c o.props ≡ true) is was.1) in
    record {
      proto = refl;
      closed = refl;
      still = λ c. absurd (cc (sym c ∙ free));
      window = λ w. absurd (cc (sym w.class ∙ is));
      parts = sym (ap parts_links is);
      links = λ links. all_join (length s.heap.objects) (event_links (class.Event (f e))) (props_links o.props)
          (all_join (length s.heap.objects) (proto_links (f e).target) (proto_links (f e).current) (node_if_below s (f e).target now.target) (node_if_below s (f e).current now.current))
          (all_back (length s.heap.objects) (event_links o.class) (props_links o.props) links);
      function = λ call. absurd (cc (sym call ∙ ap (λ c. is_function (Some c)) is));
      to_node = λ j n. absurd (cc (sym is ∙ n));
      of_node = λ j n. absurd (cc n);
      shape = λ g kinds old.
          (was.0, names, parts_kept s (with_heap s g) kinds (f e) now);
    }

-- any other object stays
other_becomes : (n : ℕ) (s : Store) (o : Object) (c : Class) → o.class ≡ c → Becomes n s o (with_class o c)
other_becomes n s o c is = becomes_kept n s o (with_class o c) (itself n s.host.nodes o (with_class o c) (ap (with_class o) (sym is)))

-- an event is none of the built-in objects
event_young : (s : Store) → IsShaped s → (k : ℕ) (e : EventParts) → (object_at s.heap.objects k).class ≡ class.Event e → built_in_count ≤ k
event_young s h k e is = by_case (cases_lt k built_in_count) k refl
  where
    by_case : (k < built_in_count) ⊎ (built_in_count ≤ k) → (j : ℕ) → j ≡ k → built_in_count ≤ k
    by_case (inr young) j same = young
    by_case (inl old) zero same = absurd (cc (sym (ap (λ i. (object_at s.heap.objects i).class) same ∙ is) ∙ h.window.class))
    by_case (inl old) (suc j) same =
        let at : object_at s.heap.objects k ≡ built_in_at k = h.built_ins k (omega (arith, same)) old in
        absurd (cc (sym (built_in_made k) ∙ ap (λ (o : Object). is_made o.class) (sym at) ∙ ap is_made is))

event_there : (s : Store) (k : ℕ) (e : EventParts) → (object_at s.heap.objects k).class ≡ class.Event e → k < length s.heap.objects
event_there s k e is = by_case (cases_lt k (length s.heap.objects))
  where
    by_case : (k < length s.heap.objects) ⊎ (length s.heap.objects ≤ k) → k < length s.heap.objects
    by_case (inl there) = there
    by_case (inr past) = absurd (cc (sym is ∙ ap (λ (x : Object). x.class) (object_absent s.heap.objects k past)))

-- where the object is an event it gets other parts
parts_become : (s : Store) → IsShaped s → (k : ℕ) (f : EventParts → EventParts) → ((e : EventParts) → HasParts s e → HasParts s (f e))
    → (c : Class) → (object_at s.heap.objects k).class ≡ c
    → Becomes (length s.heap.objects) s (object_at s.heap.objects k) (with_class (object_at s.heap.objects k) (changed_event f c))
parts_become s h k f keeps (class.Event e) is =
    let found = shape_at (length s.heap.objects) s (held_of s h) k (event_young s h k e is) (event_there s k e is) in
    event_becomes s k f keeps (object_at s.heap.objects k) e is found.not_closed found.shape
parts_become s h k f keeps c is = other_becomes (length s.heap.objects) s (object_at s.heap.objects k) c is

pub event_step_shaped : (s : Store) → IsShaped s → (at : ObjId) (g : EventStep) → IsShaped (with_heap s (with_event s at g))
event_step_shaped s h at g = by_case (fits_event s g) refl
  where
    by_case : (b : Bool) → fits_event s g ≡ b → IsShaped (with_heap s (if b then after_step s.heap (gives_parts at.0 (after_event g)) else s.heap))
    by_case true fit = object_shaped s at.0 (with_class (object_at s.heap.objects at.0) (changed_event (after_event g) (object_at s.heap.objects at.0).class)) h
        (parts_become s h at.0 (after_event g) (after_parts s g fit) (object_at s.heap.objects at.0).class refl)
    by_case false fit = h
