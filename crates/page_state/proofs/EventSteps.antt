-- What is done to events at once.
use Rattle.std.proofs.Common.{◌≡◌, refl, sym, ap, ◌∙◌, ◌<◌, ℕ, zero, suc, ◌+◌, Bool, true, false, not, ◌&&◌, ◌||◌, Option, Some, None, is_some, length, nat_le, if◌then◌else◌, arith}
use Rattle.std.proofs.lemmas.Bool.{and_parts, not-true, or_parts}
use Rattle.std.proofs.lemmas.Bool.Decides.{nat_tests}
use Rattle.std.proofs.lemmas.List.{set-get_or}
use Rattle.js_core.specs.Text.{Text}
use Rattle.js_values.specs.declared.ids.ObjId.{ObjId}
use Rattle.js_values.specs.declared.value.Value.TheVariants.{Object as AnObject}
use Rattle.object_heap.specs.declared.object.Class.{Class}
use Rattle.object_heap.specs.declared.object.Class.TheVariants.{Event}
use Rattle.object_heap.specs.declared.object.EventParts.{EventParts}
use Rattle.object_heap.proofs.Callers.{rested_down}
use Rattle.object_heap.specs.Chain.{object_at}
use Rattle.object_heap.specs.Heap.{Contents, set_dispatch, set_event, with_object, with_objects}
use Rattle.object_heap.specs.Laws.{after_step, gives_parts}
use Rattle.object_heap.specs.Object.{changed_event, dispatched, no_object, with_class}
use Rattle.object_heap.specs.Rest.{all_rested, rest_down, rest_event}
use Rattle.page_host.specs.declared.path.Phase.{Phase}
use Rattle.page_host.specs.Paths.{phase_number}
use Rattle.page_meaning.specs.Classes.{class_at, class_of, is_node_class}
use Rattle.page_meaning.specs.Dispatch.{parts_at}
use Rattle.page_meaning.specs.Events.{EventStep, after_event, arrives, begins, initialises, is_prevented, is_stopped, may_begin, prevented, prevented_in, prevents, stopped, stopped_in, stops, with_phase}
use Rattle.page_meaning.specs.NodeRows.{parts_in}
use Rattle.page_meaning.specs.Primitives.{changes_event}
use Rattle.page_meaning.specs.Steps.{after_steps, fits_event}
use Rattle.page_meaning.specs.Store.{Store, with_heap}
use Rattle.page_meaning.specs.Tasks.{settled, settlings}
use Rattle.page_state.specs.Does.{Does}
use Rattle.page_state.specs.EventParts.{may_prevent, may_stop, with_parts}

abbrev Parts : Store → ObjId → Option EventParts
Parts s at = parts_in (class_of s (AnObject at))

-- ---- what stays

-- an object takes the parts that it has
given_class : (c : Class) (f g : EventParts → EventParts) → ((e : EventParts) → parts_in (Some c) ≡ Some e → f e ≡ g e) → changed_event f c ≡ changed_event g c
given_class (Event e) f g h = ap Event (h e refl)
given_class c f g h = refl

same_class : (c : Class) → changed_event (λ e. e) c ≡ c
same_class (Event e) = refl
same_class c = refl

abbrev changed_in : Contents → ℕ → (EventParts → EventParts) → Contents
changed_in h k f = after_step h (gives_parts k f)

same_change : (s : Store) (at : ObjId) (f g : EventParts → EventParts) → ((e : EventParts) → Parts s at ≡ Some e → f e ≡ g e) → changed_in s.heap at.0 f ≡ changed_in s.heap at.0 g
same_change s at f g h = ap (λ c. with_object s.heap at.0 (with_class (object_at s.heap.objects at.0) c)) (given_class (class_at s at) f g h)

no_change : (s : Store) (at : ObjId) (f : EventParts → EventParts) → ((e : EventParts) → Parts s at ≡ Some e → f e ≡ e) → changed_in s.heap at.0 f ≡ s.heap
no_change s at f h =
    same_change s at f (λ e. e) h
    ∙ ap (λ c. with_object s.heap at.0 (with_class (object_at s.heap.objects at.0) c)) (same_class (class_at s at))
    ∙ ap (with_objects s.heap) (set-get_or s.heap.objects at.0 no_object)

-- ---- the steps

-- the parts become others
pub parts_given : (s : Store) (at : ObjId) (g : EventStep) (f : EventParts → EventParts) (h : Contents) → fits_event s g ≡ true
    → ((e : EventParts) → Parts s at ≡ Some e → after_event g e ≡ f e) → h ≡ changed_in s.heap at.0 f → Does (λ _. changes_event at g) s tt (with_heap s h)
parts_given s at g f h fit same is = record { is = λ c n. rw (fit, same_change s at (after_event g) f same, is) refl }

-- the parts stay
pub parts_stay : (s : Store) (at : ObjId) (g : EventStep) → ((e : EventParts) → Parts s at ≡ Some e → after_event g e ≡ e) → Does (λ _. changes_event at g) s tt s
parts_stay s at g same = by (fits_event s g) refl
  where
    by : (b : Bool) → fits_event s g ≡ b → Does (λ _. changes_event at g) s tt s
    by true e = record { is = λ c n. rw (e, no_change s at (after_event g) same) refl }
    by false e = record { is = λ c n. rw e refl }

-- what is at no node's object
pub event_unfit : (s : Store) (at : ObjId) (g : EventStep) → fits_event s g ≡ false → Does (λ _. changes_event at g) s tt s
event_unfit s at g e = record { is = λ c n. rw e refl }

-- no event
pub no_event : (s : Store) (at : ObjId) (g : EventStep) → Parts s at ≡ None → Does (λ _. changes_event at g) s tt s
no_event s at g none = parts_stay s at g (λ e h. cc (none, h))

-- an event whose parts these are
pub event_stays : (s : Store) (at : ObjId) (g : EventStep) (e : EventParts) → Parts s at ≡ Some e → after_event g e ≡ e → Does (λ _. changes_event at g) s tt s
event_stays s at g e here same = parts_stay s at g (λ d h. by d (cc (sym here ∙ h)))
  where
    by : (d : EventParts) → e ≡ d → after_event g d ≡ d
    by d p = ap (after_event g) (sym p) ∙ same ∙ p

pub event_given : (s : Store) (at : ObjId) (g : EventStep) (e : EventParts) (f : EventParts → EventParts) (h : Contents) → fits_event s g ≡ true → Parts s at ≡ Some e
    → after_event g e ≡ f e → h ≡ changed_in s.heap at.0 f → Does (λ _. changes_event at g) s tt (with_heap s h)
event_given s at g e f h fit here same is = parts_given s at g f h fit (λ d p. by d (cc (sym here ∙ p))) is
  where
    by : (d : EventParts) → e ≡ d → after_event g d ≡ f d
    by d p = ap (after_event g) (sym p) ∙ same ∙ ap f p

-- ---- initialised

pub init_stays : (s : Store) (at : ObjId) (x : Text) (bubbles cancelable : Bool) (e : EventParts) → Parts s at ≡ Some e → e.sent ≡ true
    → Does (λ _. changes_event at (initialises x bubbles cancelable)) s tt s
init_stays s at x bubbles cancelable e here sent = event_stays s at (initialises x bubbles cancelable) e here (rw sent refl)

pub init_goes : (s : Store) (at : ObjId) (x : Text) (bubbles cancelable : Bool) (e : EventParts) (h : Contents) → Parts s at ≡ Some e → e.sent ≡ false
    → h ≡ set_event s.heap at.0 (record { kind = x; bubbles = bubbles; cancelable = cancelable; begun = true; sent = false; target = e.target; current = e.current; phase = e.phase })
    → Does (λ _. changes_event at (initialises x bubbles cancelable)) s tt (with_heap s h)
init_goes s at x bubbles cancelable e h here sent is =
    event_given s at (initialises x bubbles cancelable) e
    (λ old. record { kind = x; bubbles = bubbles; cancelable = cancelable; begun = true; sent = false; target = e.target; current = e.current; phase = e.phase })
    h refl here (rw sent refl) is

-- ---- stopped and prevented

stopped_same : (e : EventParts) → may_stop e ≡ false → stopped e ≡ e
stopped_same e h = by e.current h
  where
    by : (o : Option ObjId) → (is_some o && not (is_stopped e.phase)) ≡ false → stopped_in o e ≡ e
    by None g = refl
    by (Some at) g = by_phase (is_stopped e.phase) g
      where
        by_phase : (b : Bool) → not b ≡ false → (if b then e else with_phase e (e.phase + 4)) ≡ e
        by_phase true k = refl
        by_phase false k = cc k

stopped_once : (e : EventParts) → may_stop e ≡ true → stopped e ≡ with_phase e (e.phase + 4)
stopped_once e h = by e.current h
  where
    by : (o : Option ObjId) → (is_some o && not (is_stopped e.phase)) ≡ true → stopped_in o e ≡ with_phase e (e.phase + 4)
    by None g = cc g
    by (Some at) g = by_phase (is_stopped e.phase) g
      where
        by_phase : (b : Bool) → not b ≡ true → (if b then e else with_phase e (e.phase + 4)) ≡ with_phase e (e.phase + 4)
        by_phase true k = cc k
        by_phase false k = refl

pub stop_stays : (s : Store) (at : ObjId) (e : EventParts) → Parts s at ≡ Some e → may_stop e ≡ false → Does (λ _. changes_event at stops) s tt s
stop_stays s at e here h = event_stays s at stops e here (stopped_same e h)

pub stop_goes : (s t : Store) (at : ObjId) (e : EventParts) (p : ℕ) → Parts s at ≡ Some e → may_stop e ≡ true → p ≡ e.phase + 4
    → t ≡ with_parts s at (λ parts. with_phase parts p) → Does (λ _. changes_event at stops) s tt t
stop_goes s t at e p here h phase is =
    rw is (event_given s at stops e (λ parts. with_phase parts p) (changed_in s.heap at.0 (λ parts. with_phase parts p)) refl here (stopped_once e h ∙ ap (with_phase e) (sym phase)) refl)

prevented_same : (e : EventParts) → may_prevent e ≡ false → prevented e ≡ e
prevented_same e h = by e.current h
  where
    by : (o : Option ObjId) → (is_some o && (e.cancelable && not (is_prevented e.phase))) ≡ false → prevented_in o e ≡ e
    by None g = refl
    by (Some at) g = rw g refl

prevented_once : (e : EventParts) → may_prevent e ≡ true → prevented e ≡ with_phase e (e.phase + 8)
prevented_once e h = by e.current h
  where
    by : (o : Option ObjId) → (is_some o && (e.cancelable && not (is_prevented e.phase))) ≡ true → prevented_in o e ≡ with_phase e (e.phase + 8)
    by None g = cc g
    by (Some at) g = rw g refl

pub prevent_stays : (s : Store) (at : ObjId) (e : EventParts) → Parts s at ≡ Some e → may_prevent e ≡ false → Does (λ _. changes_event at prevents) s tt s
prevent_stays s at e here h = event_stays s at prevents e here (prevented_same e h)

pub prevent_goes : (s t : Store) (at : ObjId) (e : EventParts) (p : ℕ) → Parts s at ≡ Some e → may_prevent e ≡ true → p ≡ e.phase + 8
    → t ≡ with_parts s at (λ parts. with_phase parts p) → Does (λ _. changes_event at prevents) s tt t
prevent_goes s t at e p here h phase is =
    rw is (event_given s at prevents e (λ parts. with_phase parts p) (changed_in s.heap at.0 (λ parts. with_phase parts p)) refl here (prevented_once e h ∙ ap (with_phase e) (sym phase)) refl)

-- phases that may be marked are low
pub may_stop_only : (e : EventParts) → may_stop e ≡ true → is_stopped e.phase ≡ false
may_stop_only e h = not-true (is_stopped e.phase) (and_parts (is_some e.current) (not (is_stopped e.phase)) h).1

pub may_prevent_only : (e : EventParts) → may_prevent e ≡ true → is_prevented e.phase ≡ false
may_prevent_only e h =
    let both = and_parts (is_some e.current) (e.cancelable && not (is_prevented e.phase)) h in
    not-true (is_prevented e.phase) (and_parts e.cancelable (not (is_prevented e.phase)) both.1).1

low : (n p : ℕ) → nat_le n p ≡ false → p < n
low n p h = grind (arith, nat_tests)

pub unprevented_is_low : (p : ℕ) → is_prevented p ≡ false → p < 8
unprevented_is_low p h = low 8 p h

pub unstopped_is_low : (p : ℕ) → is_stopped p ≡ false → p < 12
unstopped_is_low p h = low 12 p (or_parts (nat_le 4 p && not (is_prevented p)) (nat_le 12 p) h).1

-- ---- dispatched

pub none_begins : (s : Store) (at target : ObjId) → may_begin (parts_at s at) ≡ false → Does (λ _. changes_event at (begins target)) s tt s
none_begins s at target h = parts_stay s at (begins target) stays
  where
    stays : (e : EventParts) → Parts s at ≡ Some e → after_event (begins target) e ≡ e
    stays e p = let none : may_begin e ≡ false = rw p at h in rw none refl

pub begin_unfit : (s : Store) (at target : ObjId) → is_node_class s.host.nodes (class_at s target) ≡ false → Does (λ _. changes_event at (begins target)) s tt s
begin_unfit s at target h = event_unfit s at (begins target) h

pub begin_goes : (s : Store) (at target : ObjId) (e : EventParts) (h : Contents) → is_node_class s.host.nodes (class_at s target) ≡ true → may_begin (parts_at s at) ≡ true
    → Parts s at ≡ Some e → h ≡ set_dispatch s.heap at.0 true (Some target) e.current e.phase → Does (λ _. changes_event at (begins target)) s tt (with_heap s h)
begin_goes s at target e h fit may here is =
    event_given s at (begins target) e (dispatched true (Some target) e.current e.phase) h fit here (let begun : may_begin e ≡ true = rw here at may in rw begun refl) is

pub arrive_unfit : (s : Store) (at current : ObjId) (phase : Phase) → is_node_class s.host.nodes (class_at s current) ≡ false
    → Does (λ _. changes_event at (arrives current phase)) s tt s
arrive_unfit s at current phase h = event_unfit s at (arrives current phase) h

pub arrive_goes : (s : Store) (at current : ObjId) (phase : Phase) (e : EventParts) (p : ℕ) (h : Contents) → is_node_class s.host.nodes (class_at s current) ≡ true
    → Parts s at ≡ Some e → p ≡ (if is_prevented e.phase then phase_number phase + 8 else phase_number phase)
    → h ≡ set_dispatch s.heap at.0 e.sent e.target (Some current) p → Does (λ _. changes_event at (arrives current phase)) s tt (with_heap s h)
arrive_goes s at current phase e p h fit here number is =
    event_given s at (arrives current phase) e (dispatched e.sent e.target (Some current) p) h fit here (ap (λ q. dispatched e.sent e.target (Some current) q e) (sym number)) is

-- ---- all events come to rest

settled_down : (n : ℕ) (s : Store) → after_steps s (settlings n) ≡ with_heap s (with_objects s.heap (rest_down n s.heap.objects))
settled_down zero s = refl
settled_down (suc n) s = settled_down n (with_heap s (rest_event s.heap n))

pub settled_is : (s : Store) → with_heap s (all_rested s.heap) ≡ settled s
settled_is s = sym (settled_down (length s.heap.objects) s ∙ ap (λ os. with_heap s (with_objects s.heap os)) (rested_down s.heap.objects))
