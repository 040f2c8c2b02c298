-- A dispatch in a page without listeners: the event becomes as after a dispatch, and nothing else is done (DOM Level 2 Events, section 1.2).
use Rattle.std.proofs.Common.{◌≡◌, refl, ap, ◌∙◌, sym, subst, ℕ, zero, suc, ◌+◌, ◌<◌, ◌≤◌, Bool, true, false, not, List, [], ◌∷◌, length, length-set, slice_set, Some, nat_le, filter, arith, if◌then◌else◌}
use Rattle.std.proofs.lemmas.Bool.Decides.{nat_tests}
use Rattle.js_values.specs.declared.ids.NodeId.{NodeId}
use Rattle.js_values.specs.declared.ids.ObjId.{ObjId}
use Rattle.js_values.specs.declared.throw.Throw.TheVariants.{UnspecifiedEventType}
use Rattle.js_values.specs.declared.value.Value.TheVariants as value
use Rattle.object_heap.specs.Chain.{object_at}
use Rattle.object_heap.specs.Heap.{Contents, with_object}
use Rattle.object_heap.specs.Laws.{gives_parts}
use Rattle.object_heap.specs.Laws as heap
use Rattle.object_heap.specs.Object.{Object, changed_event, with_class}
use Rattle.object_heap.specs.declared.object.Class.{Class}
use Rattle.object_heap.specs.declared.object.Class.TheVariants as class
use Rattle.object_heap.specs.declared.object.EventParts.{EventParts}
use Rattle.page_host.specs.Host.{object_of_node}
use Rattle.page_host.specs.Listeners.{takes}
use Rattle.page_host.specs.Paths.{event_path, phase_number}
use Rattle.page_host.specs.declared.listener.Listener.{Listener}
use Rattle.page_host.specs.declared.path.Phase.{Phase}
use Rattle.page_host.specs.declared.path.Phase.TheVariants.{AtTarget, Bubbling, Capturing}
use Rattle.page_host.specs.declared.path.Place.{Place}
use Rattle.page_meaning.specs.Act.{Act, Calls, Ended, asking, choose}
use Rattle.page_meaning.specs.Classes.{class_at, is_node_class}
use Rattle.page_meaning.specs.Dispatch.{arrive, deliver, dispatch, dispatch_row, ended, parts_at, parts_or_new, round, run_listeners, visit_places}
use Rattle.page_meaning.specs.Errors.{raise}
use Rattle.page_meaning.specs.Events.{EventStep, after_event, arrives, begins, is_prevented, is_stopped, may_begin, rests}
use Rattle.page_meaning.specs.NodeRows.{on_event, or_wrong, parts_in}
use Rattle.page_meaning.specs.Steps.{after_step, fits_event, in_event}
use Rattle.page_meaning.specs.Store.{Store, with_heap}
use Rattle.page_meaning.specs.declared.signal.Signal.TheVariants.{Value as Val}
use Rattle.rebuilding.proofs.HostRows.{on_node_run}
use Rattle.dom_tree.specs.Steps.{is_there}
use Rattle.object_heap.proofs.Callers.{object_set_same}

-- ---- an event that changes twice

set_twice : (os : List Object) (k : ℕ) (o p : Object) → slice_set (slice_set os k o) k p ≡ slice_set os k p
set_twice [] k o p = refl
set_twice (q ∷ os) zero o p = refl
set_twice (q ∷ os) (suc k) o p = ap (λ l. q ∷ l) (set_twice os k o p)

both_changed : (f g : EventParts → EventParts) (c : Class) → changed_event g (changed_event f c) ≡ changed_event (λ p. g (f p)) c
both_changed f g (class.Event parts) = refl
both_changed f g class.Plain = refl
both_changed f g class.List = refl
both_changed f g (class.Page c env) = refl
both_changed f g (class.Native b) = refl
both_changed f g (class.Bound t v vs) = refl
both_changed f g class.Fault = refl
both_changed f g class.Math = refl
both_changed f g class.Window = refl
both_changed f g (class.Node n) = refl

abbrev given : Contents → ℕ → (EventParts → EventParts) → Contents
given h k f = heap.after_step h (gives_parts k f)

given_twice : (h : Contents) (k : ℕ) (f g : EventParts → EventParts) → k < length h.objects → given (given h k f) k g ≡ given h k (λ p. g (f p))
given_twice h k f g there =
    let o : Object = object_at h.objects k in
    let first : Object = with_class o (changed_event f o.class) in
    ap (λ x. with_object (with_object h k first) k (with_class x (changed_event g x.class))) (object_set_same h.objects k first there)
    ∙ ap (λ os. record { objects = os; environments = h.environments }) (set_twice h.objects k first (with_class o (changed_event g (changed_event f o.class))))
    ∙ ap (λ c. with_object h k (with_class o c)) (both_changed f g o.class)

given_long : (h : Contents) (k : ℕ) (f : EventParts → EventParts) → k < length h.objects → k < length (given h k f).objects
given_long h k f there =
    let o : Object = object_at h.objects k in
    subst (λ n. k < n) (sym (length-set h.objects k (with_class o (changed_event f o.class)))) there

given_class : (h : Contents) (k : ℕ) (f : EventParts → EventParts) → k < length h.objects → (object_at (given h k f).objects k).class ≡ changed_event f (object_at h.objects k).class
given_class h k f there =
    let o : Object = object_at h.objects k in
    ap (λ (x : Object). x.class) (object_set_same h.objects k (with_class o (changed_event f o.class)) there)

-- ---- phases without marks

abbrev phase_in : Class → ℕ
phase_in c = (parts_or_new (parts_in (Some c))).phase

abbrev KeepsLow : (EventParts → EventParts) → Type 0
KeepsLow f = (p : EventParts) → p.phase ≤ 3 → (f p).phase ≤ 3

is_low : (n : ℕ) → n ≤ 3 → (is_prevented n ≡ false) × (is_stopped n ≡ false)
is_low n low =
    let a : nat_le 8 n ≡ false = grind (arith, nat_tests) in
    let b : nat_le 4 n ≡ false = grind (arith, nat_tests) in
    let c : nat_le 12 n ≡ false = grind (arith, nat_tests) in
    (a, rw (b, c) refl)

phase_low : (p : Phase) → phase_number p ≤ 3
phase_low Capturing = omega arith
phase_low AtTarget = omega arith
phase_low Bubbling = omega arith

low_changed : (f : EventParts → EventParts) (c : Class) → KeepsLow f → phase_in c ≤ 3 → phase_in (changed_event f c) ≤ 3
low_changed f (class.Event parts) keeps low = keeps parts low
low_changed f class.Plain keeps low = low
low_changed f class.List keeps low = low
low_changed f (class.Page c env) keeps low = low
low_changed f (class.Native b) keeps low = low
low_changed f (class.Bound t v vs) keeps low = low
low_changed f class.Fault keeps low = low
low_changed f class.Math keeps low = low
low_changed f class.Window keeps low = low
low_changed f (class.Node n) keeps low = low

arrives_low : (at : ObjId) (q : Phase) → KeepsLow (after_event (arrives at q))
arrives_low at q p low = subst (λ b. (if b then phase_number q + 8 else phase_number q) ≤ 3) (sym (is_low p.phase low).0) (phase_low q)

begins_low : (at : ObjId) → KeepsLow (after_event (begins at))
begins_low at p low = by (may_begin p)
  where
    by : (b : Bool) → (if b then record { kind = p.kind; bubbles = p.bubbles; cancelable = p.cancelable; begun = p.begun; sent = true; target = Some at; current = p.current; phase = p.phase } else p).phase ≤ 3
    by true = low
    by false = low

-- what is left is what resting leaves, whether it arrives there or not
arrives_rests : (at : ObjId) (q : Phase) → (λ p. after_event rests (after_event (arrives at q) p)) ≡ after_event rests
arrives_rests at q = refl

module _ (e : ObjId) where
  abbrev IsCalm : Store → Type 0
  IsCalm s = (e.0 < length s.heap.objects) × (phase_in (class_at s e) ≤ 3)

  -- the event changes, where it fits
  abbrev changed : Store → EventStep → Store
  changed s g = after_step s (in_event e g)

  calm_if : (s : Store) (g : EventStep) (b : Bool) → KeepsLow (after_event g) → IsCalm s → IsCalm (with_heap s (if b then given s.heap e.0 (after_event g) else s.heap))
  calm_if s g true keeps calm = (
    given_long s.heap e.0 (after_event g) calm.0,
    subst (λ c. phase_in c ≤ 3) (sym (given_class s.heap e.0 (after_event g) calm.0)) (low_changed (after_event g) (class_at s e) keeps calm.1),
  )
  calm_if s g false keeps calm = calm

  rest_if : (s : Store) (at : ObjId) (q : Phase) (b : Bool) → IsCalm s
      → given (if b then given s.heap e.0 (after_event (arrives at q)) else s.heap) e.0 (after_event rests) ≡ given s.heap e.0 (after_event rests)
  rest_if s at q true calm = given_twice s.heap e.0 (after_event (arrives at q)) (after_event rests) calm.0 ∙ ap (given s.heap e.0) (arrives_rests at q)
  rest_if s at q false calm = refl

  module _ (calls : Calls) where
    -- all places are passed, and the event rests
    visited : (s : Store) (n : ℕ) (ps : List Place) → s.host.listeners ≡ [] → IsCalm s
        → (visit_places calls e ps).run s n ≡ Ended (Val (value.Bool true)) (with_heap s (given s.heap e.0 (after_event rests))) n
    visited s n [] none calm = ap (λ b. Ended (Val (value.Bool (not b))) (with_heap s (given s.heap e.0 (after_event rests))) n) (is_low (parts_at s e).phase calm.1).0
    visited s n (p ∷ ps) none calm =
        let at : ObjId = object_of_node s.host.objects p.node in
        let s1 : Store = changed s (arrives at p.phase) in
        let fits = fits_event s (arrives at p.phase) in
        let next : Act = visit_places calls e ps in
        let calm1 : IsCalm s1 = calm_if s (arrives at p.phase) fits (arrives_low at p.phase) calm in
        ap (λ b. (choose b (ended e) (arrive e p (asking (round e p) (run_listeners calls e p next)))).run s n) (is_low (parts_at s e).phase calm.1).1
        ∙ ap (λ (ls : List Listener). (run_listeners calls e p next (filter (takes (parts_at s1 e).kind p) ls)).run s1 n) none
        ∙ visited s1 n ps none calm1
        ∙ ap (λ h. Ended (Val (value.Bool true)) (with_heap s h) n) (rest_if s at p.phase fits calm)

    -- what `dispatchEvent` does of an event that was initialised and not yet dispatched
    pub dispatched_quietly : (s : Store) (n : ℕ) (at : ObjId) (k : NodeId) (parts : EventParts) → class_at s at ≡ class.Node k → is_there s.host.nodes k ≡ true
        → class_at s e ≡ class.Event parts → may_begin parts ≡ true → parts.phase ≤ 3 → e.0 < length s.heap.objects → s.host.listeners ≡ []
        → is_node_class s.host.nodes (class_at s (object_of_node s.host.objects k)) ≡ true
        → (dispatch_row calls (value.Object at) (value.Object e ∷ [])).run s n
        ≡ Ended (Val (value.Bool true)) (with_heap s (given s.heap e.0 (λ p. after_event rests (after_event (begins (object_of_node s.host.objects k)) p)))) n
    dispatched_quietly s n at k parts is there event may low inside none fits =
        let target : ObjId = object_of_node s.host.objects k in
        let s1 : Store = changed s (begins target) in
        let calm : IsCalm s = (inside, subst (λ c. phase_in c ≤ 3) (sym event) low) in
        let calm1 : IsCalm s1 = calm_if s (begins target) (fits_event s (begins target)) (begins_low target) calm in
        on_node_run calls s n at k (λ l. on_event (value.Object e) (λ o ps. deliver calls o l)) is there
        ∙ ap (λ c. (or_wrong (λ (ps : EventParts). or_wrong (λ o. deliver calls o k) (Some e)) (parts_in (Some c))).run s n) event
        ∙ ap (λ c. (choose (may_begin (parts_or_new (parts_in (Some c)))) (dispatch calls e k (parts_or_new (parts_in (Some c))).bubbles) (raise UnspecifiedEventType)).run s n) event
        ∙ ap (λ b. (choose b (dispatch calls e k parts.bubbles) (raise UnspecifiedEventType)).run s n) may
        ∙ visited s1 n (event_path s.host.nodes k parts.bubbles) none calm1
        ∙ ap (λ b. Ended (Val (value.Bool true)) (with_heap s (given (if b then given s.heap e.0 (after_event (begins target)) else s.heap) e.0 (after_event rests))) n) fits
        ∙ ap (λ h. Ended (Val (value.Bool true)) (with_heap s h) n) (given_twice s.heap e.0 (after_event (begins target)) (after_event rests) inside)
