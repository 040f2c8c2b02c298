-- What is done to the parts of an event in both pages.
use Rattle.std.proofs.Common.{◌≡◌, inl, refl, ap, ℕ, ◌&&◌, ◌+◌, [], ◌∷◌, Bool, true, false, not, if◌then◌else◌, length-set, Option, arith}
use Rattle.js_core.specs.Text.{Text}
use Rattle.js_values.specs.declared.ids.ObjId.{ObjId}
use Rattle.object_heap.proofs.Callers.{kinds_steps}
use Rattle.object_heap.specs.Chain.{object_at}
use Rattle.object_heap.specs.Laws.{IsSameKind, gives_parts}
use Rattle.object_heap.specs.Laws as heap_laws
use Rattle.object_heap.specs.Object.{Object, changed_event, with_class}
use Rattle.object_heap.specs.declared.object.EventParts.{EventParts}
use Rattle.page_host.specs.declared.path.Phase.{Phase}
use Rattle.page_host.specs.Paths.{phase_number}
use Rattle.page_meaning.specs.Events.{EventStep, after_event, arrived, arrives, begins, begun_at, initialised, initialises, is_prevented, is_stopped, may_begin, prevented_in, prevents, rests, stopped_in, stops}
use Rattle.page_meaning.specs.Primitives.{changes_event}
use Rattle.page_meaning.specs.Steps.{after_step, fits_event, in_event, with_event}
use Rattle.page_meaning.specs.Store.{Store, with_heap}
use Rattle.heap_relations.proofs.Callers as heap
use Rattle.heap_relations.specs.Naming.{Agree, Larger, Named, World, named}
use Rattle.heap_relations.specs.Related.{EventRel, Maybe, ObjectIds, none, some}
use Rattle.object_shapes.proofs.Callers as shapes
use Rattle.agreement.specs.Acts.{ActRel, AreKept, Equal, StoreRel, ended}
use Rattle.agreement.proofs.Constants.{kept_same}
use Rattle.agreement.proofs.HostReads.{is_node_class_same}

-- when two things that are done to events mean the same
pub data EventStepRel (W : World) : EventStep → EventStep → Type 0 where
  initialises_rel : {x : Text} {bubbles cancelable : Bool} → EventStepRel W (initialises x bubbles cancelable) (initialises x bubbles cancelable)
  stops_rel : EventStepRel W stops stops
  prevents_rel : EventStepRel W prevents prevents
  begins_rel : {a b : ObjId} → Named W a.0 b.0 → EventStepRel W (begins a) (begins b)
  arrives_rel : {a b : ObjId} {phase : Phase} → Named W a.0 b.0 → EventStepRel W (arrives a phase) (arrives b phase)
  rests_rel : EventStepRel W rests rests

-- ---- the parts

module _ {W : World} (p q : EventParts) (h : EventRel (named W) p q) where
  chosen_parts : {u v x y : EventParts} (a b : Bool) → a ≡ b → EventRel (named W) u v → EventRel (named W) x y → EventRel (named W) (if a then u else x) (if b then v else y)
  chosen_parts true true e k r = k
  chosen_parts false false e k r = r
  chosen_parts true false e k r = absurd (cc e)
  chosen_parts false true e k r = absurd (cc e)

  phase_rel : (m n : ℕ) → m ≡ n → EventRel (named W) (record { kind = p.kind; bubbles = p.bubbles; cancelable = p.cancelable; begun = p.begun; sent = p.sent; target = p.target; current = p.current; phase = m })
      (record { kind = q.kind; bubbles = q.bubbles; cancelable = q.cancelable; begun = q.begun; sent = q.sent; target = q.target; current = q.current; phase = n })
  phase_rel m n e = record { kind = h.kind; bubbles = h.bubbles; cancelable = h.cancelable; begun = h.begun; sent = h.sent; target = h.target; current = h.current; phase = e }

  initialised_rel : (x : Text) (bubbles cancelable : Bool) → EventRel (named W) (initialised x bubbles cancelable p) (initialised x bubbles cancelable q)
  initialised_rel x bubbles cancelable =
      chosen_parts p.sent q.sent h.sent h (record { kind = refl; bubbles = refl; cancelable = refl; begun = refl; sent = refl; target = h.target; current = h.current; phase = h.phase })

  stopped_rel : {o r : Option ObjId} → Maybe (ObjectIds (named W)) o r → EventRel (named W) (stopped_in o p) (stopped_in r q)
  stopped_rel none = h
  stopped_rel (some k) = chosen_parts (is_stopped p.phase) (is_stopped q.phase) (ap is_stopped h.phase) h (phase_rel (p.phase + 4) (q.phase + 4) (ap (λ n. n + 4) h.phase))

  prevented_rel : {o r : Option ObjId} → Maybe (ObjectIds (named W)) o r → EventRel (named W) (prevented_in o p) (prevented_in r q)
  prevented_rel none = h
  prevented_rel (some k) =
      chosen_parts (p.cancelable && not (is_prevented p.phase)) (q.cancelable && not (is_prevented q.phase)) (rw (h.cancelable, h.phase) refl)
      (phase_rel (p.phase + 8) (q.phase + 8) (ap (λ n. n + 8) h.phase)) h

  begun_rel : (a b : ObjId) → Named W a.0 b.0 → EventRel (named W) (begun_at a p) (begun_at b q)
  begun_rel a b n =
      chosen_parts (may_begin p) (may_begin q) (rw (h.begun, h.sent) refl)
      (record { kind = h.kind; bubbles = h.bubbles; cancelable = h.cancelable; begun = h.begun; sent = refl; target = some (record { linked = n }); current = h.current; phase = h.phase }) h

  arrived_rel : (a b : ObjId) (phase : Phase) → Named W a.0 b.0 → EventRel (named W) (arrived a phase p) (arrived b phase q)
  arrived_rel a b phase n = record {
    kind = h.kind;
    bubbles = h.bubbles;
    cancelable = h.cancelable;
    begun = h.begun;
    sent = h.sent;
    target = h.target;
    current = some (record { linked = n });
    phase = ap (λ m. if is_prevented m then phase_number phase + 8 else phase_number phase) h.phase;
  }

  pub after_event_rel : {x y : EventStep} → EventStepRel W x y → EventRel (named W) (after_event x p) (after_event y q)
  after_event_rel (initialises_rel {x = x} {bubbles = b} {cancelable = c}) = initialised_rel x b c
  after_event_rel stops_rel = stopped_rel h.current
  after_event_rel prevents_rel = prevented_rel h.current
  after_event_rel (begins_rel {a = a} {b = b} n) = begun_rel a b n
  after_event_rel (arrives_rel {a = a} {b = b} {phase = phase} n) = arrived_rel a b phase n
  after_event_rel rests_rel = record { kind = h.kind; bubbles = h.bubbles; cancelable = h.cancelable; begun = h.begun; sent = h.sent; target = h.target; current = none; phase = refl }

-- ---- both pages

module _ {W : World} {s t : Store} (g : StoreRel W s t) (e f : ObjId) (n : Named W e.0 f.0) where
  fits_event_same : {x y : EventStep} → EventStepRel W x y → fits_event s x ≡ fits_event t y
  fits_event_same (begins_rel {a = a} {b = b} m) = is_node_class_same g (heap.class_read g.heap m)
  fits_event_same (arrives_rel {a = a} {b = b} m) = is_node_class_same g (heap.class_read g.heap m)
  fits_event_same initialises_rel = refl
  fits_event_same stops_rel = refl
  fits_event_same prevents_rel = refl
  fits_event_same rests_rel = refl

  -- it keeps the classes but for the parts
  parts_kept : (x : EventStep) → AreKept W (with_heap s (heap_laws.after_step s.heap (gives_parts e.0 (after_event x))))
  parts_kept x =
      let o : Object = with_class (object_at s.heap.objects e.0) (changed_event (after_event x) (object_at s.heap.objects e.0).class) in
      let step : heap_laws.Step = gives_parts e.0 (after_event x) in
      kept_same g.kept refl (omega (arith, length-set s.heap.objects e.0 o)) (λ j m k. (kinds_steps s.heap (step ∷ []) j (heap.there g.heap k).0).0)

  event_kept : (x : EventStep) → AreKept W (with_heap s (with_event s e x))
  event_kept x = by (fits_event s x)
    where
      by : (b : Bool) → AreKept W (with_heap s (if b then heap_laws.after_step s.heap (gives_parts e.0 (after_event x)) else s.heap))
      by true = parts_kept x
      by false = kept_same g.kept refl (omega arith) (λ j m k. inl refl)

  events_agree : {x y : EventStep} → EventStepRel W x y → Agree W (with_event s e x) (with_event t f y)
  events_agree {x = x} {y = y} h = by (fits_event s x) (fits_event t y) (fits_event_same h)
    where
      by : (a b : Bool) → a ≡ b → Agree W (if a then heap_laws.after_step s.heap (gives_parts e.0 (after_event x)) else s.heap) (if b then heap_laws.after_step t.heap (gives_parts f.0 (after_event y)) else t.heap)
      by true true k = heap.parts_given g.heap n (after_event x) (after_event y) (λ p q r. after_event_rel p q r h)
      by false false k = g.heap
      by true false k = absurd (cc k)
      by false true k = absurd (cc k)

  pub event_changed : {x y : EventStep} → EventStepRel W x y → StoreRel W (after_step s (in_event e x)) (after_step t (in_event f y))
  event_changed {x = x} {y = y} h = record {
    heap = events_agree h;
    lines = g.lines;
    host = g.host;
    built_ins = g.built_ins;
    shaped = shapes.step_shaped s (in_event e x) g.heap.left g.shaped tt;
    kept = event_kept x;
  }

pub changes_event_rel : {V : World} (e f : ObjId) {x y : EventStep} → Named V e.0 f.0 → ((W : World) → Larger V W → EventStepRel W x y)
    → ActRel (Equal {A = Unit {0}}) V (changes_event e x) (changes_event f y)
changes_event_rel e f n h = record { run = λ W l s t m g. ended W heap.larger_same refl (event_changed g e f (heap.named_up l n) (h W l)) }
