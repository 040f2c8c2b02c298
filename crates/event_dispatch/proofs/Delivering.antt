-- How a dispatch begins, waits and ends.
use Rattle.std.proofs.Common.{◌≡◌, refl, sym, ap, ◌∙◌, ℕ, suc, ◌+◌, ◌-◌, ◌*◌, ◌^◌, ◌<◌, ◌≤◌, Bool, true, false, not, List, length, Option, Some, None, is_some, Result, Ok, Err, IfOk, arith, le_refl}
use Rattle.js_values.specs.declared.ids.NodeId.{NodeId}
use Rattle.js_values.specs.declared.ids.ObjId.{ObjId}
use Rattle.js_values.specs.declared.throw.Throw.TheVariants.{UnspecifiedEventType, WrongArgument}
use Rattle.js_values.specs.declared.value.Value.{Value}
use Rattle.js_values.specs.declared.value.Value.TheVariants.{Bool as Truth}
use Rattle.object_heap.specs.declared.object.EventParts.{EventParts}
use Rattle.page_host.specs.declared.path.Place.{Place}
use Rattle.page_host.specs.Paths.{event_path}
use Rattle.page_meaning.specs.declared.signal.Signal.{Signal}
use Rattle.page_meaning.specs.declared.signal.Signal.TheVariants.{Value as Val, Thrown, Return, Break, Continue}
use Rattle.page_meaning.specs.Act.{Act, Calls, Outcome, Ended, Stopped, asking, bind, give, ret, then_on}
use Rattle.page_meaning.specs.Calls.{calls_at}
use Rattle.page_meaning.specs.Classes.{class_of}
use Rattle.page_meaning.specs.Dispatch.{deliver, dispatch, object_of_place, parts_at, visit_places}
use Rattle.page_meaning.specs.Dispatch as row
use Rattle.page_meaning.specs.Errors.{raise}
use Rattle.page_meaning.specs.Events.{begins, is_prevented, may_begin, rests}
use Rattle.page_meaning.specs.Lines.{put_uncaught}
use Rattle.page_meaning.specs.NodeRows.{object_in, on_node, or_wrong, parts_in}
use Rattle.page_meaning.specs.Primitives.{changes_event}
use Rattle.page_meaning.specs.Store.{Store}
use Rattle.page_frames.specs.declared.frame.Begin.TheVariants as begin
use Rattle.page_frames.specs.declared.frame.DeliverFrame.{DeliverFrame}
use Rattle.page_frames.specs.declared.frame.Frame.TheVariants as frame
use Rattle.page_frames.specs.declared.meter.Meter.{Meter}
use Rattle.page_frames.specs.declared.meter.Next.{Next}
use Rattle.page_frames.specs.declared.meter.Next.TheVariants.{Give, Then}
use Rattle.page_frames.specs.RestCalls.{ended}
use Rattle.page_frames.specs.Step.{Begins, Leads, Lowers, Steps}
use Rattle.page_frames.specs.Weight.{heavy, load, many}
use Rattle.page_state.specs.Does.{Does}
use Rattle.page_state.specs.Finding.{event_of, node_of, object_if}
use Rattle.step_parts.proofs.Callers.{lowers_as}
use Rattle.event_dispatch.specs.Turning.{BeginsBelow, Turns, deliver_value, left_at, weigh_left}
use Rattle.event_dispatch.proofs.Turning.{does_turn, turns_as}

-- ---- the end

pub gives_end : (e : ObjId) (b : Bool) (s t : Store) → b ≡ is_prevented (parts_at s e).phase → Does (λ _. changes_event e rests) s tt t → Turns 0 (λ _. row.ended e) s (Give (Val (Truth (not b)))) t
gives_end e b s t is d m =
    record {
      follows =
          ap (λ o. then_on o (λ _. give (Truth (not (is_prevented (parts_at s e).phase))))) (d.is (calls_at m.depth) m.steps)
          ∙ ap (λ x. Ended (Val (Truth (not x))) t m.steps) (sym is);
      levels = refl;
      lighter = le_refl m.steps;
    }

-- ---- the way

path_paid : (ps : List Place) → length ps < 2 ^ 64 → length ps * many ≤ 2 ^ 129
unfolding many
path_paid ps few = omega (arith, few)

abbrev on_way : ObjId → NodeId → Bool → Calls → Act
on_way e k b calls = asking (λ s. event_path s.host.nodes k b) (visit_places calls e)

pub dispatched : {E : Type 0} (e : ObjId) (k : NodeId) (b c : Bool) (ps : List Place) (s u t : Store) (r : Result Next E) → b ≡ c → Does (λ _. changes_event e (begins (object_of_place k s))) s tt u
    → ps ≡ event_path u.host.nodes k b → length ps < 2 ^ 64 → IfOk r (λ n. Turns (length ps * many) (λ calls. visit_places calls e ps) u n t)
    → IfOk r (λ n. Turns (2 ^ 129) (λ calls. dispatch calls e k c) s n t)
dispatched e k b c ps s u t r bubbles does way few h =
    let path : ps ≡ event_path u.host.nodes k c = rw bubbles at way in
    turns_as (λ calls. dispatch calls e k c) (λ calls. bind (changes_event e (begins (object_of_place k s))) (λ _. on_way e k c calls)) (2 ^ 129) (2 ^ 129) s t r (λ calls n. refl) (le_refl (2 ^ 129))
    (does_turn (λ _. changes_event e (begins (object_of_place k s))) (λ calls _. on_way e k c calls) tt (2 ^ 129) s u t r does
    (turns_as (on_way e k c) (λ calls. visit_places calls e ps) (length ps * many) (2 ^ 129) u t r (λ calls n. ap (λ q. (visit_places calls e q).run u n) (sym path)) (path_paid ps few) h))

-- ---- a dispatch begins

turn_begins : {E : Type 0} (e : ObjId) (k : NodeId) (s t : Store) (m : Meter) (r : Result Next E) → IfOk r (λ n. Turns (2 ^ 129) (λ calls. deliver calls e k) s n t) → IfOk r (λ n. Begins (begin.Deliver e k) s m n t m)
turn_begins e k s t m (Err x) h = h
turn_begins e k s t m (Ok n) h = h m

pub begins_once : {E : Type 0} (e : ObjId) (k : NodeId) (s t : Store) (m : Meter) (r : Result Next E) → true ≡ may_begin (parts_at s e)
    → IfOk r (λ n. Turns (2 ^ 129) (λ calls. dispatch calls e k (parts_at s e).bubbles) s n t) → IfOk r (λ n. Begins (begin.Deliver e k) s m n t m)
begins_once e k s t m r may h =
    turn_begins e k s t m r
    (turns_as (λ calls. deliver calls e k) (λ calls. dispatch calls e k (parts_at s e).bubbles) (2 ^ 129) (2 ^ 129) s t r (λ calls n. rw (← may) refl) (le_refl (2 ^ 129)) h)

pub begins_not : {E : Type 0} (e : ObjId) (k : NodeId) (s t : Store) (m : Meter) (r : Result Next E) → false ≡ may_begin (parts_at s e)
    → IfOk r (λ n. Leads (raise UnspecifiedEventType) (2 ^ 129) s m n t m) → IfOk r (λ n. Begins (begin.Deliver e k) s m n t m)
begins_not e k s t m (Err x) may h = h
begins_not e k s t m (Ok n) may h = record { follows = rw (← may) (h.follows); levels = h.levels; lighter = h.lighter }

-- ---- it goes on from the end of a listener

pub goes_on : {E : Type 0} (f : DeliverFrame) (given : Signal) (s u t : Store) (m : Meter) (r : Result Next E) → Does (λ _. put_uncaught given) s tt u
    → IfOk r (λ n. Turns (weigh_left f.round f.later) (left_at f.event f.place f.round f.later) u n t) → IfOk r (λ n. Steps (frame.Deliver f) given s m n t m)
goes_on f given s u t m r d h =
    stepped r (does_turn (λ _. put_uncaught given) (λ calls _. left_at f.event f.place f.round f.later calls) tt (weigh_left f.round f.later) s u t r d h)
  where
    stepped : {E : Type 0} (r : Result Next E) → IfOk r (λ n. Turns (weigh_left f.round f.later) (λ calls. bind (put_uncaught given) (λ _. left_at f.event f.place f.round f.later calls)) s n t)
        → IfOk r (λ n. Steps (frame.Deliver f) given s m n t m)
    stepped (Err x) h = h
    stepped (Ok n) h = h m

-- ---- `dispatchEvent`

unchanged : (o : Outcome Signal) → o ≡ then_on o (λ s. ret (ended false None s))
unchanged (Ended (Val v) w n) = refl
unchanged (Ended (Thrown v) w n) = refl
unchanged (Ended (Return v) w n) = refl
unchanged (Ended Break w n) = refl
unchanged (Ended Continue w n) = refl
unchanged (Stopped w) = refl

paid_below : (n : ℕ) → load n (suc 0 + suc (2 ^ 129)) ≤ load n heavy
unfolding heavy
paid_below n = omega arith

pub begins_below : (e : ObjId) (k : NodeId) (m m1 : Meter) → m1.steps ≡ m.steps → m1.depth ≡ m.depth - 1
    → BeginsBelow e k m (Then (frame.Called (record { body = false; fresh = None })) (begin.Deliver e k)) m1
begins_below e k m m1 steps depth w d lower =
    let under : m1.depth ≡ d = omega (arith, depth, lower) in
    record {
      follows = rw (under, steps) (unchanged ((deliver (calls_at d) e k).run w m.steps));
      levels = omega (arith, under, lower);
      lighter = rw steps (paid_below m.steps);
    }

below_at : {E : Type 0} (e : ObjId) (k : NodeId) (w : Store) (m m1 : Meter) (r : Result Next E) → IfOk r (λ n. BeginsBelow e k m n m1) → IfOk r (λ n. Lowers heavy (λ calls. deliver calls e k) w m n w m1)
below_at e k w m m1 (Err x) h = h
below_at e k w m m1 (Ok n) h = h w

-- what must be an event
the_event : (o : Option EventParts) (v : Value) (e : ObjId) (g : ObjId → Act) (s : Store) (n : ℕ) → Some e ≡ object_if (is_some o) v
    → (or_wrong (λ parts. or_wrong g (object_in v)) o).run s n ≡ (g e).run s n
the_event None v e g s n h = cc
the_event (Some parts) v e g s n h = rw (← h) refl

no_event : (o : Option EventParts) (v : Value) (g : ObjId → Act) (s : Store) (n : ℕ) → None ≡ object_if (is_some o) v
    → (or_wrong (λ parts. or_wrong g (object_in v)) o).run s n ≡ (raise WrongArgument).run s n
no_event None v g s n h = refl
no_event (Some parts) v g s n h = rw (← h) refl

pub on_the_event : {E : Type 0} (k : NodeId) (v : Value) (e : ObjId) (w : Store) (m m1 : Meter) (r : Result Next E) → Some e ≡ event_of w v → IfOk r (λ n. BeginsBelow e k m n m1)
    → IfOk r (λ n. Lowers heavy (deliver_value k v) w m n w m1)
on_the_event k v e w m m1 r is h =
    lowers_as (deliver_value k v) (λ calls. deliver calls e k) heavy heavy w w m m1 r
    (λ calls n. the_event (parts_in (class_of w v)) v e (λ x. deliver calls x k) w n is) (le_refl heavy) (below_at e k w m m1 r h)

pub on_no_event : {E : Type 0} (k : NodeId) (v : Value) (w t : Store) (m : Meter) (r : Result Next E) → None ≡ event_of w v → IfOk r (λ n. Lowers heavy (λ _. raise WrongArgument) w m n t m)
    → IfOk r (λ n. Lowers heavy (deliver_value k v) w m n t m)
on_no_event k v w t m r is h =
    lowers_as (deliver_value k v) (λ _. raise WrongArgument) heavy heavy w t m m r
    (λ calls n. no_event (parts_in (class_of w v)) v (λ x. deliver calls x k) w n is) (le_refl heavy) h

-- and what must be a node
pub on_the_node : {E : Type 0} (v : Value) (f : Calls → NodeId → Act) (k : NodeId) (w t : Store) (m m1 : Meter) (r : Result Next E) → Some k ≡ node_of w v → IfOk r (λ n. Lowers heavy (λ calls. f calls k) w m n t m1)
    → IfOk r (λ n. Lowers heavy (λ calls. on_node v (f calls)) w m n t m1)
on_the_node v f k w t m m1 r is h = lowers_as (λ calls. on_node v (f calls)) (λ calls. f calls k) heavy heavy w t m m1 r (λ calls n. rw (← is) refl) (le_refl heavy) h

pub on_no_node : {E : Type 0} (v : Value) (f : Calls → NodeId → Act) (w t : Store) (m : Meter) (r : Result Next E) → None ≡ node_of w v → IfOk r (λ n. Lowers heavy (λ _. raise WrongArgument) w m n t m)
    → IfOk r (λ n. Lowers heavy (λ calls. on_node v (f calls)) w m n t m)
on_no_node v f w t m r is h = lowers_as (λ calls. on_node v (f calls)) (λ _. raise WrongArgument) heavy heavy w t m m r (λ calls n. rw (← is) refl) (le_refl heavy) h
