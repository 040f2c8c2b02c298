-- How a visit goes on, and what it leads to.
use Rattle.std.proofs.Common.{◌≡◌, refl, sym, ap, ◌∙◌, ℕ, suc, ◌+◌, ◌-◌, ◌≤◌, add-one, Option, Some, None, Result, Ok, Err, IfOk, Bool, true, false, List, ◌∷◌, [], arith, le_refl, le_trans, subst}
use Rattle.js_core.specs.declared.memory.OutOfMemory.{OutOfMemory}
use Rattle.js_values.specs.declared.ids.ObjId.{ObjId}
use Rattle.js_values.specs.declared.throw.Throw.TheVariants.{WrongArgument}
use Rattle.js_values.specs.declared.value.Value.{Value}
use Rattle.js_values.specs.declared.value.Value.TheVariants.{Undefined}
use Rattle.page_meaning.specs.declared.signal.Signal.{Signal}
use Rattle.page_meaning.specs.declared.signal.Signal.TheVariants.{Value as Val, Thrown}
use Rattle.page_meaning.specs.declared.visit.Visit.{Visit}
use Rattle.page_meaning.specs.declared.visit.Visit.TheVariants as visit
use Rattle.page_meaning.specs.Act.{Act, ActOf, Calls, Outcome, Ended, Stopped, also, asking, bind, give, on_value, then_on}
use Rattle.page_meaning.specs.Calls.{calls_at}
use Rattle.page_meaning.specs.Elements.{element, on_element}
use Rattle.page_meaning.specs.Errors.{raise}
use Rattle.page_meaning.specs.Store.{Store}
use Rattle.page_meaning.specs.VisitRows.{arguments_of, past_last, reduce_from, this_of, visits}
use Rattle.page_meaning.specs.VisitRows as row
use Rattle.page_frames.specs.declared.frame.Begin.TheVariants as begin
use Rattle.page_frames.specs.declared.frame.CallFrame.{CallFrame}
use Rattle.page_frames.specs.declared.frame.Frame.TheVariants as frame
use Rattle.page_frames.specs.declared.frame.Visited.{Visited}
use Rattle.page_frames.specs.declared.frame.VisitFrame.{VisitFrame}
use Rattle.page_frames.specs.declared.meter.Meter.{Meter}
use Rattle.page_frames.specs.declared.meter.Next.{Next}
use Rattle.page_frames.specs.declared.meter.Next.TheVariants.{Give, Go, Enter, Then, Stopped as Halted}
use Rattle.page_frames.specs.RestVisits.{rest_visit, visits_from}
use Rattle.page_frames.specs.Step.{Leads, Levels, Steps}
use Rattle.page_frames.specs.Weight.{heavy, load}
use Rattle.page_frames.proofs.Callers.{lighter_before, steps_pay}
use Rattle.js_core.specs.declared.memory.Failure.{Failure}
use Rattle.js_core.specs.declared.memory.Failure.TheVariants as fault
use Rattle.page_state.specs.Does.{Gives, itself}
use Rattle.page_state.specs.declared.turns.Halt.{Halt}
use Rattle.page_state.specs.declared.turns.Halt.TheVariants as halt
use Rattle.page_state.specs.Turns.{Comes, Tells as Told}
use Rattle.step_visit.specs.Advancing.{CallsFor, Climbs, called_for}
use Rattle.step_visit.specs.declared.telling.Told.TheVariants as told
use Rattle.step_visit.specs.Finding.{next_found}
use Rattle.step_visit.specs.Stopping.{Stops}
use Rattle.step_visit.specs.Telling.{Comes as Tells}
use Rattle.step_parts.proofs.Callers.{IsGiven, comes_lower, fewer, gives_lower, lowers_as}
use Rattle.step_visit.proofs.Seeking.{one_taken, seeks}

-- ---- the search, and what is done with what it finds

abbrev found_for : Calls → Visited → Visit → Option (ℕ × Value) → Act
found_for calls x kind None = give (past_last kind)
found_for calls x kind (Some p) = called_for calls x kind p.0 p.1

-- a visit from an index on is the search for the next element, and the call for it
visits_seek : (calls : Calls) (x : Visited) (kind : Visit) (k : ℕ) (s : Store) (n : ℕ) → (visits_from calls x kind k).run s n ≡ (bind (next_found x.list k (x.length - k)) (found_for calls x kind)).run s n
visits_seek calls x kind k s n =
    seeks x.list x.length (λ i m. visits calls x.callback x.this x.list kind i m)
    (λ i m v. also (calls.call x.callback (this_of kind x.this) (arguments_of kind v i x.list)) (λ w. row.told kind v i w (λ next. visits calls x.callback x.this x.list next (suc i) m)))
    (found_for calls x kind) (λ i. refl) (λ i m. refl) (λ i v. refl) k (x.length - k) refl s n

abbrev found_first : Calls → Visited → Option (ℕ × Value) → Act
found_first calls x None = raise WrongArgument
found_first calls x (Some p) = visits_from calls x (visit.Reduce p.1) (suc p.0)

reduces_seek : (calls : Calls) (x : Visited) (s : Store) (n : ℕ) → x.this ≡ Undefined → (reduce_from calls x.callback x.list 0 x.length).run s n ≡ (bind (next_found x.list 0 (x.length - 0)) (found_first calls x)).run s n
reduces_seek calls x s n e =
    let all : x.length ≡ x.length - 0 = omega arith in
    seeks x.list x.length (λ i m. reduce_from calls x.callback x.list i m) (λ i m v. visits calls x.callback Undefined x.list (visit.Reduce v) (suc i) m)
    (found_first calls x) (λ i. refl) (λ i m. refl) (λ i v. ap (λ t. visits calls x.callback t x.list (visit.Reduce v) (suc i) (x.length - suc i)) (sym e)) 0 x.length all s n
    ∙ ap (λ k. (bind (next_found x.list 0 k) (found_first calls x)).run s n) all

-- from the start all elements have their turns
pub from_start : {E : Type 0} (x : Visited) (kind : Visit) (w t : Store) (m m1 : Meter) (r : Result Next E) → IfOk r (λ n. Climbs (λ calls. visits_from calls x kind 0) w m n t m1)
    → IfOk r (λ n. Climbs (λ calls. visits calls x.callback x.this x.list kind 0 x.length) w m n t m1)
from_start x kind w t m m1 r h =
    let all : x.length ≡ x.length - 0 = omega arith in
    lowers_as (λ calls. visits calls x.callback x.this x.list kind 0 x.length) (λ calls. visits_from calls x kind 0) 0 0 w t m m1 r
    (λ calls n. ap (λ k. (visits calls x.callback x.this x.list kind 0 k).run w n) all) (le_refl 0) h

-- ---- what it leads to

is_heavy : 2 ≤ heavy
unfolding heavy
is_heavy = omega arith

-- an element is there
pub to_element : {E : Type 0} (x : Visited) (kind : Visit) (k : ℕ) (w : Store) (m mid m1 : Meter) (p : ℕ × Value) (r : Result Next E) → mid.depth ≡ m.depth
    → Comes (λ _. next_found x.list k (x.length - k)) w m.steps (Ended (Some p) w mid.steps) → IfOk r (λ n. CallsFor x kind p.0 p.1 mid n m1)
    → IfOk r (λ n. Climbs (λ calls. visits_from calls x kind k) w m n w m1)
to_element x kind k w m mid m1 p (Err e) same found h = h
to_element x kind k w m mid m1 p (Ok n) same found h = λ d lower.
    let a : Leads (called_for (calls_at d) x kind p.0 p.1) 2 w mid n w m1 = h w d (same ∙ lower) in
    record {
      follows = visits_seek (calls_at d) x kind k w m.steps ∙ ap (λ o. then_on o (found_for (calls_at d) x kind)) (found.is (calls_at d)) ∙ a.follows;
      levels = rw (← same) (a.levels);
      lighter = steps_pay 2 0 m mid n m1 (one_taken x.list k (x.length - k) w m.steps w mid.steps p (found.is (calls_at d))) is_heavy a.lighter;
    }

-- there is none
pub to_end : (x : Visited) (kind : Visit) (k : ℕ) (w : Store) (m mid : Meter) → mid.depth ≡ m.depth → Comes (λ _. next_found x.list k (x.length - k)) w m.steps (Ended None w mid.steps)
    → Climbs (λ calls. visits_from calls x kind k) w m (Give (Val (past_last kind))) w mid
to_end x kind k w m mid same found d lower =
    record {
      follows = visits_seek (calls_at d) x kind k w m.steps ∙ ap (λ o. then_on o (found_for (calls_at d) x kind)) (found.is (calls_at d));
      levels = same;
      lighter = fewer (next_found x.list k (x.length - k)) w w m.steps mid.steps None (found.is (calls_at d));
    }

-- no step was left
to_stop : (x : Visited) (kind : Visit) (k : ℕ) (w : Store) (m mid : Meter) → Comes (λ _. next_found x.list k (x.length - k)) w m.steps (Stopped w)
    → Climbs (λ calls. visits_from calls x kind k) w m Halted w mid
to_stop x kind k w m mid found d lower =
    record {
      follows = visits_seek (calls_at d) x kind k w m.steps ∙ ap (λ o. then_on o (found_for (calls_at d) x kind)) (found.is (calls_at d));
      levels = tt;
      lighter = tt;
    }

pub to_halt : (x : Visited) (kind : Visit) (k : ℕ) (h : Halt) (w : Store) (m mid : Meter) (r : Result Next OutOfMemory) → Told (λ _. next_found x.list k (x.length - k)) w m.steps w mid.steps (Err h) → Stops h r
    → IfOk r (λ n. Climbs (λ calls. visits_from calls x kind k) w m n w mid)
to_halt x kind k h w m mid (Err e) found stops = tt
to_halt x kind k halt.Stopped w m mid (Ok n) found stops = rw stops (to_stop x kind k w m mid found)
to_halt x kind k (halt.Fault e) w m mid (Ok n) found stops = absurd stops

-- ---- the call for an element

paid_call : (steps : ℕ) → load steps (suc 0 + suc 0) ≤ load steps 2
paid_call steps = le_refl (load steps 2)

pub calls_for : (x : Visited) (kind : Visit) (k : ℕ) (v : Value) (call : CallFrame) (m m1 : Meter)
    → call ≡ record { construct = false; callee = x.callback; this = this_of kind x.this; args = arguments_of kind v k x.list } → m1.steps ≡ m.steps → m1.depth ≡ m.depth - 1
    → CallsFor x kind k v m (Then (frame.Visit (record { visited = x; visit = kind; index = k; element = v })) (begin.Call call)) m1
calls_for x kind k v call m m1 is steps depth w d lower =
    let under : m1.depth ≡ d = omega (arith, depth, lower) in
    rw is (record {
      follows = rw (under, steps) refl;
      levels = omega (arith, under, lower);
      lighter = rw steps (paid_call m.steps);
    })

-- ---- what the function gave

-- what is done with the visits that come next
abbrev with_next : ((Visit → Act) → Act) → Visited → ℕ → Calls → Act
with_next act x k calls = act (λ kind. visits_from calls x kind (suc k))

-- the visit ends, or what it makes of it throws
pub told_ends : {E : Type 0} (act : (Visit → Act) → Act) (x : Visited) (k : ℕ) (v : Value) (s t : Store) (m : Meter) (r : Result Next E) → Tells act s t (Ok (told.Ends v)) → IsGiven (Ok v) r
    → IfOk r (λ n. Climbs (with_next act x k) s m n t m)
told_ends act x k v s t m r h g = gives_lower (with_next act x k) (Ok v) 0 s t m r (record { is = λ calls n. h (λ kind. visits_from calls x kind (suc k)) n }) g

throws : (act : (Visit → Act) → Act) (x : Visited) (k : ℕ) (s t : Store) (e : Failure Value) → Tells act s t (Err e) → Gives itself (with_next act x k) s t (Err e)
throws act x k s t (fault.Cause u) h = record { is = λ calls n. h (λ kind. visits_from calls x kind (suc k)) n }
throws act x k s t fault.OutOfMemory h = tt

pub told_throws : {E : Type 0} (act : (Visit → Act) → Act) (x : Visited) (k : ℕ) (e : Failure Value) (s t : Store) (m : Meter) (r : Result Next E) → Tells act s t (Err e) → IsGiven (Err e) r
    → IfOk r (λ n. Climbs (with_next act x k) s m n t m)
told_throws act x k e s t m r h g = gives_lower (with_next act x k) (Err e) 0 s t m r (throws act x k s t e h) g

-- it goes on
pub told_on : {E : Type 0} (act : (Visit → Act) → Act) (x : Visited) (k next : ℕ) (kind : Visit) (s t : Store) (m m1 : Meter) (r : Result Next E) → Tells act s t (Ok (told.GoesOn kind)) → next ≡ k + 1
    → IfOk r (λ n. Climbs (λ calls. visits_from calls x kind next) t m n t m1) → IfOk r (λ n. Climbs (with_next act x k) s m n t m1)
told_on act x k next kind s t m m1 (Err e) h is g = g
told_on act x k next kind s t m m1 (Ok n) h is g = λ d lower.
    let l : Leads (visits_from (calls_at d) x kind next) 0 t m n t m1 = g d lower in
    record {
      follows =
          h (λ q. visits_from (calls_at d) x q (suc k)) m.steps
          ∙ ap (λ i. (visits_from (calls_at d) x kind i).run t m.steps) (sym (is ∙ add-one k)) ∙ l.follows;
      levels = l.levels;
      lighter = l.lighter;
    }

-- the level of depth comes back
pub visit_steps : {E : Type 0} (f : VisitFrame) (given : Value) (w t : Store) (m m2 m1 : Meter) (r : Result Next E) → m2 ≡ record { steps = m.steps; depth = suc m.depth }
    → IfOk r (λ n. Climbs (λ calls. rest_visit calls f given) w m2 n t m1) → IfOk r (λ n. Steps (frame.Visit f) (Val given) w m n t m1)
visit_steps f given w t m m2 m1 (Err e) is h = h
visit_steps f given w t m m2 m1 (Ok n) is h =
    let deeper : m2.depth ≡ suc m.depth = rw is refl in
    let same : m.steps ≡ m2.steps = rw is refl in
    let fewer : m2.steps ≤ m.steps = omega (arith, same) in
    let l : Leads (rest_visit (calls_at m.depth) f given) 0 w m2 n t m1 = h m.depth deeper in
    record {
      follows = ap (λ k. (rest_visit (calls_at m.depth) f given).run w k) same ∙ l.follows;
      levels = subst (λ k. Levels k n m1) deeper l.levels;
      lighter = lighter_before 0 m m2 n m1 fewer l.lighter;
    }

-- ---- `reduce` without a value to begin with

-- the first element is accumulated
pub first_found : {E : Type 0} (x : Visited) (w t : Store) (m mid m1 : Meter) (p : ℕ × Value) (next : ℕ) (r : Result Next E) → mid.depth ≡ m.depth → x.this ≡ Undefined
    → Comes (λ _. next_found x.list 0 (x.length - 0)) w m.steps (Ended (Some p) w mid.steps) → next ≡ p.0 + 1 → IfOk r (λ n. Climbs (λ calls. visits_from calls x (visit.Reduce p.1) next) w mid n t m1)
    → IfOk r (λ n. Climbs (λ calls. reduce_from calls x.callback x.list 0 x.length) w m n t m1)
first_found x w t m mid m1 p next r same none found is h =
    lowers_as (λ calls. reduce_from calls x.callback x.list 0 x.length) (λ calls. bind (next_found x.list 0 (x.length - 0)) (found_first calls x)) 0 0 w t m m1 r
    (λ calls n. reduces_seek calls x w n none) (le_refl 0)
    (comes_lower (λ _. next_found x.list 0 (x.length - 0)) (λ calls. found_first calls x) (Some p) 0 w w t m mid m1 r same found (rw (is ∙ add-one p.0) at h))

-- there is none
pub none_first : {E : Type 0} (x : Visited) (e : Failure Value) (w t : Store) (m mid : Meter) (r : Result Next E) → mid.depth ≡ m.depth → x.this ≡ Undefined
    → Comes (λ _. next_found x.list 0 (x.length - 0)) w m.steps (Ended None w mid.steps) → Gives itself (λ _. raise WrongArgument) w t (Err e) → IsGiven (Err e) r
    → IfOk r (λ n. Climbs (λ calls. reduce_from calls x.callback x.list 0 x.length) w m n t mid)
none_first x e w t m mid r same none found raised g =
    lowers_as (λ calls. reduce_from calls x.callback x.list 0 x.length) (λ calls. bind (next_found x.list 0 (x.length - 0)) (found_first calls x)) 0 0 w t m mid r
    (λ calls n. reduces_seek calls x w n none) (le_refl 0)
    (comes_lower (λ _. next_found x.list 0 (x.length - 0)) (λ calls. found_first calls x) None 0 w w t m mid mid r same found (gives_lower (λ _. raise WrongArgument) (Err e) 0 w t mid r raised g))

first_stops : (x : Visited) (w : Store) (m mid : Meter) → x.this ≡ Undefined → Comes (λ _. next_found x.list 0 (x.length - 0)) w m.steps (Stopped w)
    → Climbs (λ calls. reduce_from calls x.callback x.list 0 x.length) w m Halted w mid
first_stops x w m mid none found d lower =
    record {
      follows = reduces_seek (calls_at d) x w m.steps none ∙ ap (λ o. then_on o (found_first (calls_at d) x)) (found.is (calls_at d));
      levels = tt;
      lighter = tt;
    }

pub first_halts : (x : Visited) (h : Halt) (w : Store) (m mid : Meter) (r : Result Next OutOfMemory) → x.this ≡ Undefined → Told (λ _. next_found x.list 0 (x.length - 0)) w m.steps w mid.steps (Err h) → Stops h r
    → IfOk r (λ n. Climbs (λ calls. reduce_from calls x.callback x.list 0 x.length) w m n w mid)
first_halts x h w m mid (Err e) none found stops = tt
first_halts x halt.Stopped w m mid (Ok n) none found stops = rw stops (first_stops x w m mid none found)
first_halts x (halt.Fault e) w m mid (Ok n) none found stops = absurd stops
