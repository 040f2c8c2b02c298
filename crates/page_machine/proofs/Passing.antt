-- Time passes: timers come due one after another.
use Rattle.std.proofs.Common.{◌≡◌, refl, sym, ap, ◌∙◌, ℕ, zero, suc, ◌<◌, ◌≤◌, Bool, true, false, [], Option, Some, None, is_some, option_map, Result, Ok, Err, IfOk, arith}
use Rattle.js_values.specs.declared.ids.ObjId.{ObjId}
use Rattle.js_values.specs.declared.value.Value.TheVariants.{Object}
use Rattle.timer_queue.specs.declared.timer.Live.{Live}
use Rattle.page_host.specs.Steps.{clock_at, fires, next_timer}
use Rattle.page_meaning.specs.declared.signal.Signal.{Signal}
use Rattle.page_meaning.specs.Act.{Act, Outcome, Ended, Stopped, bind, done, nothing, then_on}
use Rattle.page_meaning.specs.Calls.{calls_at}
use Rattle.page_meaning.specs.Lines.{put_uncaught}
use Rattle.page_meaning.specs.Places.{window}
use Rattle.page_meaning.specs.Primitives.{changes_host}
use Rattle.page_meaning.specs.Store.{Store}
use Rattle.page_meaning.specs.TimerRows.{fired, firings}
use Rattle.page_frames.specs.declared.meter.Meter.{Meter}
use Rattle.page_state.specs.Does.{Does}
use Rattle.step_parts.proofs.Callers.{fewer}
use Rattle.page_machine.specs.declared.machine.End.{End}
use Rattle.page_machine.specs.declared.machine.End.TheVariants as end
use Rattle.page_machine.specs.Ends.{outcome_of}
use Rattle.page_machine.specs.Firing.{EndIsPut, Fired, Stops}

-- the timer that is due, with its function
record IsDue (o : Option Live) (f : ObjId) : Type 0 where
  timer : Live
  there : o ≡ Some timer
  call : f ≡ timer.call

due_timer : (o : Option Live) (f : ObjId) → Some f ≡ option_map (λ t. t.call) o → IsDue o f
due_timer None f h = cc
due_timer (Some t) f h = let same : f ≡ t.call = cc in record { timer = t; there = refl; call = same }

called_on : (moment : ℕ) (f : ObjId) (given : Signal) (s u v t : Store) (m mid m' : Meter) → IsDue (next_timer s.host moment) f → m.steps ≡ suc mid.steps → mid.depth ≡ m.depth
    → Does (λ _. changes_host (fires moment)) s tt u → Ended given v m'.steps ≡ ((calls_at mid.depth).call (Object f) (Object window) []).run u mid.steps → Does (λ _. put_uncaught given) v tt t
    → (next : Unit {0} → Act) (last : Act) → (fired (calls_at m.depth) moment next last (next_timer s.host moment)).run s m.steps ≡ (next tt).run t m'.steps
called_on moment f given s u v t m mid m' due step depth fire ran put next last =
    let ran' : ((calls_at m.depth).call (Object due.timer.call) (Object window) []).run u mid.steps ≡ Ended given v m'.steps = sym (rw (depth, due.call) at ran) in
    rw (due.there)
    (rw step
    (ap (λ o. then_on o (λ _. bind ((calls_at m.depth).call (Object due.timer.call) (Object window) []) (λ g. bind (put_uncaught g) next))) (fire.is (calls_at m.depth) mid.steps)
    ∙ rw ran' (rw (put.is (calls_at m.depth) m'.steps) refl)))

stopped_in : (moment : ℕ) (f : ObjId) (s u v : Store) (m mid : Meter) → IsDue (next_timer s.host moment) f → m.steps ≡ suc mid.steps → mid.depth ≡ m.depth
    → Does (λ _. changes_host (fires moment)) s tt u → Stopped v ≡ ((calls_at mid.depth).call (Object f) (Object window) []).run u mid.steps → Stops moment s m v
stopped_in moment f s u v m mid due step depth fire ran next last =
    let ran' : ((calls_at m.depth).call (Object due.timer.call) (Object window) []).run u mid.steps ≡ Stopped v = sym (rw (depth, due.call) at ran) in
    rw (due.there)
    (rw step
    (ap (λ o. then_on o (λ _. bind ((calls_at m.depth).call (Object due.timer.call) (Object window) []) (λ g. bind (put_uncaught g) next))) (fire.is (calls_at m.depth) mid.steps)
    ∙ rw ran' refl))

-- a timer fires, and what it came to is put out
fires_next : (moment : ℕ) (f : ObjId) (e : End) (on : Bool) (s u v t : Store) (m mid m' : Meter) → Some f ≡ option_map (λ x. x.call) (next_timer s.host moment) → m.steps ≡ suc mid.steps
    → mid.depth ≡ m.depth → m'.depth ≡ mid.depth → Does (λ _. changes_host (fires moment)) s tt u
    → outcome_of e v m'.steps ≡ ((calls_at mid.depth).call (Object f) (Object window) []).run u mid.steps → EndIsPut e v on t → Fired moment s m on t m'
fires_next moment f (end.Ended given) true s u v t m mid m' due step depth stays fire ran put =
    record {
      fewer =
          let less : m'.steps ≤ mid.steps = fewer ((calls_at mid.depth).call (Object f) (Object window) []) u v mid.steps m'.steps given (sym ran) in
          omega (arith, less, step);
      depth = stays ∙ depth;
      same = called_on moment f given s u v t m mid m' (due_timer (next_timer s.host moment) f due) step depth fire ran put;
    }
fires_next moment f (end.Ended given) false s u v t m mid m' due step depth stays fire ran put = absurd put
fires_next moment f end.Stopped true s u v t m mid m' due step depth stays fire ran put = absurd put
fires_next moment f end.Stopped false s u v t m mid m' due step depth stays fire ran put =
    rw put (stopped_in moment f s u v m mid (due_timer (next_timer s.host moment) f due) step depth fire ran)

pub fires_if : {E : Type 0} (moment : ℕ) (f : ObjId) (e : End) (r : Result Bool E) (s u v t : Store) (m mid m' : Meter) → Some f ≡ option_map (λ x. x.call) (next_timer s.host moment) → m.steps ≡ suc mid.steps
    → mid.depth ≡ m.depth → m'.depth ≡ mid.depth → Does (λ _. changes_host (fires moment)) s tt u
    → outcome_of e v m'.steps ≡ ((calls_at mid.depth).call (Object f) (Object window) []).run u mid.steps → IfOk r (λ on. EndIsPut e v on t) → IfOk r (λ on. Fired moment s m on t m')
fires_if moment f e (Err x) s u v t m mid m' due step depth stays fire ran put = put
fires_if moment f e (Ok on) s u v t m mid m' due step depth stays fire ran put = fires_next moment f e on s u v t m mid m' due step depth stays fire ran put

-- ---- from firing to firing

-- there are no more firings than steps are left, and one, and what is left to do has this outcome
pub record Passes (moment : ℕ) (s : Store) (m : Meter) (d : ℕ) (o : Outcome Signal) : Type 0 where
  pub turns : ℕ
  pub enough : m.steps < turns
  pub depth : m.depth ≡ d
  pub same : (firings turns (calls_at d) moment).run s m.steps ≡ o

-- none is due any more
none_left : (moment : ℕ) (k : ℕ) (s t : Store) (n d : ℕ) (o : Outcome Signal) (x : Option Live) → n < k → (firings k (calls_at d) moment).run s n ≡ o → next_timer s.host moment ≡ x → is_some x ≡ false
    → Does (λ _. changes_host (clock_at moment)) s tt t → Ended nothing t n ≡ o
none_left moment zero s t n d o x enough same is none clock = absurd (omega (arith, enough))
none_left moment (suc k) s t n d o (Some y) enough same is none clock = cc
none_left moment (suc k) s t n d o None enough same is none clock =
    let ran : (bind (changes_host (clock_at moment)) (λ _. done)).run s n ≡ o = rw is at same in
    sym (ap (λ o. then_on o (λ _. done)) (clock.is (calls_at d) n)) ∙ ran

pub ends : (moment : ℕ) (s t : Store) (m : Meter) (d : ℕ) (o : Outcome Signal) → Passes moment s m d o → false ≡ is_some (next_timer s.host moment) → Does (λ _. changes_host (clock_at moment)) s tt t
    → Ended nothing t m.steps ≡ o
ends moment s t m d o p none clock = none_left moment p.turns s t m.steps d o (next_timer s.host moment) p.enough p.same refl (sym none) clock
