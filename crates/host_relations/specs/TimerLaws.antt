-- The laws of timers of two pages.
use Rattle.std.specs.Prelude.{◌≡◌, ℕ, List, Option}
use Rattle.js_values.specs.declared.ids.ObjId.{ObjId}
use Rattle.timer_queue.specs.Laws.{HasDistinctIds}
use Rattle.timer_queue.specs.Timely.{AreTimely}
use Rattle.timer_queue.specs.Timers.{IsIn, after_taking, cleared, due_timers, first, is_live, least_free, started}
use Rattle.timer_queue.specs.declared.timer.Live.{Live}
use Rattle.heap_relations.specs.Naming.{Named, World}
use Rattle.heap_relations.specs.Related.{Maybe}
use Rattle.host_relations.specs.Timers.{Clocks, MomentRel, TimerRel, TimersRel}
use Rattle.host_relations.specs.Restart.{moved_timers, rebuilt}

pub record TimersAgree (R : ℕ → ℕ → Type 0) (c : Clocks) (ts us : List Live) : Type 0 where
  pub live : (id : ℕ) → is_live ts id ≡ is_live us id
  pub free : least_free ts ≡ least_free us
  pub starts : (now late delay : ℕ) (period : Option ℕ) (k l : ObjId) → MomentRel c now late → R k.0 l.0
      → TimersRel R c (started ts now delay period k) (started us late delay period l)
  pub clears : (id : ℕ) → TimersRel R c (cleared ts id) (cleared us id)
  pub all_due : (m n : ℕ) → MomentRel c m n → TimersRel R c (due_timers ts m) (due_timers us n)
  pub due : (m n : ℕ) → MomentRel c m n → Maybe (TimerRel R c) (first (due_timers ts m)) (first (due_timers us n))
  pub takes : (t u : Live) → TimerRel R c t u → TimersRel R c (after_taking ts t) (after_taking us u)

abbrev pub TimersKeepAgreement : Type 0
TimersKeepAgreement = (W : World) (c : Clocks) (ts us : List Live) → TimersRel (Named W) c ts us → TimersAgree (Named W) c ts us

-- the statements of a saved page give the same ids in the same order, each with what is left of its time
abbrev pub TimersAreRebuilt : Type 0
TimersAreRebuilt =
    (limit clock : ℕ) (moved : ObjId → ObjId) (filler : ObjId) (ts : List Live) → HasDistinctIds ts → AreTimely limit clock ts
    → rebuilt clock moved filler ts ≡ moved_timers clock moved ts

-- so the timers of the page that was saved and of the one that was rebuilt, whose clock is at 0, mean the same
abbrev pub RebuiltTimersAgree : Type 0
RebuiltTimersAgree =
    (W : World) (limit clock : ℕ) (moved : ObjId → ObjId) (ts : List Live) → ((t : Live) → IsIn ts t → Named W t.call.0 (moved t.call).0) → AreTimely limit clock ts
    → TimersRel (Named W) (record { one = clock; two = 0 }) ts (moved_timers clock moved ts)
