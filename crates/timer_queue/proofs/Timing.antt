-- Live timers and the clock at all times.
use Rattle.std.proofs.Common.{◌≡◌, ◌⊎◌, inl, inr, refl, subst, ℕ, ◌+◌, ◌<◌, ◌≤◌, max, Bool, true, false, List, [], ◌∷◌, ◌++◌, length, Option, Some, None, arith}
use Rattle.js_values.specs.declared.ids.ObjId.{ObjId}
use Rattle.timer_queue.proofs.Earliest.{IsTaken, is_high, is_low, is_taken, none_due}
use Rattle.timer_queue.proofs.IdLemmas.{is_least_free, least_free_small}
use Rattle.timer_queue.proofs.Takings.{in_cleared}
use Rattle.timer_queue.specs.Timers.{IsIn, after_taking, again, cleared, due_timers, first, is_due, least_free, started, timer_limit}
use Rattle.timer_queue.specs.declared.timer.Live.{Live}
use Rattle.timer_queue.specs.Timely.{AreTimely, IsPeriod, IsTimely, TimersStayTimely}

pub in_end : (ts us : List Live) (v : Live) → IsIn (ts ++ us) v → IsIn ts v ⊎ IsIn us v
in_end [] us v i = inr i
in_end (t ∷ ts) us v (inl e) = inl (inl e)
in_end (t ∷ ts) us v (inr i) = elim (in_end ts us v i) [ inl a ↦ inl (inr a) | inr b ↦ inr b ]

module _ (limit clock : ℕ) (ts : List Live) (all : AreTimely limit clock ts) where
  starts : (delay : ℕ) (period : Option ℕ) (k : ObjId) → length ts < timer_limit → delay ≤ limit → IsPeriod limit period → AreTimely limit clock (started ts clock delay period k)
  starts delay period k few small fit v i = by (in_end ts (record { id = least_free ts; due = clock + delay; period = period; call = k } ∷ []) v i)
    where
      by : IsIn ts v ⊎ IsIn (record { id = least_free ts; due = clock + delay; period = period; call = k } ∷ []) v → IsTimely limit clock v
      by (inl old) = all v old
      by (inr (inl e)) = subst (IsTimely limit clock) e (record { id = (is_least_free ts).above; few = let least = least_free_small ts in omega (arith, few, least); ahead = omega arith; near = omega (arith, small); period = fit })
      by (inr (inr none)) = absurd none

  -- those that are left when the first is taken are not due before it
  after_first : (moment : ℕ) (t v : Live) → IsTaken ts moment t → IsIn ts v → t.due ≤ v.due
  after_first moment t v taken i = by (is_due moment v) refl
    where
      by : (b : Bool) → is_due moment v ≡ b → t.due ≤ v.due
      by true e = taken.least v i e
      by false e = let late = is_high v.due moment e in let early = is_low t.due moment taken.due in omega (arith, late, early)

  fires : (moment : ℕ) (t : Live) → first (due_timers ts moment) ≡ Some t → AreTimely limit (max clock t.due) (after_taking ts t)
  fires moment t e v i = by_period t.period refl (in_end (cleared ts t.id) (again t t.period) v i)
    where
      taken : IsTaken ts moment t
      taken = is_taken ts moment t e

      this : IsTimely limit clock t
      this = all t taken.inside

      old : IsIn (cleared ts t.id) v → IsTimely limit (max clock t.due) v
      old left =
          let there : IsIn ts v = in_cleared ts t.id v left in
          let was = all v there in
          let later = after_first moment t v taken there in
          record { id = was.id; few = was.few; ahead = let a = was.ahead in omega (arith, a, later); near = let b = was.near in omega (arith, b); period = was.period }

      by_period : (p : Option ℕ) → t.period ≡ p → IsIn (cleared ts t.id) v ⊎ IsIn (again t p) v → IsTimely limit (max clock t.due) v
      by_period p q (inl left) = old left
      by_period None q (inr none) = absurd none
      by_period (Some n) q (inr (inl same)) =
          let fit : IsPeriod limit (Some n) = subst (IsPeriod limit) q this.period in
          let low = this.ahead in
          let small = fit.1 in
          subst (IsTimely limit (max clock t.due)) same (record { id = this.id; few = this.few; ahead = omega (arith, low); near = omega (arith, low, small); period = this.period })
      by_period (Some n) q (inr (inr none)) = absurd none

  passes : (moment : ℕ) → clock ≤ moment → first (due_timers ts moment) ≡ None → AreTimely limit moment ts
  passes moment later e v i =
      let was = all v i in
      let late = is_high v.due moment (none_due ts moment v e i) in
      record { id = was.id; few = was.few; ahead = omega (arith, late); near = let b = was.near in omega (arith, b, later); period = was.period }

pub timers_stay_timely : TimersStayTimely
timers_stay_timely limit clock ts all = record {
  starts = starts limit clock ts all;
  clears = λ id v i. all v (in_cleared ts id v i);
  fires = fires limit clock ts all;
  passes = passes limit clock ts all;
}
