-- What every queue keeps.
use Rattle.std.proofs.Common.{◌≡◌, inl, inr, ℕ, suc, ◌+◌, ◌<◌, ◌≤◌, ◌==◌, ◌^◌, ◌||◌, not, Bool, true, false, if◌then◌else◌, List, [], ◌∷◌, ◌++◌, length, Option, Some, None, unwrap_or, slice_index_or, slice_set, refl, sym, subst, arith}
use Rattle.js_values.specs.declared.ids.ObjId.{ObjId}
use Rattle.timer_queue.proofs.Earliest.{is_low, is_taken}
use Rattle.timer_queue.proofs.IdLemmas.{distinct_cleared, distinct_taken, is_least_free, keeps_distinct_ids, least_free_small, no_more}
use Rattle.timer_queue.proofs.MarkLemmas.{found, marked, marks_read, taken_again, taken_once}
use Rattle.timer_queue.proofs.Takings.{in_is_live}
use Rattle.timer_queue.specs.Laws.{HasDistinctIds}
use Rattle.timer_queue.specs.Marks.{AreMarks, IsFirstFree}
use Rattle.timer_queue.specs.Sound.{AreInRange, IsInRange, IsSound}
use Rattle.timer_queue.specs.Timers.{IsIn, after_taking, again, cleared, due_timers, first, is_live, least_free, started, timer_limit}
use Rattle.timer_queue.specs.declared.timer.Live.{Live}

in_range : (ts : List Live) (t : Live) → AreInRange ts → IsIn ts t → IsInRange t
in_range [] t range inside = absurd inside
in_range (u ∷ ts) t range (inl here) = subst IsInRange here range.0
in_range (u ∷ ts) t range (inr there) = in_range ts t range.1 there

range_cleared : (ts : List Live) (id : ℕ) → AreInRange ts → AreInRange (cleared ts id)
range_cleared [] id range = tt
range_cleared (t ∷ ts) id range = by_case (t.id == id) (range_cleared ts id range.1)
  where
    by_case : (b : Bool) → AreInRange (cleared ts id) → AreInRange (if not b then t ∷ cleared ts id else cleared ts id)
    by_case true later = later
    by_case false later = (range.0, later)

range_end : (ts : List Live) (t : Live) → AreInRange ts → IsInRange t → AreInRange (ts ++ t ∷ [])
range_end [] t range fit = (fit, tt)
range_end (u ∷ ts) t range fit = (range.0, range_end ts t range.1 fit)

range_taken : (ts : List Live) (t : Live) → AreInRange ts → t.due < 2 ^ 60 → IsInRange t → AreInRange (after_taking ts t)
range_taken ts t range due fit = by_period t.period refl
  where
    by_period : (p : Option ℕ) → t.period ≡ p → AreInRange (cleared ts t.id ++ again t p)
    by_period None e = rw (no_more (cleared ts t.id)) (range_cleared ts t.id range)
    by_period (Some n) e =
        let small : n < 2 ^ 60 = subst (λ p. unwrap_or p 0 < 2 ^ 60) e fit.period in
        range_end (cleared ts t.id) (record t { due = t.due + n }) (range_cleared ts t.id range) (record { above = fit.above; few = fit.few; due = omega arith; period = fit.period; long = fit.long })

range_started : (ts : List Live) (now delay : ℕ) (period : Option ℕ) (call : ObjId) → length ts < timer_limit → now < 2 ^ 60 → delay < 2 ^ 60 → unwrap_or period 0 < 2 ^ 60 → 0 < unwrap_or period 1 → AreInRange ts
    → AreInRange (started ts now delay period call)
range_started ts now delay period call few n d p long range =
    let small = least_free_small ts in
    range_end ts _ range (record { above = (is_least_free ts).above; few = omega arith; due = omega arith; period = p; long = long })

-- what is known of the timer that is taken from a sound queue
pub record CanTake (ts : List Live) (t : Live) (marks : List Bool) (full : ℕ) : Type 0 where
  pub live : is_live ts t.id ≡ true
  pub due : t.due < 2 ^ 60
  pub period : unwrap_or t.period 0 < 2 ^ 60
  -- of an interval the marks stay, and of a timeout its mark is taken back
  pub again : (n : ℕ) → t.period ≡ Some n → IsSound (after_taking ts t) marks full
  pub once : (more : List Bool) (left : ℕ) → t.period ≡ None → AreMarks (cleared ts t.id) more left → IsSound (after_taking ts t) more left

pub can_take : (ts : List Live) (marks : List Bool) (full moment : ℕ) (t : Live) → IsSound ts marks full → moment < 2 ^ 60 → first (due_timers ts moment) ≡ Some t → CanTake ts t marks full
can_take ts marks full moment t sound low at =
    let taken = is_taken ts moment t at in
    let fit : IsInRange t = in_range ts t sound.in_range taken.inside in
    let due = is_low t.due moment taken.due in
    let early : t.due < 2 ^ 60 = omega arith in
    let live : is_live ts t.id ≡ true = in_is_live ts t taken.inside in
    let distinct : HasDistinctIds (after_taking ts t) = distinct_taken ts t sound.distinct in
    let range : AreInRange (after_taking ts t) = range_taken ts t sound.in_range early fit in
    record {
      live = live;
      due = early;
      period = fit.period;
      again = λ n is. record { distinct = distinct; in_range = range; marked = taken_again ts t n marks full live is sound.marked };
      once = λ more left is are. record { distinct = distinct; in_range = range; marked = subst (λ l. AreMarks l more left) (sym (taken_once ts t is)) are };
    }

no_longer : (ts : List Live) (id : ℕ) → length (cleared ts id) ≤ length ts
no_longer [] id = omega arith
no_longer (t ∷ ts) id = by_case (t.id == id) (no_longer ts id)
  where
    by_case : (b : Bool) → length (cleared ts id) ≤ length ts → length (if not b then t ∷ cleared ts id else cleared ts id) ≤ suc (length ts)
    by_case true short = omega arith
    by_case false short = omega arith

-- there is one timer less
pub shorter : (ts : List Live) (id : ℕ) → is_live ts id ≡ true → length (cleared ts id) < length ts
shorter [] id live = absurd (cc)
shorter (t ∷ ts) id live = by_case (t.id == id) live (shorter ts id) (no_longer ts id)
  where
    by_case : (b : Bool) → (b || is_live ts id) ≡ true → (is_live ts id ≡ true → length (cleared ts id) < length ts) → length (cleared ts id) ≤ length ts → length (if not b then t ∷ cleared ts id else cleared ts id) < suc (length ts)
    by_case true is later short = omega arith
    by_case false is later short = omega (arith, later is)

-- ---- with the marks

pub sound_cleared : (ts : List Live) (marks more : List Bool) (full left id : ℕ) → IsSound ts marks full → AreMarks (cleared ts id) more left → IsSound (cleared ts id) more left
sound_cleared ts marks more full left id sound marked = record { distinct = distinct_cleared ts id sound.distinct; in_range = range_cleared ts id sound.in_range; marked = marked }

-- what is known where a timer is started
pub record CanStart (ts : List Live) (place : ℕ) (after : List Live) (marks : List Bool) : Type 0 where
  pub id : place + 1 ≡ least_free ts
  pub small : place < timer_limit
  pub sound : IsSound after (slice_set marks place true) (place + 1)

module _ (ts : List Live) (now delay : ℕ) (period : Option ℕ) (call : ObjId) (few : length ts < timer_limit) (n : now < 2 ^ 60) (d : delay < 2 ^ 60) (p : unwrap_or period 0 < 2 ^ 60) (long : 0 < unwrap_or period 1) where
  pub can_start : (marks more : List Bool) (full place : ℕ) → IsSound ts marks full → ((k : ℕ) → slice_index_or more k false ≡ slice_index_or marks k false) → length marks ≤ length more → IsFirstFree more full place
      → CanStart ts place (started ts now delay period call) more
  can_start marks more full place sound same longer first =
      let are : AreMarks ts more full = marks_read ts marks more full same longer sound.marked in
      let least : suc place ≡ least_free ts = found ts more full place are first in
      let most = least_free_small ts in
      record {
        id = omega (arith, least);
        small = omega (arith, least, most, few);
        sound = record {
          distinct = (keeps_distinct_ids ts).starts now delay period call sound.distinct;
          in_range = range_started ts now delay period call few n d p long sound.in_range;
          marked = marked ts _ more full place are first (sym least);
        };
      }
