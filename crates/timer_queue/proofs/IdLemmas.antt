-- The ids of live timers.
use Rattle.std.proofs.Common.{◌≡◌, ◌≢◌, ℕ, zero, suc, ◌+◌, ◌<◌, ◌≤◌, ◌==◌, ◌||◌, Bool, true, false, nat_le, if◌then◌else◌, List, [], ◌∷◌, ◌++◌, length, Option, Some, None, refl, sym, ap, ◌∙◌, arith}
use Rattle.std.proofs.lemmas.Bool.Decides.{nat_tests}
use Rattle.std.proofs.Math.Bool.{or-false}
use Rattle.std.proofs.lemmas.Bool.{or_parts}
use Rattle.timer_queue.specs.Laws.{HasDistinctIds, IsLeastFree, KeepsDistinctIds}
use Rattle.timer_queue.specs.Timers.{after_first, after_taking, again, cleared, due_timers, first, free_from, is_live, least_free}
use Rattle.timer_queue.specs.declared.timer.Live.{Live}

pub same_id : (id k : ℕ) → (id == k) ≡ true → id ≡ k
same_id id k h = grind (arith, nat_tests)

pub is_same : (id k : ℕ) → id ≡ k → (id == k) ≡ true
is_same id k h = grind (arith, nat_tests)

pub other_id : (id k : ℕ) → (id == k) ≡ false → id ≢ k
other_id id k h = grind (arith, nat_tests)

pub is_other : (id k : ℕ) → id ≢ k → (id == k) ≡ false
is_other id k h = grind (arith, nat_tests)

pub swapped : (id k : ℕ) → (id == k) ≡ false → (k == id) ≡ false
swapped id k h = is_other k id (λ e. other_id id k h (sym e))

-- ---- the least free one

one : ℕ → ℕ → ℕ
one n id = if nat_le n id then 1 else 0

one_falls : (n id : ℕ) → one (n + 1) id ≤ one n id
unfolding one
one_falls n id = grind (arith, nat_tests)

one_here : (n id : ℕ) → id ≡ n → one (n + 1) id + 1 ≤ one n id
unfolding one
one_here n id h = grind (arith, nat_tests)

one_small : (n id : ℕ) → one n id ≤ 1
unfolding one
one_small n id = grind (arith, nat_tests)

-- how many timers have an id from n on
abbrev count_from : ℕ → List Live → ℕ
count_from n [] = 0
count_from n (t ∷ ts) = one n t.id + count_from n ts

count_small : (n : ℕ) (ts : List Live) → count_from n ts ≤ length ts
count_small n [] = omega arith
count_small n (t ∷ ts) = omega (arith, one_small n t.id, count_small n ts)

count_falls : (n : ℕ) (ts : List Live) → count_from (n + 1) ts ≤ count_from n ts
count_falls n [] = omega arith
count_falls n (t ∷ ts) = omega (arith, one_falls n t.id, count_falls n ts)

one_fewer : (n : ℕ) (ts : List Live) → is_live ts n ≡ true → count_from (n + 1) ts + 1 ≤ count_from n ts
one_fewer n [] e = absurd (cc)
one_fewer n (t ∷ ts) e = by_case (t.id == n) refl e (one_fewer n ts)
  where
    by_case : (b : Bool) → (t.id == n) ≡ b → (b || is_live ts n) ≡ true → (is_live ts n ≡ true → count_from (n + 1) ts + 1 ≤ count_from n ts) → one (n + 1) t.id + count_from (n + 1) ts + 1 ≤ one n t.id + count_from n ts
    by_case true here live later = omega (arith, one_here n t.id (same_id t.id n here), count_falls n ts)
    by_case false there live later = omega (arith, one_falls n t.id, later live)

none_live : (n : ℕ) (ts : List Live) → count_from n ts ≤ 0 → is_live ts n ≡ false
none_live n ts few = by_case (is_live ts n) refl
  where
    by_case : (b : Bool) → is_live ts n ≡ b → is_live ts n ≡ false
    by_case false e = e
    by_case true e = let fewer = one_fewer n ts e in absurd (omega arith)

-- the search at an id that is live, and at one that is not
goes_on : (more n : ℕ) (ts : List Live) → is_live ts n ≡ true → free_from (suc more) n ts ≡ free_from more (n + 1) ts
goes_on more n ts e = rw e refl

stops : (more n : ℕ) (ts : List Live) → is_live ts n ≡ false → free_from (suc more) n ts ≡ n
stops more n ts e = rw e refl

found_free : (more n : ℕ) (ts : List Live) → count_from n ts ≤ more → is_live ts (free_from more n ts) ≡ false
found_free zero n ts few = none_live n ts few
found_free (suc more) n ts few = by_case (is_live ts n) refl (found_free more (n + 1) ts)
  where
    by_case : (b : Bool) → is_live ts n ≡ b → (count_from (n + 1) ts ≤ more → is_live ts (free_from more (n + 1) ts) ≡ false) → is_live ts (free_from (suc more) n ts) ≡ false
    by_case false e later = ap (is_live ts) (stops more n ts e) ∙ e
    by_case true e later = let fewer = one_fewer n ts e in ap (is_live ts) (goes_on more n ts e) ∙ later (omega arith)

found_least : (more n : ℕ) (ts : List Live) (k : ℕ) → n ≤ k → k < free_from more n ts → is_live ts k ≡ true
found_least zero n ts k from below = absurd (omega arith)
found_least (suc more) n ts k from below = by_case (is_live ts n) refl (found_least more (n + 1) ts k)
  where
    by_place : (b : Bool) → (n == k) ≡ b → is_live ts n ≡ true → (n + 1 ≤ k → is_live ts k ≡ true) → is_live ts k ≡ true
    by_place true here e later = ap (is_live ts) (sym (same_id n k here)) ∙ e
    by_place false there e later = let apart = other_id n k there in later (omega arith)

    by_case : (b : Bool) → is_live ts n ≡ b → (n + 1 ≤ k → k < free_from more (n + 1) ts → is_live ts k ≡ true) → is_live ts k ≡ true
    by_case false e later = let here = stops more n ts e in absurd (omega arith)
    by_case true e later = let further = goes_on more n ts e in by_place (n == k) refl e (λ w. later w (omega arith))

found_above : (more n : ℕ) (ts : List Live) → n ≤ free_from more n ts
found_above zero n ts = omega arith
found_above (suc more) n ts = by_case (is_live ts n) refl (found_above more (n + 1) ts)
  where
    by_case : (b : Bool) → is_live ts n ≡ b → n + 1 ≤ free_from more (n + 1) ts → n ≤ free_from (suc more) n ts
    by_case false e later = omega (arith, stops more n ts e)
    by_case true e later = omega (arith, goes_on more n ts e)

found_small : (more n : ℕ) (ts : List Live) → free_from more n ts ≤ n + more
found_small zero n ts = omega arith
found_small (suc more) n ts = by_case (is_live ts n) refl (found_small more (n + 1) ts)
  where
    by_case : (b : Bool) → is_live ts n ≡ b → free_from more (n + 1) ts ≤ n + 1 + more → free_from (suc more) n ts ≤ n + suc more
    by_case false e later = omega (arith, stops more n ts e)
    by_case true e later = omega (arith, goes_on more n ts e)

pub least_free_small : (ts : List Live) → least_free ts ≤ length ts + 1
least_free_small ts = omega (arith, found_small (length ts) 1 ts)

pub is_least_free : (ts : List Live) → IsLeastFree ts (least_free ts)
is_least_free ts = record {
  above = omega (arith, found_above (length ts) 1 ts);
  free = found_free (length ts) 1 ts (count_small 1 ts);
  least = λ k above below. found_least (length ts) 1 ts k (omega arith) below;
}

pub one_least : (ts : List Live) (i j : ℕ) → IsLeastFree ts i → IsLeastFree ts j → i ≡ j
one_least ts i j a b =
    let not_below : i < j → ⊥ = λ below. (let live = b.least i a.above below in let free = a.free in absurd (cc)) in
    let not_above : j < i → ⊥ = λ below. (let live = a.least j b.above below in let free = b.free in absurd (cc)) in
    omega arith

-- ---- distinct ids

pub distinct_end : (ts : List Live) (u : Live) → HasDistinctIds ts → is_live ts u.id ≡ false → HasDistinctIds (ts ++ u ∷ [])
distinct_end [] u d free = (refl, tt)
distinct_end (t ∷ ts) u d free =
    let parts = or_parts (t.id == u.id) (is_live ts u.id) free in
    (still_free ts t.id d.0 (swapped t.id u.id parts.0), distinct_end ts u d.1 parts.1)
  where
    still_free : (us : List Live) (id : ℕ) → is_live us id ≡ false → (u.id == id) ≡ false → is_live (us ++ u ∷ []) id ≡ false
    still_free [] id none apart = rw apart refl
    still_free (v ∷ vs) id none apart = let parts = or_parts (v.id == id) (is_live vs id) none in rw (parts.0, still_free vs id parts.1 apart) refl

-- the timers without one
kept : (t : Live) (ts : List Live) (id : ℕ) → (t.id == id) ≡ false → cleared (t ∷ ts) id ≡ t ∷ cleared ts id
kept t ts id e = rw e refl

dropped : (t : Live) (ts : List Live) (id : ℕ) → (t.id == id) ≡ true → cleared (t ∷ ts) id ≡ cleared ts id
dropped t ts id e = rw e refl

pub cleared_frees : (ts : List Live) (id : ℕ) → is_live (cleared ts id) id ≡ false
cleared_frees [] id = refl
cleared_frees (t ∷ ts) id = by_case (t.id == id) refl (cleared_frees ts id)
  where
    by_case : (b : Bool) → (t.id == id) ≡ b → is_live (cleared ts id) id ≡ false → is_live (cleared (t ∷ ts) id) id ≡ false
    by_case true e later = ap (λ l. is_live l id) (dropped t ts id e) ∙ later
    by_case false e later = ap (λ l. is_live l id) (kept t ts id e) ∙ rw (e, later) refl

pub cleared_stays_free : (ts : List Live) (k id : ℕ) → is_live ts id ≡ false → is_live (cleared ts k) id ≡ false
cleared_stays_free [] k id free = refl
cleared_stays_free (t ∷ ts) k id free = by_case (t.id == k) refl (or_parts (t.id == id) (is_live ts id) free) (cleared_stays_free ts k id)
  where
    by_case : (b : Bool) → (t.id == k) ≡ b → ((t.id == id) ≡ false) × (is_live ts id ≡ false) → (is_live ts id ≡ false → is_live (cleared ts k) id ≡ false) → is_live (cleared (t ∷ ts) k) id ≡ false
    by_case true e parts later = ap (λ l. is_live l id) (dropped t ts k e) ∙ later parts.1
    by_case false e parts later = ap (λ l. is_live l id) (kept t ts k e) ∙ rw (parts.0, later parts.1) refl

pub cleared_keeps : (ts : List Live) (id k : ℕ) → (id == k) ≡ false → is_live (cleared ts id) k ≡ is_live ts k
cleared_keeps [] id k ne = refl
cleared_keeps (t ∷ ts) id k ne = by_case (t.id == id) refl (cleared_keeps ts id k ne)
  where
    by_case : (b : Bool) → (t.id == id) ≡ b → is_live (cleared ts id) k ≡ is_live ts k → is_live (cleared (t ∷ ts) id) k ≡ is_live (t ∷ ts) k
    by_case true e later =
        let other : (t.id == k) ≡ false = ap (λ i. i == k) (same_id t.id id e) ∙ ne in
        ap (λ l. is_live l k) (dropped t ts id e) ∙ later ∙ sym (ap (λ b. b || is_live ts k) other)
    by_case false e later = ap (λ l. is_live l k) (kept t ts id e) ∙ ap (λ b. (t.id == k) || b) later

-- one more at the end
pub live_end : (ts : List Live) (u : Live) (k : ℕ) → is_live (ts ++ u ∷ []) k ≡ (is_live ts k || (u.id == k))
live_end [] u k = or-false (u.id == k)
live_end (t ∷ ts) u k = ap (λ b. (t.id == k) || b) (live_end ts u k) ∙ by_case (t.id == k)
  where
    by_case : (b : Bool) → (b || (is_live ts k || (u.id == k))) ≡ ((b || is_live ts k) || (u.id == k))
    by_case true = refl
    by_case false = refl

pub distinct_cleared : (ts : List Live) (id : ℕ) → HasDistinctIds ts → HasDistinctIds (cleared ts id)
distinct_cleared [] id d = tt
distinct_cleared (t ∷ ts) id d = by_case (t.id == id) refl (distinct_cleared ts id d.1)
  where
    by_case : (b : Bool) → (t.id == id) ≡ b → HasDistinctIds (cleared ts id) → HasDistinctIds (cleared (t ∷ ts) id)
    by_case true e later = rw (dropped t ts id e) later
    by_case false e later = rw (kept t ts id e) (cleared_stays_free ts id t.id d.0, later)

pub no_more : (ts : List Live) → ts ++ [] ≡ ts
no_more [] = refl
no_more (t ∷ ts) = ap (λ l. t ∷ l) (no_more ts)

pub distinct_taken : (ts : List Live) (t : Live) → HasDistinctIds ts → HasDistinctIds (after_taking ts t)
distinct_taken ts t d = by_period t.period
  where
    by_period : (p : Option ℕ) → HasDistinctIds (cleared ts t.id ++ again t p)
    by_period None = rw (no_more (cleared ts t.id)) (distinct_cleared ts t.id d)
    by_period (Some period) = distinct_end (cleared ts t.id) (record t { due = t.due + period }) (distinct_cleared ts t.id d) (cleared_frees ts t.id)

pub keeps_distinct_ids : (ts : List Live) → KeepsDistinctIds ts
keeps_distinct_ids ts = record {
  starts = λ now delay period call d. distinct_end ts _ d (is_least_free ts).free;
  clears = λ id d. distinct_cleared ts id d;
  takes = λ moment d. after (first (due_timers ts moment)) d;
}
  where
    after : (o : Option Live) → HasDistinctIds ts → HasDistinctIds (after_first ts o)
    after None d = d
    after (Some t) d = distinct_taken ts t d
