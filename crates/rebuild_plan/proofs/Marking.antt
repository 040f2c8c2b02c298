-- The marks of ids say which timers are live, whatever their functions and times.
use Rattle.std.proofs.Common.{◌≡◌, refl, sym, ap, subst, ◌∙◌, arith, ℕ, zero, suc, ◌+◌, ◌-◌, ◌<◌, ◌≤◌, ◌||◌, Bool, true, false, List, [], ◌∷◌, ◌++◌, append_assoc, drop, get_or, length, take}
use Rattle.std.specs.Prelude.{max}
use Rattle.std.proofs.Math.Bool.{or-false}
use Rattle.std.proofs.lemmas.List.{nil_from_length}
use Rattle.scope_analysis.proofs.Callers.{next_of}
use Rattle.heap_walker.specs.Weight.{greatest}
use Rattle.timer_queue.specs.Timers.{has_id, is_live}
use Rattle.timer_queue.specs.declared.timer.Live.{Live}
use Rattle.rebuild_plan.specs.Marks.{AreSet, clear_all, clear_unless, mark_at, no_marks}
use Rattle.rebuild_plan.specs.Plan.{clears, fillers, starts, timers}
use Rattle.rebuild_plan.specs.Timers.{moved_timers}
use Rattle.rebuild_plan.specs.declared.statement.Rebuild.{Rebuild}
use Rattle.rebuild_plan.specs.declared.statement.Rebuild.TheVariants.{Filler}

-- ---- timers that are moved

pub greatest_moved : (things : List ℕ) (clock : ℕ) (ts : List Live) → greatest (moved_timers things clock ts) ≡ greatest ts
greatest_moved things clock [] = refl
greatest_moved things clock (t ∷ ts) = ap (max t.id) (greatest_moved things clock ts)

live_moved : (things : List ℕ) (clock id : ℕ) (ts : List Live) → is_live (moved_timers things clock ts) id ≡ is_live ts id
live_moved things clock id [] = refl
live_moved things clock id (t ∷ ts) = ap (λ b. has_id id t || b) (live_moved things clock id ts)

pub clears_moved : (things : List ℕ) (clock n id : ℕ) (ts : List Live) → clears n id (moved_timers things clock ts) ≡ clears n id ts
clears_moved things clock zero id ts = refl
clears_moved things clock (suc n) id ts =
    ap (λ b. clear_unless b id ++ clears n (id + 1) (moved_timers things clock ts)) (live_moved things clock id ts)
    ∙ ap (λ l. clear_unless (is_live ts id) id ++ l) (clears_moved things clock n (id + 1) ts)

-- what is planned timer by timer
pub timers_pushed : (old : List Rebuild) (things : List ℕ) (clock : ℕ) (ts : List Live)
    → ((old ++ fillers (greatest ts)) ++ starts (moved_timers things clock ts)) ++ clears (greatest ts) 1 ts ≡ old ++ timers (moved_timers things clock ts)
timers_pushed old things clock ts =
    let moved_ones : List Live = moved_timers things clock ts in
    let n : ℕ = greatest moved_ones in
    append_assoc (old ++ fillers (greatest ts)) (starts moved_ones) (clears (greatest ts) 1 ts)
    ∙ append_assoc old (fillers (greatest ts)) (starts moved_ones ++ clears (greatest ts) 1 ts)
    ∙ ap (λ k. old ++ (fillers k ++ (starts moved_ones ++ clears k 1 ts))) (sym (greatest_moved things clock ts))
    ∙ ap (λ l. old ++ (fillers n ++ (starts moved_ones ++ l))) (sym (clears_moved things clock n 1 ts))

-- ---- marks

all_set : (ms : List Bool) → AreSet ms ms []
all_set ms = record { long = refl; each = λ k inside. sym (or-false (mark_at ms k)) }

three : (a b c : Bool) → ((a || (b || false)) || c) ≡ (a || (b || c))
three true b c = refl
three false true c = refl
three false false c = refl

pub more_set : (ms ns ls : List Bool) (t : Live) (ts : List Live) → AreSet ms ns (t ∷ []) → AreSet ns ls ts → AreSet ms ls (t ∷ ts)
more_set ms ns ls t ts one others = record {
  long = others.long ∙ one.long;
  each = λ k inside. others.each k (omega (arith, inside, one.long)) ∙ ap (λ b. b || is_live ts (k + 1)) (one.each k inside)
      ∙ three (mark_at ms k) (has_id (k + 1) t) (is_live ts (k + 1));
}

-- a loop over the timers
pub set_goes_on : (first ms ns : List Bool) (rest ts : List Live) (t : Live) → 1 ≤ length rest → t ≡ get_or rest 0 t → AreSet ms ns (t ∷ [])
    → ((last : List Bool) → AreSet ms last rest → AreSet first last ts)
    → (last : List Bool) → AreSet ns last (take (length rest - 1) (drop 1 rest)) → AreSet first last ts
set_goes_on first ms ns rest ts t some is one invariant last others =
    invariant last (subst (λ r. AreSet ms last r) (sym (next_of rest t some is)) (more_set ms ns last t (take (length rest - 1) (drop 1 rest)) one others))

pub set_ends : (first ms : List Bool) (rest ts : List Live) → length rest < 1 → ((last : List Bool) → AreSet ms last rest → AreSet first last ts) → AreSet first ms ts
set_ends first ms rest ts none invariant = invariant ms (subst (λ r. AreSet ms ms r) (sym (nil_from_length rest (omega (arith, none)))) (all_set ms))

none_long : (n : ℕ) → length (no_marks n) ≡ n
none_long zero = refl
none_long (suc n) = ap suc (none_long n)

none_at : (n k : ℕ) → mark_at (no_marks n) k ≡ false
none_at zero k = refl
none_at (suc n) zero = refl
none_at (suc n) (suc k) = none_at n k

pub one_unset : (old new : List Bool) (left : ℕ) → 0 < left → new ≡ old ++ false ∷ [] → new ++ no_marks (left - 1) ≡ old ++ no_marks left
one_unset old new zero some e = absurd (omega (arith, some))
one_unset old new (suc n) some e =
    let less : suc n - 1 ≡ n = omega arith in
    ap (λ l. l ++ no_marks (suc n - 1)) e ∙ append_assoc old (false ∷ []) (no_marks (suc n - 1)) ∙ ap (λ k. old ++ false ∷ no_marks k) less

pub one_filled : (old new : List Rebuild) (left : ℕ) → 0 < left → new ≡ old ++ Filler ∷ [] → new ++ fillers (left - 1) ≡ old ++ fillers left
one_filled old new zero some e = absurd (omega (arith, some))
one_filled old new (suc n) some e =
    let less : suc n - 1 ≡ n = omega arith in
    ap (λ l. l ++ fillers (suc n - 1)) e ∙ append_assoc old (Filler ∷ []) (fillers (suc n - 1)) ∙ ap (λ k. old ++ Filler ∷ fillers k) less

cleared : (ms : List Bool) (id : ℕ) (ts : List Live) → ((k : ℕ) → k < length ms → mark_at ms k ≡ is_live ts (id + k)) → clear_all id ms ≡ clears (length ms) id ts
cleared [] id ts each = refl
cleared (b ∷ ms) id ts each =
    let here : id + 0 ≡ id = omega arith in
    ap (λ c. clear_unless c id ++ clear_all (id + 1) ms) (each 0 (omega arith) ∙ ap (is_live ts) here)
    ∙ ap (λ l. clear_unless (is_live ts id) id ++ l) (cleared ms (id + 1) ts (λ k inside. each (suc k) (omega (arith, inside)) ∙ ap (is_live ts) (on k)))
  where
    on : (k : ℕ) → id + suc k ≡ id + 1 + k
    on k = omega arith

pub all_cleared : (n : ℕ) (ms : List Bool) (ts : List Live) → AreSet (no_marks n) ms ts → clear_all 1 ms ≡ clears n 1 ts
all_cleared n ms ts set =
    let long : length ms ≡ n = set.long ∙ none_long n in
    cleared ms 1 ts (λ k inside. set.each k (omega (arith, inside, set.long)) ∙ ap (λ b. b || is_live ts (k + 1)) (none_at n k) ∙ ap (is_live ts) (first k))
    ∙ ap (λ c. clears c 1 ts) long
  where
    first : (k : ℕ) → k + 1 ≡ 1 + k
    first k = omega arith
