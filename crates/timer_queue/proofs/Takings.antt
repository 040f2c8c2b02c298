-- The takings up to a moment, timer by timer.
use Rattle.std.proofs.Common.{◌≡◌, ◌⊎◌, inl, inr, ℕ, zero, suc, ◌+◌, ◌<◌, ◌≤◌, ◌==◌, ◌||◌, not, Bool, true, false, if◌then◌else◌, List, [], ◌∷◌, ◌++◌, length, Option, Some, None, filter, find, refl, sym, ap, subst, ◌∙◌, arith}
use Rattle.std.specs.List.{list_all}
use Rattle.std.proofs.lemmas.Bool.{or_parts}
use Rattle.timer_queue.proofs.Earliest.{IsTaken, is_taken, low_test, none_due}
use Rattle.timer_queue.proofs.IdLemmas.{cleared_frees, cleared_stays_free, distinct_taken, is_same, no_more, same_id}
use Rattle.timer_queue.proofs.Order.{all_from}
use Rattle.timer_queue.specs.Laws.{HasDistinctIds, NeverFall, TakesTheFirings, fires_then, firings, taken_then, takings}
use Rattle.timer_queue.specs.Timers.{IsIn, after_taking, again, cleared, due_timers, first, has_id, is_due, is_live}
use Rattle.timer_queue.specs.declared.timer.Live.{Live}

-- ---- who is in the list after a taking

pub in_cleared : (ts : List Live) (id : ℕ) (v : Live) → IsIn (cleared ts id) v → IsIn ts v
in_cleared [] id v inside = absurd inside
in_cleared (t ∷ ts) id v inside = by_case (t.id == id) inside (in_cleared ts id v)
  where
    by_case : (b : Bool) → IsIn (if not b then t ∷ cleared ts id else cleared ts id) v → (IsIn (cleared ts id) v → IsIn ts v) → (t ≡ v) ⊎ IsIn ts v
    by_case true inside' later = inr (later inside')
    by_case false (inl here) later = inl here
    by_case false (inr there) later = inr (later there)

in_end : (ts us : List Live) (v : Live) → IsIn (ts ++ us) v → IsIn ts v ⊎ IsIn us v
in_end [] us v inside = inr inside
in_end (t ∷ ts) us v (inl here) = inl (inl here)
in_end (t ∷ ts) us v (inr there) = elim (in_end ts us v there) [ inl a ↦ inl (inr a) | inr b ↦ inr b ]

-- it was there before, or is due no earlier than what was taken
after_is : (ts : List Live) (t v : Live) → IsIn (after_taking ts t) v → IsIn ts v ⊎ (t.due ≤ v.due)
after_is ts t v inside = by_period t.period (in_end (cleared ts t.id) (again t t.period) v inside)
  where
    by_period : (p : Option ℕ) → IsIn (cleared ts t.id) v ⊎ IsIn (again t p) v → IsIn ts v ⊎ (t.due ≤ v.due)
    by_period p (inl old) = inl (in_cleared ts t.id v old)
    by_period None (inr new) = absurd new
    by_period (Some period) (inr (inl here)) = let e : t.due + period ≡ v.due = ap (λ x. x.due) here in inr (omega arith)
    by_period (Some period) (inr (inr there)) = absurd there

-- ---- by due time

-- those due up to the moment are due at n or later
abbrev AreFrom : ℕ → ℕ → List Live → Type 0
AreFrom n moment ts = (v : Live) → IsIn ts v → is_due moment v ≡ true → n ≤ v.due

still_from : (n moment : ℕ) (ts : List Live) (t : Live) → AreFrom n moment ts → IsTaken ts moment t → AreFrom n moment (after_taking ts t)
still_from n moment ts t from taken v inside due = by_case (after_is ts t v inside)
  where
    by_case : IsIn ts v ⊎ (t.due ≤ v.due) → n ≤ v.due
    by_case (inl old) = from v old due
    by_case (inr later) = let low : n ≤ t.due = from t taken.inside taken.due in omega arith

takings_from : (more n moment : ℕ) (ts : List Live) → AreFrom n moment ts → all_from n (takings more ts moment) ≡ true
takings_from zero n moment ts from = refl
takings_from (suc more) n moment ts from = by_first (first (due_timers ts moment)) refl (λ t. takings_from more n moment (after_taking ts t))
  where
    by_first : (o : Option Live) → first (due_timers ts moment) ≡ o → ((t : Live) → AreFrom n moment (after_taking ts t) → all_from n (takings more (after_taking ts t) moment) ≡ true)
        → all_from n (taken_then o (λ t. takings more (after_taking ts t) moment)) ≡ true
    by_first None e later = refl
    by_first (Some t) e later =
        let taken = is_taken ts moment t e in
        let low : n ≤ t.due = from t taken.inside taken.due in
        rw (low_test n t.due low, later t (still_from n moment ts t from taken)) refl

by_due_time : (more moment : ℕ) (ts : List Live) → NeverFall (takings more ts moment)
by_due_time zero moment ts = tt
by_due_time (suc more) moment ts = by_first (first (due_timers ts moment)) refl (λ t. by_due_time more moment (after_taking ts t))
  where
    by_first : (o : Option Live) → first (due_timers ts moment) ≡ o → ((t : Live) → NeverFall (takings more (after_taking ts t) moment)) → NeverFall (taken_then o (λ t. takings more (after_taking ts t) moment))
    by_first None e later = tt
    by_first (Some t) e later =
        let taken = is_taken ts moment t e in
        (takings_from more t.due moment (after_taking ts t) (still_from t.due moment ts t taken.least taken), later t)

all_in_time : (more moment : ℕ) (ts : List Live) → list_all (is_due moment) (takings more ts moment) ≡ true
all_in_time zero moment ts = refl
all_in_time (suc more) moment ts = by_first (first (due_timers ts moment)) refl (λ t. all_in_time more moment (after_taking ts t))
  where
    by_first : (o : Option Live) → first (due_timers ts moment) ≡ o → ((t : Live) → list_all (is_due moment) (takings more (after_taking ts t) moment) ≡ true)
        → list_all (is_due moment) (taken_then o (λ t. takings more (after_taking ts t) moment)) ≡ true
    by_first None e later = refl
    by_first (Some t) e later = rw ((is_taken ts moment t e).due, later t) refl

-- ---- timer by timer

-- a timer in the list has a live id
pub in_is_live : (ts : List Live) (t : Live) → IsIn ts t → is_live ts t.id ≡ true
in_is_live [] t inside = absurd inside
in_is_live (u ∷ ts) t (inl here) = rw (is_same u.id t.id (ap (λ x. x.id) here)) refl
in_is_live (u ∷ ts) t (inr there) = by_case (u.id == t.id) (in_is_live ts t there)
  where
    by_case : (b : Bool) → is_live ts t.id ≡ true → (b || is_live ts t.id) ≡ true
    by_case true live = refl
    by_case false live = live

-- another id stays free
free_after : (ts : List Live) (t : Live) (id : ℕ) → is_live ts id ≡ false → (t.id == id) ≡ false → is_live (after_taking ts t) id ≡ false
free_after ts t id free apart = by_period t.period
  where
    at_end : (us : List Live) (v : Live) → is_live us id ≡ false → (v.id == id) ≡ false → is_live (us ++ v ∷ []) id ≡ false
    at_end [] v none other = rw other refl
    at_end (u ∷ us) v none other = let parts = or_parts (u.id == id) (is_live us id) none in rw (parts.0, at_end us v parts.1 other) refl

    by_period : (p : Option ℕ) → is_live (cleared ts t.id ++ again t p) id ≡ false
    by_period None = rw (no_more (cleared ts t.id)) (cleared_stays_free ts t.id id free)
    by_period (Some period) = at_end (cleared ts t.id) (record t { due = t.due + period }) (cleared_stays_free ts t.id id free) apart

taken_apart : (ts : List Live) (moment : ℕ) (t : Live) (id : ℕ) → IsTaken ts moment t → is_live ts id ≡ false → (t.id == id) ≡ false
taken_apart ts moment t id taken free = by_case (t.id == id) refl
  where
    by_case : (b : Bool) → (t.id == id) ≡ b → (t.id == id) ≡ false
    by_case false e = e
    by_case true e = let live : is_live ts id ≡ true = subst (λ k. is_live ts k ≡ true) (same_id t.id id e) (in_is_live ts t taken.inside) in absurd (cc)

-- an id that is not live is not taken
others_not : (more moment : ℕ) (ts : List Live) (id : ℕ) → is_live ts id ≡ false → filter (has_id id) (takings more ts moment) ≡ []
others_not zero moment ts id free = refl
others_not (suc more) moment ts id free = by_first (first (due_timers ts moment)) refl (λ t. others_not more moment (after_taking ts t) id)
  where
    by_first : (o : Option Live) → first (due_timers ts moment) ≡ o → ((t : Live) → is_live (after_taking ts t) id ≡ false → filter (has_id id) (takings more (after_taking ts t) moment) ≡ [])
        → filter (has_id id) (taken_then o (λ t. takings more (after_taking ts t) moment)) ≡ []
    by_first None e later = refl
    by_first (Some t) e later =
        let apart = taken_apart ts moment t id (is_taken ts moment t e) free in
        rw (apart, later t (free_after ts t id free apart)) refl

-- ---- the timer of an id

found_is_in : (ts : List Live) (id : ℕ) (t : Live) → find (has_id id) ts ≡ Some t → IsIn ts t
found_is_in [] id t e = absurd (cc)
found_is_in (u ∷ ts) id t e = by_case (u.id == id) e (found_is_in ts id t)
  where
    by_case : (b : Bool) → (if b then Some u else find (has_id id) ts) ≡ Some t → (find (has_id id) ts ≡ Some t → IsIn ts t) → (u ≡ t) ⊎ IsIn ts t
    by_case true is later = inl (cc)
    by_case false is later = inr (later is)

in_is_found : (ts : List Live) (t : Live) → HasDistinctIds ts → IsIn ts t → find (has_id t.id) ts ≡ Some t
in_is_found [] t d inside = absurd inside
in_is_found (u ∷ ts) t d (inl here) = rw (is_same u.id t.id (ap (λ x. x.id) here)) (ap Some here)
in_is_found (u ∷ ts) t d (inr there) = by_case (u.id == t.id) refl (in_is_found ts t d.1 there)
  where
    by_case : (b : Bool) → (u.id == t.id) ≡ b → find (has_id t.id) ts ≡ Some t → find (has_id t.id) (u ∷ ts) ≡ Some t
    by_case true e later = let live : is_live ts u.id ≡ true = subst (λ k. is_live ts k ≡ true) (sym (same_id u.id t.id e)) (in_is_live ts t there) in let free = d.0 in absurd (cc)
    by_case false e later = rw e later

free_not_found : (ts : List Live) (id : ℕ) → is_live ts id ≡ false → find (has_id id) ts ≡ None
free_not_found [] id free = refl
free_not_found (t ∷ ts) id free = let parts = or_parts (t.id == id) (is_live ts id) free in rw (parts.0, free_not_found ts id parts.1) refl

found_in_cleared : (ts : List Live) (k id : ℕ) → (k == id) ≡ false → find (has_id id) (cleared ts k) ≡ find (has_id id) ts
found_in_cleared [] k id apart = refl
found_in_cleared (t ∷ ts) k id apart = by_case (t.id == k) refl (found_in_cleared ts k id apart)
  where
    by_case : (b : Bool) → (t.id == k) ≡ b → find (has_id id) (cleared ts k) ≡ find (has_id id) ts → find (has_id id) (if not b then t ∷ cleared ts k else cleared ts k) ≡ find (has_id id) (t ∷ ts)
    by_case true e later = let other : (t.id == id) ≡ false = subst (λ n. (n == id) ≡ false) (sym (same_id t.id k e)) apart in rw other later
    by_case false e later = ap (λ o. if t.id == id then Some t else o) later

found_in_front : (ts us : List Live) (id : ℕ) (t : Live) → find (has_id id) ts ≡ Some t → find (has_id id) (ts ++ us) ≡ Some t
found_in_front [] us id t e = absurd (cc)
found_in_front (u ∷ ts) us id t e = by_case (u.id == id) e (found_in_front ts us id t)
  where
    by_case : (b : Bool) → (if b then Some u else find (has_id id) ts) ≡ Some t → (find (has_id id) ts ≡ Some t → find (has_id id) (ts ++ us) ≡ Some t) → (if b then Some u else find (has_id id) (ts ++ us)) ≡ Some t
    by_case true is later = is
    by_case false is later = later is

found_behind : (ts us : List Live) (id : ℕ) → find (has_id id) ts ≡ None → find (has_id id) (ts ++ us) ≡ find (has_id id) us
found_behind [] us id e = refl
found_behind (u ∷ ts) us id e = by_case (u.id == id) e (found_behind ts us id)
  where
    by_case : (b : Bool) → (if b then Some u else find (has_id id) ts) ≡ None → (find (has_id id) ts ≡ None → find (has_id id) (ts ++ us) ≡ find (has_id id) us) → (if b then Some u else find (has_id id) (ts ++ us)) ≡ find (has_id id) us
    by_case true is later = absurd (cc)
    by_case false is later = later is

-- another timer is still there after a taking
found_after : (ts : List Live) (u t : Live) → (u.id == t.id) ≡ false → find (has_id t.id) ts ≡ Some t → find (has_id t.id) (after_taking ts u) ≡ Some t
found_after ts u t apart e = found_in_front (cleared ts u.id) (again u u.period) t.id t (found_in_cleared ts u.id t.id apart ∙ e)

-- an interval is there again
found_again : (ts : List Live) (t : Live) (period : ℕ) → t.period ≡ Some period → find (has_id t.id) (after_taking ts t) ≡ Some (record t { due = t.due + period })
found_again ts t period e =
    found_behind (cleared ts t.id) (again t t.period) t.id (free_not_found (cleared ts t.id) t.id (cleared_frees ts t.id))
    ∙ rw (e, is_same t.id t.id refl) refl

-- a timeout is gone
gone_after : (ts : List Live) (t : Live) → t.period ≡ None → is_live (after_taking ts t) t.id ≡ false
gone_after ts t e = rw (e, no_more (cleared ts t.id)) (cleared_frees ts t.id)

-- ---- the firings of a timer

fires_now : (more : ℕ) (t : Live) (moment : ℕ) → is_due moment t ≡ true → firings (suc more) t moment ≡ t ∷ fires_then t.period (λ period. firings more (record t { due = t.due + period }) moment)
fires_now more t moment due = rw due refl

fires_not : (more : ℕ) (t : Live) (moment : ℕ) → is_due moment t ≡ false → firings (suc more) t moment ≡ []
fires_not more t moment due = rw due refl

-- where there are fewer than the most, more are none
firings_end : (more : ℕ) (t : Live) (moment : ℕ) → length (firings more t moment) < more → firings (suc more) t moment ≡ firings more t moment
firings_end zero t moment few = absurd (omega arith)
firings_end (suc more) t moment few = by_case (is_due moment t) refl (λ t'. firings_end more t' moment)
  where
    by_period : (p : Option ℕ) → suc (length (fires_then p (λ period. firings more (record t { due = t.due + period }) moment))) < suc more
        → ((t' : Live) → length (firings more t' moment) < more → firings (suc more) t' moment ≡ firings more t' moment)
        → t ∷ fires_then p (λ period. firings (suc more) (record t { due = t.due + period }) moment) ≡ t ∷ fires_then p (λ period. firings more (record t { due = t.due + period }) moment)
    by_period None few' later = refl
    by_period (Some period) few' later = ap (λ l. t ∷ l) (later (record t { due = t.due + period }) (omega arith))

    by_case : (b : Bool) → is_due moment t ≡ b → ((t' : Live) → length (firings more t' moment) < more → firings (suc more) t' moment ≡ firings more t' moment) → firings (suc (suc more)) t moment ≡ firings (suc more) t moment
    by_case false due later = fires_not (suc more) t moment due ∙ sym (fires_not more t moment due)
    by_case true due later =
        let now = fires_now more t moment due in
        fires_now (suc more) t moment due ∙ by_period t.period (subst (λ l. length l < suc more) now few) later ∙ sym now

filter_short : (p : Live → Bool) (ts : List Live) → length (filter p ts) ≤ length ts
filter_short p [] = omega arith
filter_short p (t ∷ ts) = by_case (p t) (filter_short p ts)
  where
    by_case : (b : Bool) → length (filter p ts) ≤ length ts → length (if b then t ∷ filter p ts else filter p ts) ≤ suc (length ts)
    by_case true short = omega arith
    by_case false short = omega arith

each_fires : (more moment : ℕ) (ts : List Live) (t : Live) → HasDistinctIds ts → find (has_id t.id) ts ≡ Some t → length (takings more ts moment) < more → filter (has_id t.id) (takings more ts moment) ≡ firings more t moment
each_fires zero moment ts t d at ends = absurd (omega arith)
each_fires (suc more) moment ts t d at ends = by_first (first (due_timers ts moment)) refl ends (λ us v. each_fires more moment us v)
  where
    by_period : (p : Option ℕ) → t.period ≡ p → length (takings more (after_taking ts t) moment) < more → ((us : List Live) (v : Live) → HasDistinctIds us → find (has_id v.id) us ≡ Some v → length (takings more us moment) < more → filter (has_id v.id) (takings more us moment) ≡ firings more v moment)
        → filter (has_id t.id) (takings more (after_taking ts t) moment) ≡ fires_then p (λ period. firings more (record t { due = t.due + period }) moment)
    by_period None e few later = others_not more moment (after_taking ts t) t.id (gone_after ts t e)
    by_period (Some period) e few later = later (after_taking ts t) (record t { due = t.due + period }) (distinct_taken ts t d) (found_again ts t period e) few

    by_id : (u : Live) (b : Bool) → (u.id == t.id) ≡ b → IsTaken ts moment u → length (takings more (after_taking ts u) moment) < more → ((us : List Live) (v : Live) → HasDistinctIds us → find (has_id v.id) us ≡ Some v → length (takings more us moment) < more → filter (has_id v.id) (takings more us moment) ≡ firings more v moment)
        → filter (has_id t.id) (u ∷ takings more (after_taking ts u) moment) ≡ firings (suc more) t moment
    by_id u true e taken few later =
        let found : find (has_id t.id) ts ≡ Some u = subst (λ k. find (has_id k) ts ≡ Some u) (same_id u.id t.id e) (in_is_found ts u d taken.inside) in
        let same : t ≡ u = cc in
        let few' : length (takings more (after_taking ts t) moment) < more = subst (λ x. length (takings more (after_taking ts x) moment) < more) (sym same) few in
        let due : is_due moment t ≡ true = ap (is_due moment) same ∙ taken.due in
        subst (λ x. filter (has_id t.id) (x ∷ takings more (after_taking ts x) moment) ≡ firings (suc more) t moment) same
        (rw (is_same t.id t.id refl) (ap (λ l. t ∷ l) (by_period t.period refl few' later)) ∙ sym (fires_now more t moment due))
    by_id u false e taken few later =
        let rest = later (after_taking ts u) t (distinct_taken ts u d) (found_after ts u t e at) few in
        let short = filter_short (has_id t.id) (takings more (after_taking ts u) moment) in
        rw e (rest ∙ sym (firings_end more t moment (subst (λ l. length l < more) rest (omega arith))))

    by_first : (o : Option Live) → first (due_timers ts moment) ≡ o → length (taken_then o (λ u. takings more (after_taking ts u) moment)) < suc more → ((us : List Live) (v : Live) → HasDistinctIds us → find (has_id v.id) us ≡ Some v → length (takings more us moment) < more → filter (has_id v.id) (takings more us moment) ≡ firings more v moment)
        → filter (has_id t.id) (taken_then o (λ u. takings more (after_taking ts u) moment)) ≡ firings (suc more) t moment
    by_first None e few later = sym (fires_not more t moment (none_due ts moment t e (found_is_in ts t.id t at)))
    by_first (Some u) e few later = by_id u (u.id == t.id) refl (is_taken ts moment u e) (omega arith) later

pub takes_the_firings : (ts : List Live) (moment most : ℕ) → TakesTheFirings ts moment most
takes_the_firings ts moment most = record {
  by_due = by_due_time most moment ts;
  in_time = all_in_time most moment ts;
  each = λ t d at ends. each_fires most moment ts t d at ends;
  others = λ id free. others_not most moment ts id free;
}
