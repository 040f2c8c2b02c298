-- The marks of ids, and what becomes of them.
use Rattle.std.proofs.Common.{◌≡◌, ◌≢◌, ◌⊎◌, inl, inr, ℕ, zero, suc, ◌+◌, ◌-◌, ◌<◌, ◌≤◌, ◌==◌, ◌||◌, Bool, true, false, List, [], ◌∷◌, ◌++◌, length, Some, None, min, slice_index_or, slice_set, sym, ap, ◌∙◌, arith}
use Rattle.std.proofs.Math.Bool.{or-false}
use Rattle.std.proofs.Math.ListN.{get_or-append}
use Rattle.std.proofs.Math.Seq.{get_or-append_seam}
use Rattle.std.proofs.lemmas.Bool.{cases_lt, cases_order, or_right}
use Rattle.std.proofs.lemmas.List.{get_or-set_other, get_or-set_same, get_or_past, length-append, length-set}
use Rattle.timer_queue.proofs.IdLemmas.{cleared_frees, cleared_keeps, is_least_free, is_other, is_same, live_end, no_more, one_least}
use Rattle.timer_queue.specs.Marks.{AreMarks, IsFirstFree}
use Rattle.timer_queue.specs.Timers.{after_taking, again, cleared, is_live, least_free}
use Rattle.timer_queue.specs.declared.timer.Live.{Live}

-- a mark that is added is as if it were not there
pub added : (marks : List Bool) (k : ℕ) → slice_index_or (marks ++ false ∷ []) k false ≡ slice_index_or marks k false
added marks k = by (cases_order k (length marks))
  where
    by : (k ≡ length marks) ⊎ ((k < length marks) ⊎ (length marks < k)) → slice_index_or (marks ++ false ∷ []) k false ≡ slice_index_or marks k false
    by (inl here) =
        ap (λ i. slice_index_or (marks ++ false ∷ []) i false) here ∙ get_or-append_seam marks false [] false
        ∙ sym (get_or_past marks k false (omega (arith, here)))
    by (inr (inl before)) = get_or-append marks (false ∷ []) false k before
    by (inr (inr after)) = get_or_past (marks ++ false ∷ []) k false (omega (arith, length-append marks (false ∷ []), after)) ∙ sym (get_or_past marks k false (omega (arith, after)))

-- marks that read the same are as good
pub marks_read : (ts : List Live) (marks more : List Bool) (full : ℕ) → ((k : ℕ) → slice_index_or more k false ≡ slice_index_or marks k false) → length marks ≤ length more → AreMarks ts marks full → AreMarks ts more full
marks_read ts marks more full same longer are = record {
  each = λ k. same k ∙ are.each k;
  set = λ k low. same k ∙ are.set k low;
  inside = omega (arith, longer, are.inside);
}

-- the id after the first free place is the least that is free
pub found : (ts : List Live) (marks : List Bool) (full place : ℕ) → AreMarks ts marks full → IsFirstFree marks full place → suc place ≡ least_free ts
found ts marks full place are first = one_least ts (suc place) (least_free ts) (record { above = omega arith; free = sym (are.each place) ∙ first.free; least = least }) (is_least_free ts)
  where
    before : (j : ℕ) → j < place → (j < full) ⊎ (full ≤ j) → slice_index_or marks j false ≡ true
    before j low (inl early) = are.set j early
    before j low (inr late) = first.set j late low

    least : (k : ℕ) → 0 < k → k < suc place → is_live ts k ≡ true
    least zero above below = absurd (omega (arith, above))
    least (suc j) above below = sym (are.each j) ∙ before j (omega (arith, below)) (cases_lt j full)

-- the marks after a timer was started
pub marked : (ts : List Live) (u : Live) (marks : List Bool) (full place : ℕ) → AreMarks ts marks full → IsFirstFree marks full place → u.id ≡ suc place → AreMarks (ts ++ u ∷ []) (slice_set marks place true) (place + 1)
marked ts u marks full place are first id = record {
  each = λ k. each k (cases_order k place);
  set = λ k low. set k low (cases_order k place);
  inside = let long = length-set marks place true in let within = first.inside in omega arith;
}
  where
    other : (k : ℕ) → k ≢ place → slice_index_or (slice_set marks place true) k false ≡ slice_index_or marks k false
    other k ne = get_or-set_other marks place k true false ne

    here : (k : ℕ) → k ≡ place → slice_index_or (slice_set marks place true) k false ≡ true
    here k e = ap (λ i. slice_index_or (slice_set marks place true) i false) e ∙ get_or-set_same marks place true false first.inside

    apart : (k : ℕ) → k ≢ place → is_live (ts ++ u ∷ []) (suc k) ≡ is_live ts (suc k)
    apart k ne = live_end ts u (suc k) ∙ ap (λ b. is_live ts (suc k) || b) (is_other u.id (suc k) (λ e. ne (omega (arith, e, id)))) ∙ or-false (is_live ts (suc k))

    now : (k : ℕ) → k ≡ place → is_live (ts ++ u ∷ []) (suc k) ≡ true
    now k e = live_end ts u (suc k) ∙ or_right (is_live ts (suc k)) (u.id == suc k) (is_same u.id (suc k) (omega (arith, e, id)))

    each : (k : ℕ) → (k ≡ place) ⊎ ((k < place) ⊎ (place < k)) → slice_index_or (slice_set marks place true) k false ≡ is_live (ts ++ u ∷ []) (suc k)
    each k (inl e) = here k e ∙ sym (now k e)
    each k (inr (inl low)) = let ne : k ≢ place = λ e. omega (arith, low, e) in other k ne ∙ are.each k ∙ sym (apart k ne)
    each k (inr (inr high)) = let ne : k ≢ place = λ e. omega (arith, high, e) in other k ne ∙ are.each k ∙ sym (apart k ne)

    before : (j : ℕ) → j < place → (j < full) ⊎ (full ≤ j) → slice_index_or marks j false ≡ true
    before j low (inl early) = are.set j early
    before j low (inr late) = first.set j late low

    set : (k : ℕ) → k < place + 1 → (k ≡ place) ⊎ ((k < place) ⊎ (place < k)) → slice_index_or (slice_set marks place true) k false ≡ true
    set k low (inl e) = here k e
    set k low (inr (inl below)) = let ne : k ≢ place = λ e. omega (arith, below, e) in other k ne ∙ before k below (cases_lt k full)
    set k low (inr (inr high)) = absurd (omega (arith, low, high))

-- where no mark is for the id, it is not live, and nothing changes
pub unmarked_past : (ts : List Live) (marks : List Bool) (full id : ℕ) → (id ≡ 0) ⊎ (length marks < id) → AreMarks ts marks full → AreMarks (cleared ts id) marks full
unmarked_past ts marks full id past are = record { each = λ k. are.each k ∙ sym (by k past (cases_order id (suc k))); set = are.set; inside = are.inside }
  where
    not_live : (k : ℕ) → length marks ≤ k → is_live ts (suc k) ≡ false
    not_live k far = sym (are.each k) ∙ get_or_past marks k false far

    by : (k : ℕ) → (id ≡ 0) ⊎ (length marks < id) → (id ≡ suc k) ⊎ ((id < suc k) ⊎ (suc k < id)) → is_live (cleared ts id) (suc k) ≡ is_live ts (suc k)
    by k (inl z) (inl e) = absurd (omega (arith, z, e))
    by k (inr far) (inl e) = ap (is_live (cleared ts id)) (sym e) ∙ cleared_frees ts id ∙ sym (not_live k (omega (arith, far, e)))
    by k z (inr (inl low)) = cleared_keeps ts id (suc k) (is_other id (suc k) (λ e. omega (arith, low, e)))
    by k z (inr (inr high)) = cleared_keeps ts id (suc k) (is_other id (suc k) (λ e. omega (arith, high, e)))

-- the mark of an id that is cleared
pub unmarked : (ts : List Live) (marks : List Bool) (full id : ℕ) → 0 < id → id ≤ length marks → AreMarks ts marks full → AreMarks (cleared ts id) (slice_set marks (id - 1) false) (min full (id - 1))
unmarked ts marks full id above within are = record {
  each = λ k. each k (cases_order k (id - 1));
  set = λ k low. let ne : k ≢ id - 1 = λ e. omega (arith, low, e) in other k ne ∙ are.set k (omega (arith, low));
  inside = let long = length-set marks (id - 1) false in let fits = are.inside in omega arith;
}
  where
    other : (k : ℕ) → k ≢ id - 1 → slice_index_or (slice_set marks (id - 1) false) k false ≡ slice_index_or marks k false
    other k ne = get_or-set_other marks (id - 1) k false false ne

    keeps : (k : ℕ) → k ≢ id - 1 → slice_index_or (slice_set marks (id - 1) false) k false ≡ is_live (cleared ts id) (suc k)
    keeps k ne = other k ne ∙ are.each k ∙ sym (cleared_keeps ts id (suc k) (is_other id (suc k) (λ e. ne (omega (arith, e)))))

    each : (k : ℕ) → (k ≡ id - 1) ⊎ ((k < id - 1) ⊎ (id - 1 < k)) → slice_index_or (slice_set marks (id - 1) false) k false ≡ is_live (cleared ts id) (suc k)
    each k (inl e) =
        let same : suc k ≡ id = omega (arith, e, above) in
        ap (λ i. slice_index_or (slice_set marks (id - 1) false) i false) e ∙ get_or-set_same marks (id - 1) false false (omega (arith, above, within))
        ∙ sym (ap (is_live (cleared ts id)) same ∙ cleared_frees ts id)
    each k (inr (inl low)) = keeps k (λ e. omega (arith, low, e))
    each k (inr (inr high)) = keeps k (λ e. omega (arith, high, e))

-- an interval that is taken keeps its id
pub taken_again : (ts : List Live) (t : Live) (period : ℕ) (marks : List Bool) (full : ℕ) → is_live ts t.id ≡ true → t.period ≡ Some period → AreMarks ts marks full → AreMarks (after_taking ts t) marks full
taken_again ts t period marks full live is are = record { each = λ k. are.each k ∙ sym (ap (λ p. is_live (cleared ts t.id ++ again t p) (suc k)) is ∙ by k (cases_order t.id (suc k))); set = are.set; inside = are.inside }
  where
    u : Live
    u = record t { due = t.due + period }

    apart : (k : ℕ) → t.id ≢ suc k → is_live (cleared ts t.id ++ u ∷ []) (suc k) ≡ is_live ts (suc k)
    apart k ne =
        live_end (cleared ts t.id) u (suc k) ∙ ap (λ b. is_live (cleared ts t.id) (suc k) || b) (is_other t.id (suc k) ne) ∙ or-false (is_live (cleared ts t.id) (suc k))
        ∙ cleared_keeps ts t.id (suc k) (is_other t.id (suc k) ne)

    by : (k : ℕ) → (t.id ≡ suc k) ⊎ ((t.id < suc k) ⊎ (suc k < t.id)) → is_live (cleared ts t.id ++ u ∷ []) (suc k) ≡ is_live ts (suc k)
    by k (inl e) = live_end (cleared ts t.id) u (suc k) ∙ or_right (is_live (cleared ts t.id) (suc k)) (t.id == suc k) (is_same t.id (suc k) e) ∙ sym (ap (is_live ts) (sym e) ∙ live)
    by k (inr (inl low)) = apart k (λ e. omega (arith, low, e))
    by k (inr (inr high)) = apart k (λ e. omega (arith, high, e))

-- and one that is not is live no more
pub taken_once : (ts : List Live) (t : Live) → t.period ≡ None → after_taking ts t ≡ cleared ts t.id
taken_once ts t is = ap (λ p. cleared ts t.id ++ again t p) is ∙ no_more (cleared ts t.id)
