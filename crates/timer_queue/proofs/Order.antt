-- The order of due timers.
use Rattle.std.proofs.Common.{◌≡◌, ℕ, ◌<◌, ◌≤◌, ◌==◌, Bool, true, false, nat_le, if◌then◌else◌, List, [], ◌∷◌, filter, refl, sym, ap, ◌∙◌, arith}
use Rattle.std.specs.List.{list_all}
use Rattle.std.proofs.lemmas.Bool.{and_parts}
use Rattle.timer_queue.proofs.Earliest.{is_high, is_low, low_test}
use Rattle.timer_queue.proofs.IdLemmas.{is_other, same_id}
use Rattle.timer_queue.specs.Laws.{AreInOrder, NeverFall, due_at}
use Rattle.timer_queue.specs.Timers.{before_later, in_order, is_due}
use Rattle.timer_queue.specs.declared.timer.Live.{Live}

-- each is due at n or later
abbrev pub all_from : ℕ → List Live → Bool
all_from n ts = list_all (λ u. nat_le n u.due) ts

lower : (m n : ℕ) (ts : List Live) → m ≤ n → all_from n ts ≡ true → all_from m ts ≡ true
lower m n [] below all = refl
lower m n (t ∷ ts) below all =
    let parts = and_parts (nat_le n t.due) (all_from n ts) all in
    let low = is_low n t.due parts.0 in
    rw (low_test m t.due (omega arith), lower m n ts below parts.1) refl

all_before : (n : ℕ) (t : Live) (us : List Live) → n ≤ t.due → all_from n us ≡ true → all_from n (before_later t us) ≡ true
all_before n t [] low all = rw (low_test n t.due low) refl
all_before n t (u ∷ us) low all = by_case (nat_le t.due u.due) (and_parts (nat_le n u.due) (all_from n us) all) (all_before n t us low)
  where
    by_case : (b : Bool) → (nat_le n u.due ≡ true) × (all_from n us ≡ true) → (all_from n us ≡ true → all_from n (before_later t us) ≡ true) → all_from n (if b then t ∷ u ∷ us else u ∷ before_later t us) ≡ true
    by_case true parts later = rw (low_test n t.due low, parts.0, parts.1) refl
    by_case false parts later = rw (parts.0, later parts.1) refl

falls_before : (t : Live) (us : List Live) → NeverFall us → NeverFall (before_later t us)
falls_before t [] sorted = (refl, tt)
falls_before t (u ∷ us) sorted = by_case (nat_le t.due u.due) refl (falls_before t us sorted.1)
  where
    by_case : (b : Bool) → nat_le t.due u.due ≡ b → NeverFall (before_later t us) → NeverFall (if b then t ∷ u ∷ us else u ∷ before_later t us)
    by_case true test later = (rw (test, lower t.due u.due us (is_low t.due u.due test) sorted.0) refl, sorted)
    by_case false test later = let high = is_high t.due u.due test in (all_before u.due t us (omega arith) sorted.0, later)

falls_in_order : (ts : List Live) → NeverFall (in_order ts)
falls_in_order [] = tt
falls_in_order (t ∷ ts) = falls_before t (in_order ts) (falls_in_order ts)

-- ---- those of one due time

at_once : (d : ℕ) (t : Live) (ts : List Live) → (t.due == d) ≡ true → due_at d (t ∷ ts) ≡ t ∷ due_at d ts
at_once d t ts e = rw e refl

at_another : (d : ℕ) (t : Live) (ts : List Live) → (t.due == d) ≡ false → due_at d (t ∷ ts) ≡ due_at d ts
at_another d t ts e = rw e refl

at_before : (d : ℕ) (t : Live) (us : List Live) → due_at d (before_later t us) ≡ due_at d (t ∷ us)
at_before d t [] = refl
at_before d t (u ∷ us) = by_case (nat_le t.due u.due) refl (at_before d t us)
  where
    by_tests : (a b : Bool) → (t.due == d) ≡ a → (u.due == d) ≡ b → u.due < t.due → due_at d (before_later t us) ≡ due_at d (t ∷ us) → due_at d (u ∷ before_later t us) ≡ due_at d (t ∷ u ∷ us)
    by_tests true true now too below later = let x = same_id t.due d now in let y = same_id u.due d too in absurd (omega arith)
    by_tests true false now too below later = at_another d u (before_later t us) too ∙ later ∙ at_once d t us now ∙ sym (at_once d t (u ∷ us) now ∙ ap (λ l. t ∷ l) (at_another d u us too))
    by_tests false true now too below later = at_once d u (before_later t us) too ∙ ap (λ l. u ∷ l) (later ∙ at_another d t us now) ∙ sym (at_another d t (u ∷ us) now ∙ at_once d u us too)
    by_tests false false now too below later = at_another d u (before_later t us) too ∙ later ∙ at_another d t us now ∙ sym (at_another d t (u ∷ us) now ∙ at_another d u us too)

    by_case : (b : Bool) → nat_le t.due u.due ≡ b → due_at d (before_later t us) ≡ due_at d (t ∷ us) → due_at d (if b then t ∷ u ∷ us else u ∷ before_later t us) ≡ due_at d (t ∷ u ∷ us)
    by_case true test later = refl
    by_case false test later = by_tests (t.due == d) (u.due == d) refl refl (is_high t.due u.due test) later

at_in_order : (d : ℕ) (ts : List Live) → due_at d (in_order ts) ≡ due_at d ts
at_in_order d [] = refl
at_in_order d (t ∷ ts) = at_before d t (in_order ts) ∙ ap (λ l. if t.due == d then t ∷ l else l) (at_in_order d ts)

at_due : (d m : ℕ) (ts : List Live) → d ≤ m → due_at d (filter (is_due m) ts) ≡ due_at d ts
at_due d m [] within = refl
at_due d m (t ∷ ts) within = by_case (is_due m t) refl (at_due d m ts within)
  where
    by_case : (b : Bool) → is_due m t ≡ b → due_at d (filter (is_due m) ts) ≡ due_at d ts → due_at d (if b then t ∷ filter (is_due m) ts else filter (is_due m) ts) ≡ due_at d (t ∷ ts)
    by_case true test later = ap (λ l. if t.due == d then t ∷ l else l) later
    by_case false test later = let high = is_high t.due m test in later ∙ sym (at_another d t ts (is_other t.due d (λ e. omega arith)))

none_at : (d m : ℕ) (ts : List Live) → m < d → due_at d (filter (is_due m) ts) ≡ []
none_at d m [] past = refl
none_at d m (t ∷ ts) past = by_case (is_due m t) refl (none_at d m ts past)
  where
    by_case : (b : Bool) → is_due m t ≡ b → due_at d (filter (is_due m) ts) ≡ [] → due_at d (if b then t ∷ filter (is_due m) ts else filter (is_due m) ts) ≡ []
    by_case true test later = let low = is_low t.due m test in at_another d t (filter (is_due m) ts) (is_other t.due d (λ e. omega arith)) ∙ later
    by_case false test later = later

pub are_in_order : (ts : List Live) (moment : ℕ) → AreInOrder ts moment
are_in_order ts moment = record {
  by_due = falls_in_order (filter (is_due moment) ts);
  by_start = λ d within. at_in_order d (filter (is_due moment) ts) ∙ at_due d moment ts within;
  none_later = λ d past. at_in_order d (filter (is_due moment) ts) ∙ none_at d moment ts past;
}
