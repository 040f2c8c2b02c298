-- The timer that is due first.
use Rattle.std.proofs.Common.{◌≡◌, ◌⊎◌, inl, inr, ℕ, ◌<◌, ◌≤◌, Bool, true, false, nat_le, if◌then◌else◌, List, [], ◌∷◌, Option, Some, None, filter, refl, sym, ap, subst, ◌∙◌, arith}
use Rattle.std.proofs.lemmas.Bool.Decides.{nat_tests}
use Rattle.timer_queue.specs.Timers.{IsIn, before_later, due_timers, earlier, earliest, first, in_order, is_due}
use Rattle.timer_queue.specs.declared.timer.Live.{Live}

first_before : (t : Live) (us : List Live) → first (before_later t us) ≡ Some (earlier t (first us))
first_before t [] = refl
first_before t (u ∷ us) = by_case (nat_le t.due u.due)
  where
    by_case : (b : Bool) → first (if b then t ∷ u ∷ us else u ∷ before_later t us) ≡ Some (if b then t else u)
    by_case true = refl
    by_case false = refl

pub first_in_order : (ts : List Live) → first (in_order ts) ≡ earliest ts
first_in_order [] = refl
first_in_order (t ∷ ts) = first_before t (in_order ts) ∙ ap (λ o. Some (earlier t o)) (first_in_order ts)

pub is_low : (a b : ℕ) → nat_le a b ≡ true → a ≤ b
is_low a b h = grind (arith, nat_tests)

pub is_high : (a b : ℕ) → nat_le a b ≡ false → b < a
is_high a b h = grind (arith, nat_tests)

pub low_test : (a b : ℕ) → a ≤ b → nat_le a b ≡ true
low_test a b h = grind (arith, nat_tests)

pub high_test : (a b : ℕ) → b < a → nat_le a b ≡ false
high_test a b h = grind (arith, nat_tests)

pub earliest_is_in : (ts : List Live) (u : Live) → earliest ts ≡ Some u → IsIn ts u
earliest_is_in [] u e = cc
earliest_is_in (t ∷ ts) u e = by_later (earliest ts) refl e (earliest_is_in ts)
  where
    by_test : (b : Bool) (v : Live) → Some (if b then t else v) ≡ Some u → IsIn ts v → (t ≡ u) ⊎ IsIn ts u
    by_test true v is later = inl (cc)
    by_test false v is later = let same : v ≡ u = cc in inr (subst (IsIn ts) same later)

    by_later : (o : Option Live) → earliest ts ≡ o → Some (earlier t o) ≡ Some u → ((v : Live) → earliest ts ≡ Some v → IsIn ts v) → (t ≡ u) ⊎ IsIn ts u
    by_later None at is later = inl (cc)
    by_later (Some v) at is later = by_test (nat_le t.due v.due) v is (later v at)

pub earliest_none : (ts : List Live) → earliest ts ≡ None → ts ≡ []
earliest_none [] e = refl
earliest_none (t ∷ ts) e = absurd (cc)

-- it is due no later than any
pub earliest_is_least : (ts : List Live) (u v : Live) → earliest ts ≡ Some u → IsIn ts v → u.due ≤ v.due
earliest_is_least [] u v e inside = absurd inside
earliest_is_least (t ∷ ts) u v e inside = by_later (earliest ts) refl e inside (λ w. earliest_is_least ts w v)
  where
    by_test : (b : Bool) (w : Live) → nat_le t.due w.due ≡ b → Some (if b then t else w) ≡ Some u → (t ≡ v) ⊎ IsIn ts v → (IsIn ts v → w.due ≤ v.due) → u.due ≤ v.due
    by_test true w test is (inl here) later = let a : t ≡ u = cc in let b : t.due ≡ u.due = ap (λ x. x.due) a in let c : t.due ≡ v.due = ap (λ x. x.due) here in omega arith
    by_test true w test is (inr there) later = let a : t ≡ u = cc in let b : t.due ≡ u.due = ap (λ x. x.due) a in let c = later there in let d = is_low t.due w.due test in omega arith
    by_test false w test is (inl here) later = let a : w ≡ u = cc in let b : w.due ≡ u.due = ap (λ x. x.due) a in let c : t.due ≡ v.due = ap (λ x. x.due) here in let d = is_high t.due w.due test in omega arith
    by_test false w test is (inr there) later = let a : w ≡ u = cc in let b : w.due ≡ u.due = ap (λ x. x.due) a in let c = later there in omega arith

    by_later : (o : Option Live) → earliest ts ≡ o → Some (earlier t o) ≡ Some u → (t ≡ v) ⊎ IsIn ts v → ((w : Live) → earliest ts ≡ Some w → IsIn ts v → w.due ≤ v.due) → u.due ≤ v.due
    by_later None at is (inl here) later = let a : t ≡ u = cc in let b : t.due ≡ u.due = ap (λ x. x.due) a in let c : t.due ≡ v.due = ap (λ x. x.due) here in omega arith
    by_later None at is (inr there) later = absurd (subst (λ l. IsIn l v) (earliest_none ts at) there)
    by_later (Some w) at is inside' later = by_test (nat_le t.due w.due) w refl is inside' (later w at)

-- ---- those that pass a test

pub passes : (p : Live → Bool) (ts : List Live) (u : Live) → IsIn (filter p ts) u → IsIn ts u × (p u ≡ true)
passes p [] u inside = absurd inside
passes p (t ∷ ts) u inside = by_case (p t) refl inside (passes p ts u)
  where
    by_case : (b : Bool) → p t ≡ b → IsIn (if b then t ∷ filter p ts else filter p ts) u → (IsIn (filter p ts) u → IsIn ts u × (p u ≡ true)) → ((t ≡ u) ⊎ IsIn ts u) × (p u ≡ true)
    by_case true test (inl here) later = (inl here, ap p (sym here) ∙ test)
    by_case true test (inr there) later = let both = later there in (inr both.0, both.1)
    by_case false test there later = let both = later there in (inr both.0, both.1)

pub passed : (p : Live → Bool) (ts : List Live) (u : Live) → IsIn ts u → p u ≡ true → IsIn (filter p ts) u
passed p [] u inside test = absurd inside
passed p (t ∷ ts) u inside test = by_case (p t) refl inside (λ there. passed p ts u there test)
  where
    by_case : (b : Bool) → p t ≡ b → (t ≡ u) ⊎ IsIn ts u → (IsIn ts u → IsIn (filter p ts) u) → IsIn (if b then t ∷ filter p ts else filter p ts) u
    by_case true at (inl here) later = inl here
    by_case true at (inr there) later = inr (later there)
    by_case false at (inl here) later = let same : p t ≡ p u = ap p here in absurd (cc)
    by_case false at (inr there) later = later there

-- what is known of the timer that is taken
pub record IsTaken (ts : List Live) (moment : ℕ) (t : Live) : Type 0 where
  pub inside : IsIn ts t
  pub due : is_due moment t ≡ true
  pub least : (u : Live) → IsIn ts u → is_due moment u ≡ true → t.due ≤ u.due

pub is_taken : (ts : List Live) (moment : ℕ) (t : Live) → first (due_timers ts moment) ≡ Some t → IsTaken ts moment t
is_taken ts moment t e =
    let at : earliest (filter (is_due moment) ts) ≡ Some t = sym (first_in_order (filter (is_due moment) ts)) ∙ e in
    let both = passes (is_due moment) ts t (earliest_is_in (filter (is_due moment) ts) t at) in
    record {
      inside = both.0;
      due = both.1;
      least = λ u inside due. earliest_is_least (filter (is_due moment) ts) t u at (passed (is_due moment) ts u inside due);
    }

-- where none is taken none is due
pub none_due : (ts : List Live) (moment : ℕ) (t : Live) → first (due_timers ts moment) ≡ None → IsIn ts t → is_due moment t ≡ false
none_due ts moment t e inside = by_case (is_due moment t) refl
  where
    by_case : (b : Bool) → is_due moment t ≡ b → is_due moment t ≡ false
    by_case false at = at
    by_case true at =
        let none : filter (is_due moment) ts ≡ [] = earliest_none (filter (is_due moment) ts) (sym (first_in_order (filter (is_due moment) ts)) ∙ e) in
        absurd (subst (λ l. IsIn l t) none (passed (is_due moment) ts t inside at))

-- ---- what the first of those that are due is

stays_first : (ts : List Live) (moment : ℕ) (u : Live) → u.due ≤ moment → ((w : Live) → earliest (filter (is_due moment) ts) ≡ Some w → u.due ≤ w.due) → earliest (filter (is_due moment) (u ∷ ts)) ≡ Some u
stays_first ts moment u low least = rw (low_test u.due moment low) (by_rest (earliest (filter (is_due moment) ts)) refl)
  where
    by_rest : (o : Option Live) → earliest (filter (is_due moment) ts) ≡ o → Some (earlier u o) ≡ Some u
    by_rest None at = refl
    by_rest (Some w) at = rw (low_test u.due w.due (least w at)) refl

is_behind : (ts : List Live) (moment : ℕ) (u v : Live) → earliest (filter (is_due moment) ts) ≡ Some v → nat_le u.due v.due ≡ false → earliest (filter (is_due moment) (u ∷ ts)) ≡ Some v
is_behind ts moment u v at test = by_due (is_due moment u)
  where
    by_due : (c : Bool) → earliest (if c then u ∷ filter (is_due moment) ts else filter (is_due moment) ts) ≡ Some v
    by_due true = rw (at, test) refl
    by_due false = at

none_passes : (ts : List Live) (moment : ℕ) (w : Live) → earliest ts ≡ None → earliest (filter (is_due moment) ts) ≡ Some w → ⊥
none_passes ts moment w none at = subst (λ l. IsIn l w) (earliest_none ts none) (passes (is_due moment) ts w (earliest_is_in (filter (is_due moment) ts) w at)).0

earliest_due : (ts : List Live) (moment : ℕ) (t : Live) → earliest ts ≡ Some t → t.due ≤ moment → earliest (filter (is_due moment) ts) ≡ Some t
earliest_due [] moment t e low = absurd (cc)
earliest_due (u ∷ ts) moment t e low = by_later (earliest ts) refl e (λ v. earliest_due ts moment v)
  where
    by_test : (v : Live) (b : Bool) → nat_le u.due v.due ≡ b → earliest ts ≡ Some v → Some (if b then u else v) ≡ Some t → (v.due ≤ moment → earliest (filter (is_due moment) ts) ≡ Some v) → earliest (filter (is_due moment) (u ∷ ts)) ≡ Some t
    by_test v true test at is later =
        let same : u ≡ t = cc in
        let low' : u.due ≤ moment = subst (λ x. x.due ≤ moment) (sym same) low in
        stays_first ts moment u low' (λ w there. (let a = is_low u.due v.due test in let b = earliest_is_least ts v w at (passes (is_due moment) ts w (earliest_is_in (filter (is_due moment) ts) w there)).0 in omega arith)) ∙ ap Some same
    by_test v false test at is later =
        let same : v ≡ t = cc in
        let low' : v.due ≤ moment = subst (λ x. x.due ≤ moment) (sym same) low in
        is_behind ts moment u v (later low') test ∙ ap Some same

    by_later : (o : Option Live) → earliest ts ≡ o → Some (earlier u o) ≡ Some t → ((v : Live) → earliest ts ≡ Some v → v.due ≤ moment → earliest (filter (is_due moment) ts) ≡ Some v) → earliest (filter (is_due moment) (u ∷ ts)) ≡ Some t
    by_later None at is later =
        let same : u ≡ t = cc in
        let low' : u.due ≤ moment = subst (λ x. x.due ≤ moment) (sym same) low in
        stays_first ts moment u low' (λ w there. absurd (none_passes ts moment w at there)) ∙ ap Some same
    by_later (Some v) at is later = by_test v (nat_le u.due v.due) refl at is (later v at)

pub first_due : (ts : List Live) (moment : ℕ) (t : Live) → earliest ts ≡ Some t → t.due ≤ moment → first (due_timers ts moment) ≡ Some t
first_due ts moment t e low = first_in_order (filter (is_due moment) ts) ∙ earliest_due ts moment t e low

pub none_is_due : (ts : List Live) (moment : ℕ) (t : Live) → earliest ts ≡ Some t → moment < t.due → first (due_timers ts moment) ≡ None
none_is_due ts moment t e high = by_first (first (due_timers ts moment)) refl
  where
    by_first : (o : Option Live) → first (due_timers ts moment) ≡ o → first (due_timers ts moment) ≡ None
    by_first None at = at
    by_first (Some u) at =
        let taken = is_taken ts moment u at in
        let a = earliest_is_least ts t u e taken.inside in
        let b = is_low u.due moment taken.due in
        absurd (omega arith)

pub none_is_live : (ts : List Live) (moment : ℕ) → earliest ts ≡ None → first (due_timers ts moment) ≡ None
none_is_live ts moment e = let none = earliest_none ts e in rw none refl
