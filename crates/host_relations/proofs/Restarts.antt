-- The statements that start timers again give the same timers.
use Rattle.std.proofs.Common.{◌≡◌, inl, inr, ◌⊎◌, refl, sym, ap, ◌∙◌, subst, ℕ, zero, suc, ◌+◌, ◌-◌, ◌<◌, ◌≤◌, ◌==◌, ◌||◌, not, Bool, true, false, if◌then◌else◌, List, [], ◌∷◌, ◌++◌, None, append_assoc, arith}
use Rattle.std.proofs.lemmas.Bool.{or_parts}
use Rattle.js_values.specs.declared.ids.ObjId.{ObjId}
use Rattle.timer_queue.proofs.Callers.{cleared_frees, cleared_stays_free, is_least_free, is_other, is_same, other_id, same_id, swapped}
use Rattle.timer_queue.specs.Laws.{HasDistinctIds, IsLeastFree}
use Rattle.timer_queue.specs.Timely.{AreTimely}
use Rattle.timer_queue.specs.Timers.{cleared, is_live, least_free, started}
use Rattle.timer_queue.specs.declared.timer.Live.{Live}
use Rattle.heap_relations.specs.Related.{each, no_more}
use Rattle.host_relations.specs.Restart.{filled, greatest, moved_timer, moved_timers, restarted, unfilled}
use Rattle.host_relations.specs.TimerLaws.{RebuiltTimersAgree, TimersAreRebuilt}

-- ---- ids

order : (a b : ℕ) → (a < b) ⊎ ((b < a) ⊎ (a ≡ b))
order zero zero = inr (inr refl)
order zero (suc b) = inl (omega arith)
order (suc a) zero = inr (inl (omega arith))
order (suc a) (suc b) = elim (order a b) [ inl x ↦ inl (omega (arith, x)) | inr (inl x) ↦ inr (inl (omega (arith, x))) | inr (inr x) ↦ inr (inr (ap suc x)) ]

-- the least free one is the one that is free and has no free one below
pub least_is : (us : List Live) (j : ℕ) → 0 < j → is_live us j ≡ false → ((k : ℕ) → 0 < k → k < j → is_live us k ≡ true) → least_free us ≡ j
least_is us j above free below = by (least_free us) (order (least_free us) j) l.above l.free l.least
  where
    l : IsLeastFree us (least_free us)
    l = is_least_free us

    by : (k : ℕ) → (k < j) ⊎ ((j < k) ⊎ (k ≡ j)) → 0 < k → is_live us k ≡ false → ((i : ℕ) → 0 < i → i < k → is_live us i ≡ true) → k ≡ j
    by k (inl low) pos none least = let t = below k pos low in absurd (cc)
    by k (inr (inl high)) pos none least = let t = least j above high in absurd (cc)
    by k (inr (inr e)) pos none least = e

live_append : (us vs : List Live) (id : ℕ) → is_live (us ++ vs) id ≡ is_live us id || is_live vs id
live_append [] vs id = refl
live_append (u ∷ us) vs id = by (u.id == id) (live_append us vs id)
  where
    by : (b : Bool) → is_live (us ++ vs) id ≡ is_live us id || is_live vs id → (b || is_live (us ++ vs) id) ≡ ((b || is_live us id) || is_live vs id)
    by true later = refl
    by false later = later

-- another id stays live
live_cleared : (us : List Live) (id k : ℕ) → (id == k) ≡ false → is_live us k ≡ true → is_live (cleared us id) k ≡ true
live_cleared [] id k other live = live
live_cleared (u ∷ us) id k other live = by (u.id == id) (u.id == k) refl refl live (live_cleared us id k other)
  where
    by : (b d : Bool) → (u.id == id) ≡ b → (u.id == k) ≡ d → (d || is_live us k) ≡ true → (is_live us k ≡ true → is_live (cleared us id) k ≡ true)
        → is_live (if not b then u ∷ cleared us id else cleared us id) k ≡ true
    by true true e f h later = let same : id ≡ k = sym (same_id u.id id e) ∙ same_id u.id k f in absurd (let a = is_same id k same in cc)
    by true false e f h later = later h
    by false true e f h later = rw f refl
    by false false e f h later = rw f (later h)

-- where no id is live there is no timer
none_there : (us : List Live) → ((id : ℕ) → is_live us id ≡ false) → us ≡ []
none_there [] h = refl
none_there (u ∷ us) h = let e : ((u.id == u.id) || is_live us u.id) ≡ false = h u.id in let f = is_same u.id u.id refl in absurd (cc)

-- live are exactly the ids from 1 to n
pub record AreAll (n : ℕ) (us : List Live) : Type 0 where
  pub nought : is_live us 0 ≡ false
  pub inside : (id : ℕ) → 0 < id → id ≤ n → is_live us id ≡ true
  pub outside : (id : ℕ) → n < id → is_live us id ≡ false

-- ---- fillers

next_is : (n : ℕ) (us : List Live) → AreAll n us → least_free us ≡ suc n
next_is n us h = least_is us (suc n) (omega arith) (h.outside (suc n) (omega arith)) (λ k above low. h.inside k above (omega (arith, low)))

one_more : (us : List Live) (t : Live) (id : ℕ) → is_live (us ++ t ∷ []) id ≡ is_live us id || (t.id == id)
one_more us t id = live_append us (t ∷ []) id ∙ ap (λ b. is_live us id || b) (end (t.id == id))
  where
    end : (b : Bool) → (b || false) ≡ b
    end true = refl
    end false = refl

both_false : (a b : Bool) → a ≡ false → b ≡ false → (a || b) ≡ false
both_false a b e f = rw (e, f) refl

either_true : (a b : Bool) → (a ≡ true) ⊎ (b ≡ true) → (a || b) ≡ true
either_true true b h = refl
either_true false b (inl e) = absurd (cc)
either_true false b (inr e) = e

all_started : (n : ℕ) (us : List Live) (t : Live) → t.id ≡ suc n → AreAll n us → AreAll (suc n) (us ++ t ∷ [])
all_started n us t e h = record {
  nought = one_more us t 0 ∙ both_false (is_live us 0) (t.id == 0) h.nought (is_other t.id 0 (λ f. omega (arith, e, f)));
  inside = λ id above low. one_more us t id ∙ either_true (is_live us id) (t.id == id) (by id above low (order id (suc n)));
  outside = λ id high. one_more us t id ∙ both_false (is_live us id) (t.id == id) (h.outside id (omega (arith, high))) (is_other t.id id (λ f. omega (arith, e, f, high)));
}
  where
    by : (id : ℕ) → 0 < id → id ≤ suc n → (id < suc n) ⊎ ((suc n < id) ⊎ (id ≡ suc n)) → (is_live us id ≡ true) ⊎ ((t.id == id) ≡ true)
    by id above low (inl x) = inl (h.inside id above (omega (arith, x)))
    by id above low (inr (inl x)) = absurd (omega (arith, low, x))
    by id above low (inr (inr x)) = inr (is_same t.id id (e ∙ sym x))

pub all_filled : (n k : ℕ) (call : ObjId) (us : List Live) → AreAll k us → AreAll (k + n) (filled n call us)
all_filled zero k call us h = subst (λ i. AreAll i us) (omega arith) h
all_filled (suc n) k call us h =
    let t : Live = record { id = least_free us; due = 0 + 0; period = None; call = call } in
    subst (λ i. AreAll i (filled n call (started us 0 0 None call))) (omega arith)
    (all_filled n (suc k) call (started us 0 0 None call) (all_started k us t (next_is k us h) h))

pub none_yet : AreAll 0 []
none_yet = record { nought = refl; inside = λ id above low. absurd (omega (arith, above, low)); outside = λ id high. refl }

plain : (n : ℕ) → 0 + n ≡ n
plain n = omega arith

-- ---- each timer again

abbrev dropped : List Live → List Live → List Live
dropped [] us = us
dropped (t ∷ ts) us = dropped ts (cleared us t.id)

-- each id is one of the first n
abbrev AreWithin : ℕ → List Live → Type 0
AreWithin n [] = Unit {0}
AreWithin n (t ∷ ts) = (0 < t.id) × (t.id ≤ n) × AreWithin n ts

pub all_again : (n : ℕ) (us : List Live) (t u : Live) → u.id ≡ t.id → 0 < t.id → t.id ≤ n → AreAll n us → AreAll n (cleared us t.id ++ u ∷ [])
all_again n us t u e above low h = record {
  nought = one_more (cleared us t.id) u 0 ∙ both_false (is_live (cleared us t.id) 0) (u.id == 0) (cleared_stays_free us t.id 0 h.nought) (is_other u.id 0 (λ f. omega (arith, e, f, above)));
  inside = λ id pos small. one_more (cleared us t.id) u id ∙ either_true (is_live (cleared us t.id) id) (u.id == id) (by id (h.inside id pos small) (t.id == id) refl);
  outside = λ id high. one_more (cleared us t.id) u id ∙ both_false (is_live (cleared us t.id) id) (u.id == id) (cleared_stays_free us t.id id (h.outside id high)) (is_other u.id id (λ f. omega (arith, e, f, low, high)));
}
  where
    by : (id : ℕ) → is_live us id ≡ true → (b : Bool) → (t.id == id) ≡ b → (is_live (cleared us t.id) id ≡ true) ⊎ ((u.id == id) ≡ true)
    by id live true f = inr (is_same u.id id (e ∙ same_id t.id id f))
    by id live false f = inl (live_cleared us t.id id f live)

pub again_is : (n : ℕ) (us : List Live) (t : Live) → 0 < t.id → t.id ≤ n → AreAll n us → least_free (cleared us t.id) ≡ t.id
again_is n us t above low h =
    least_is (cleared us t.id) t.id above (cleared_frees us t.id)
    (λ k pos small. live_cleared us t.id k (is_other t.id k (λ f. omega (arith, f, small))) (h.inside k pos (omega (arith, small, low))))

cleared_append : (us vs : List Live) (id : ℕ) → cleared (us ++ vs) id ≡ cleared us id ++ cleared vs id
cleared_append [] vs id = refl
cleared_append (u ∷ us) vs id = by (u.id == id) (cleared_append us vs id)
  where
    by : (b : Bool) → cleared (us ++ vs) id ≡ cleared us id ++ cleared vs id
        → (if not b then u ∷ cleared (us ++ vs) id else cleared (us ++ vs) id) ≡ (if not b then u ∷ cleared us id else cleared us id) ++ cleared vs id
    by true later = later
    by false later = ap (λ l. u ∷ l) later

stays_alone : (t : Live) (id : ℕ) → (t.id == id) ≡ false → cleared (t ∷ []) id ≡ t ∷ []
stays_alone t id e = rw e refl

dropped_alone : (ts us : List Live) (t : Live) → is_live ts t.id ≡ false → dropped ts (us ++ t ∷ []) ≡ dropped ts us ++ t ∷ []
dropped_alone [] us t free = refl
dropped_alone (u ∷ ts) us t free =
    let parts = or_parts (u.id == t.id) (is_live ts t.id) free in
    ap (dropped ts) (cleared_append us (t ∷ []) u.id ∙ ap (λ l. cleared us u.id ++ l) (stays_alone t u.id (swapped u.id t.id parts.0)))
    ∙ dropped_alone ts (cleared us u.id) t parts.1

module _ (clock : ℕ) (moved : ObjId → ObjId) where
  restarts : (n : ℕ) (ts us : List Live) → AreAll n us → HasDistinctIds ts → AreWithin n ts → restarted clock moved ts us ≡ dropped ts us ++ moved_timers clock moved ts
  restarts n [] us all distinct within = nil us
    where
      nil : (l : List Live) → l ≡ l ++ []
      nil [] = refl
      nil (x ∷ l) = ap (λ m. x ∷ m) (nil l)
  restarts n (t ∷ ts) us all distinct within =
      let left : List Live = cleared us t.id in
      let u : Live = moved_timer clock moved t in
      let new : started left 0 (t.due - clock) t.period (moved t.call) ≡ left ++ u ∷ [] =
      ap (λ id. left ++ record { id = id; due = 0 + (t.due - clock); period = t.period; call = moved t.call } ∷ []) (again_is n us t within.0 within.1 all)
      ∙ ap (λ d. left ++ record { id = t.id; due = d; period = t.period; call = moved t.call } ∷ []) (plain (t.due - clock))
      in
      ap (restarted clock moved ts) new
      ∙ restarts n ts (left ++ u ∷ []) (all_again n us t u refl within.0 within.1 all) distinct.1 within.2
      ∙ ap (λ l. l ++ moved_timers clock moved ts) (dropped_alone ts left u distinct.0)
      ∙ append_assoc (dropped ts left) (u ∷ []) (moved_timers clock moved ts)

  live_moved : (ts : List Live) (id : ℕ) → is_live (moved_timers clock moved ts) id ≡ is_live ts id
  live_moved [] id = refl
  live_moved (t ∷ ts) id = ap (λ b. (t.id == id) || b) (live_moved ts id)

-- ---- the other fillers

cleared_none : (us : List Live) (id : ℕ) → is_live us id ≡ false → cleared us id ≡ us
cleared_none [] id free = refl
cleared_none (u ∷ us) id free = let parts = or_parts (u.id == id) (is_live us id) free in rw (parts.0, cleared_none us id parts.1) refl

unfilled_end : (n id : ℕ) (ts us vs : List Live) → ((k : ℕ) → is_live vs k ≡ is_live ts k) → unfilled n id ts (us ++ vs) ≡ unfilled n id ts us ++ vs
unfilled_end zero id ts us vs same = refl
unfilled_end (suc n) id ts us vs same = by (is_live ts id) refl (λ l. unfilled_end n (id + 1) ts l vs same)
  where
    by : (b : Bool) → is_live ts id ≡ b → ((l : List Live) → unfilled n (id + 1) ts (l ++ vs) ≡ unfilled n (id + 1) ts l ++ vs) → unfilled n (id + 1) ts (if b then us ++ vs else cleared (us ++ vs) id) ≡ unfilled n (id + 1) ts (if b then us else cleared us id) ++ vs
    by true e later = later us
    by false e later =
        ap (unfilled n (id + 1) ts) (cleared_append us vs id ∙ ap (λ l. cleared us id ++ l) (cleared_none vs id (same id ∙ e)))
        ∙ later (cleared us id)

unfilled_free : (n id : ℕ) (ts us : List Live) (k : ℕ) → is_live us k ≡ false → is_live (unfilled n id ts us) k ≡ false
unfilled_free zero id ts us k free = free
unfilled_free (suc n) id ts us k free = by (is_live ts id) (λ l e. unfilled_free n (id + 1) ts l k e)
  where
    by : (b : Bool) → ((l : List Live) → is_live l k ≡ false → is_live (unfilled n (id + 1) ts l) k ≡ false) → is_live (unfilled n (id + 1) ts (if b then us else cleared us id)) k ≡ false
    by true later = later us free
    by false later = later (cleared us id) (cleared_stays_free us id k free)

unfilled_frees : (n id : ℕ) (ts us : List Live) (k : ℕ) → id ≤ k → k < id + n → is_live ts k ≡ false → is_live (unfilled n id ts us) k ≡ false
unfilled_frees zero id ts us k low high free = absurd (omega (arith, low, high))
unfilled_frees (suc n) id ts us k low high free = by (id == k) refl (λ l i j. unfilled_frees n (id + 1) ts l k i j free)
  where
    here : (b : Bool) → is_live ts id ≡ b → id ≡ k → is_live (unfilled n (id + 1) ts (if b then us else cleared us id)) k ≡ false
    here true e f = let g : is_live ts k ≡ true = subst (λ i. is_live ts i ≡ true) f e in absurd (cc)
    here false e f = unfilled_free n (id + 1) ts (cleared us id) k (subst (λ i. is_live (cleared us id) i ≡ false) f (cleared_frees us id))

    by : (b : Bool) → (id == k) ≡ b → ((l : List Live) → id + 1 ≤ k → k < id + 1 + n → is_live (unfilled n (id + 1) ts l) k ≡ false) → is_live (unfilled (suc n) id ts us) k ≡ false
    by true e later = here (is_live ts id) refl (same_id id k e)
    by false e later = let apart = other_id id k e in later (if is_live ts id then us else cleared us id) (omega (arith, low, apart)) (omega (arith, high))

dropped_free : (ts us : List Live) (k : ℕ) → is_live us k ≡ false → is_live (dropped ts us) k ≡ false
dropped_free [] us k free = free
dropped_free (t ∷ ts) us k free = dropped_free ts (cleared us t.id) k (cleared_stays_free us t.id k free)

dropped_frees : (ts us : List Live) (k : ℕ) → is_live ts k ≡ true → is_live (dropped ts us) k ≡ false
dropped_frees [] us k live = absurd (cc)
dropped_frees (t ∷ ts) us k live = by (t.id == k) refl live (dropped_frees ts (cleared us t.id) k)
  where
    by : (b : Bool) → (t.id == k) ≡ b → (b || is_live ts k) ≡ true → (is_live ts k ≡ true → is_live (dropped ts (cleared us t.id)) k ≡ false) → is_live (dropped ts (cleared us t.id)) k ≡ false
    by true e h later = dropped_free ts (cleared us t.id) k (subst (λ i. is_live (cleared us t.id) i ≡ false) (same_id t.id k e) (cleared_frees us t.id))
    by false e h later = later h

within : (limit clock n : ℕ) (ts : List Live) → AreTimely limit clock ts → greatest ts ≤ n → AreWithin n ts
within limit clock n [] timely small = tt
within limit clock n (t ∷ ts) timely small = ((timely t (inl refl)).id, omega (arith, small), within limit clock n ts (λ u i. timely u (inr i)) (omega (arith, small)))

pub timers_are_rebuilt : TimersAreRebuilt
timers_are_rebuilt limit clock moved filler ts distinct timely =
    let n : ℕ = greatest ts in
    let begun : AreAll n (filled n filler []) = subst (λ i. AreAll i (filled n filler [])) (plain n) (all_filled n 0 filler [] none_yet) in
    let rest : List Live = dropped ts (filled n filler []) in
    let free : (k : ℕ) → is_live (unfilled n 1 ts rest) k ≡ false =
    λ k. by k n rest begun (order k (suc n)) (is_live ts k) refl
    in
    ap (unfilled n 1 ts) (restarts clock moved n ts (filled n filler []) begun distinct (within limit clock n ts timely (omega arith)))
    ∙ unfilled_end n 1 ts rest (moved_timers clock moved ts) (live_moved clock moved ts)
    ∙ ap (λ l. l ++ moved_timers clock moved ts) (none_there (unfilled n 1 ts rest) free)
  where
    old : (k n : ℕ) → AreAll n (filled n filler []) → is_live (filled n filler []) k ≡ false → is_live (unfilled n 1 ts (dropped ts (filled n filler []))) k ≡ false
    old k n begun e = unfilled_free n 1 ts (dropped ts (filled n filler [])) k (dropped_free ts (filled n filler []) k e)

    by : (k n : ℕ) (rest : List Live) → AreAll n (filled n filler []) → (k < suc n) ⊎ ((suc n < k) ⊎ (k ≡ suc n)) → (b : Bool) → is_live ts k ≡ b
        → is_live (unfilled n 1 ts (dropped ts (filled n filler []))) k ≡ false
    by k n rest begun o true e = unfilled_free n 1 ts (dropped ts (filled n filler [])) k (dropped_frees ts (filled n filler []) k e)
    by zero n rest begun (inl low) false e = old zero n begun begun.nought
    by (suc k) n rest begun (inl low) false e = unfilled_frees n 1 ts (dropped ts (filled n filler [])) (suc k) (omega arith) (omega (arith, low)) e
    by k n rest begun (inr (inl high)) false e = old k n begun (begun.outside k (omega (arith, high)))
    by k n rest begun (inr (inr f)) false e = old k n begun (begun.outside k (omega (arith, f)))

pub rebuilt_timers_agree : RebuiltTimersAgree
rebuilt_timers_agree W limit clock moved [] linked timely = no_more
rebuilt_timers_agree W limit clock moved (t ∷ ts) linked timely =
    let low = (timely t (inl refl)).ahead in
    each (record { id = refl; due = record { apart = omega (arith, low) }; period = refl; call = linked t (inl refl) })
    (rebuilt_timers_agree W limit clock moved ts (λ u i. linked u (inr i)) (λ u i. timely u (inr i)))
