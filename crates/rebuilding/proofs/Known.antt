-- What a page that is saved names: it begins with it, or it is among its things.
use Rattle.std.proofs.Common.{◌≡◌, ◌⊎◌, inl, inr, refl, subst, ℕ, ◌<◌, true, nat_eq, List, [], ◌∷◌, ◌++◌}
use Rattle.std.proofs.Math.Bool.{or-true}
use Rattle.std.proofs.lemmas.Bool.{eq-eqb}
use Rattle.heap_walker.proofs.Callers.{among_left, among_right}
use Rattle.heap_walker.specs.Things.{is_in, timers_links}
use Rattle.rebuild_plan.specs.Moved.{first_thing}
use Rattle.timer_queue.specs.Timers.{IsIn}
use Rattle.timer_queue.specs.declared.timer.Live.{Live}

-- ---- lists

pub head_in : (k : ℕ) (ks : List ℕ) → is_in k (k ∷ ks) ≡ true
head_in k ks = rw (eq-eqb k k refl) refl

pub tail_in : (j k : ℕ) (ks : List ℕ) → is_in j ks ≡ true → is_in j (k ∷ ks) ≡ true
tail_in j k ks h = rw h (or-true (nat_eq j k))

pub timer_in : (ts : List Live) (t : Live) → IsIn ts t → is_in t.call.0 (timers_links ts) ≡ true
timer_in [] t i = absurd i
timer_in (u ∷ ts) t (inl same) = subst (λ (v : Live). is_in v.call.0 (timers_links (u ∷ ts)) ≡ true) same (head_in u.call.0 (timers_links ts))
timer_in (u ∷ ts) t (inr i) = tail_in t.call.0 u.call.0 (timers_links ts) (timer_in ts t i)

-- ---- what is named

-- built in, the document or walked
abbrev pub IsKnown : List ℕ → ℕ → Type 0
IsKnown things k = (k < first_thing) ⊎ (is_in k things ≡ true)

-- so is each of these
abbrev pub AreKnown : List ℕ → List ℕ → Type 0
AreKnown things js = (j : ℕ) → is_in j js ≡ true → IsKnown things j

pub left_known : (things xs ys : List ℕ) → AreKnown things (xs ++ ys) → AreKnown things xs
left_known things xs ys h j i = h j (among_left j xs ys i)

pub right_known : (things xs ys : List ℕ) → AreKnown things (xs ++ ys) → AreKnown things ys
right_known things xs ys h j i = h j (among_right j xs ys i)
