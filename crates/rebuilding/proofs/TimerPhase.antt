-- The phase of timers: fillers are started, each timer in starting order gets its id, and the other fillers are cleared.
use Rattle.std.proofs.Common.{◌≡◌, refl, sym, ap, ap₂, subst, ◌∙◌, inl, inr, ℕ, zero, suc, ◌+◌, ◌-◌, ◌<◌, ◌≤◌, ◌==◌, ◌&&◌, ◌||◌, not, Bool, true, false, if◌then◌else◌, max, nat_le, nat_lt, List, [], ◌∷◌, ◌++◌, length, length-append, append_assoc, Option, Some, None, arith}
use Rattle.std.proofs.lemmas.Bool.Decides.{nat_tests}
use Rattle.heap_walker.specs.Weight as weight
use Rattle.host_relations.proofs.Callers.{AreAll, again_is, all_again, all_filled, none_yet, timers_are_rebuilt}
use Rattle.host_relations.specs.Restart.{filled, greatest, larger, moved_timers, restarted, unfilled}
use Rattle.js_values.specs.declared.built_in.BuiltIn.TheVariants.{Object as ObjectConstructor}
use Rattle.js_values.specs.declared.ids.ObjId.{ObjId}
use Rattle.object_heap.specs.Chain.{object_at}
use Rattle.object_heap.specs.Heap.{Contents}
use Rattle.page_host.specs.Host.{Host, with_timers}
use Rattle.page_host.specs.Steps.{after_host, clears, is_period, starts, time_limit}
use Rattle.page_meaning.specs.Classes.{is_callable_class}
use Rattle.page_meaning.specs.Places.{function_at}
use Rattle.rebuild_plan.specs.Plan as plan
use Rattle.rebuild_plan.specs.declared.statement.Rebuild.{Rebuild}
use Rattle.rebuild_plan.specs.declared.statement.Rebuild.TheVariants.{Clear, Filler, Timeout, Interval}
use Rattle.rebuilding.specs.Rebuilt.{Succeeds, sited_timers}
use Rattle.rebuilding.specs.Running.{Stand}
use Rattle.rebuilding.specs.Scene.{IsHosting, Scene}
use Rattle.rebuilding.specs.Sites.{site, sited}
use Rattle.rebuilding.proofs.HostPhase.{hosted_next}
use Rattle.timer_queue.specs.Laws.{HasDistinctIds}
use Rattle.timer_queue.specs.Timely.{AreTimely, IsPeriod, IsTimely}
use Rattle.timer_queue.specs.Timers.{IsIn, cleared, is_live, least_free, started, timer_limit}
use Rattle.timer_queue.specs.declared.timer.Live.{Live}

-- ---- numbers

below : (a b : ℕ) → a < b → nat_lt a b ≡ true
below a b h = grind (arith, nat_tests)

within : (a b : ℕ) → a ≤ b → nat_le a b ≡ true
within a b h = grind (arith, nat_tests)

not_full : (a b : ℕ) → a < b → nat_le b a ≡ false
not_full a b h = grind (arith, nat_tests)

whole : (n : ℕ) → n - 0 ≡ n
whole n = omega arith

larger_max : (a b : ℕ) → max a b ≡ larger a b
larger_max a b = omega arith

pub same_greatest : (ts : List Live) → weight.greatest ts ≡ greatest ts
same_greatest [] = refl
same_greatest (t ∷ ts) = ap (max t.id) (same_greatest ts) ∙ larger_max t.id (greatest ts)

-- ---- lists of timers

cleared_few : (us : List Live) (id : ℕ) → length (cleared us id) ≤ length us
cleared_few [] id = omega arith
cleared_few (u ∷ us) id = by (u.id == id) (cleared_few us id)
  where
    by : (b : Bool) → length (cleared us id) ≤ length us → length (if not b then u ∷ cleared us id else cleared us id) ≤ suc (length us)
    by true h = omega (arith, h)
    by false h = omega (arith, h)

cleared_fewer : (us : List Live) (id : ℕ) → is_live us id ≡ true → length (cleared us id) < length us
cleared_fewer [] id live = absurd (cc)
cleared_fewer (u ∷ us) id live = by (u.id == id) live (cleared_few us id) (cleared_fewer us id)
  where
    by : (b : Bool) → (b || is_live us id) ≡ true → length (cleared us id) ≤ length us → (is_live us id ≡ true → length (cleared us id) < length us)
        → length (if not b then u ∷ cleared us id else cleared us id) < suc (length us)
    by true h few fewer = omega (arith, few)
    by false h few fewer = omega (arith, fewer h)

one_more : (us : List Live) (t : Live) → length (us ++ t ∷ []) ≡ suc (length us)
one_more us t = omega (arith, length-append us (t ∷ []))

moved_sited : (sites : List ℕ) (ts : List Live) → moved_timers 0 (sited sites) ts ≡ sited_timers sites ts
moved_sited sites [] = refl
moved_sited sites (t ∷ ts) =
    ap₂ (λ (n : ℕ) (us : List Live). record { id = t.id; due = n; period = t.period; call = sited sites t.call } ∷ us) (whole t.due) (moved_sited sites ts)

same_timers : (g : Host) (us : List Live) → g.timers ≡ us → with_timers g us ≡ g
same_timers g us e = ap (with_timers g) (sym e)

-- ---- steps of the host

after_start : (g : Host) (us : List Live) (delay : ℕ) (p : Option ℕ) (f : ObjId) → g.clock ≡ 0 → length us < timer_limit → delay ≤ time_limit → is_period p ≡ true
    → after_host (with_timers g us) (starts delay p f) ≡ with_timers g (started us 0 delay p f)
after_start g us delay p f clock room rest period =
    ap (λ (b : Bool). if b then with_timers g (started us g.clock delay p f) else with_timers g us) fit
    ∙ ap (λ (n : ℕ). with_timers g (started us n delay p f)) clock
  where
    fit : (nat_lt (length us) timer_limit && nat_le delay time_limit && is_period p) ≡ true
    fit = rw (below (length us) timer_limit room, within delay time_limit rest, period) refl

-- ---- the statements

-- each has a function that stands
pub record IsTimer (h : Contents) (sites : List ℕ) (t : Live) : Type 0 where
  pub stands : Stand sites (t.call.0 ∷ [])
  pub callable : is_callable_class (object_at h.objects (site sites t.call.0)).class ≡ true

period_is : (p : Option ℕ) → IsPeriod time_limit p → is_period p ≡ true
period_is None h = refl
period_is (Some n) h = rw (within 1 n h.0, within n time_limit h.1) refl

abbrev filler : ObjId
filler = function_at ObjectConstructor

module _ (c : Scene) (End : Contents → Host → List ℕ → Type 0) (h : Contents) (sites : List ℕ) (g : Host) (clock : g.clock ≡ 0) (rs : List Rebuild) where
  abbrev Goes : List Live → List Rebuild → Type 0
  Goes us qs = IsHosting h (with_timers g us) → Succeeds c End h (with_timers g us) sites qs

  fillers_go : is_callable_class (object_at h.objects filler.0).class ≡ true → (n : ℕ) (us : List Live) → length us + n ≤ timer_limit
      → Goes (filled n filler us) rs → Goes us (plan.fillers n ++ rs)
  fillers_go callable zero us few later is = later is
  fillers_go callable (suc n) us few later is =
      hosted_next c End h sites (with_timers g us) (with_timers g (started us 0 0 None filler)) Filler (plan.fillers n ++ rs) (starts 0 None filler)
      (record { callable = callable; room = not_full (length us) timer_limit (omega (arith, few)); rest_fits = omega arith; period_fits = refl })
      (λ i j after ran. ran)
      (after_start g us 0 None filler clock (omega (arith, few)) (omega arith) refl)
      (fillers_go callable n (started us 0 0 None filler) (omega (arith, few, one_more us (record { id = least_free us; due = 0 + 0; period = None; call = filler }))) later)

  one_starts : (t : Live) (us : List Live) (qs : List Rebuild) (p : Option ℕ) → t.period ≡ p → IsTimer h sites t → length us < timer_limit → t.due ≤ time_limit
      → is_period p ≡ true → Goes (started us 0 t.due p (sited sites t.call)) qs → Goes us (plan.start t p ∷ qs)
  one_starts t us qs None e is room rest period later hosting =
      hosted_next c End h sites (with_timers g us) (with_timers g (started us 0 t.due None (sited sites t.call))) (Timeout t.call t.due) qs (starts t.due None (sited sites t.call))
      (is.stands, record { callable = is.callable; room = not_full (length us) timer_limit room; rest_fits = rest; period_fits = period })
      (λ i j after ran. ran)
      (after_start g us t.due None (sited sites t.call) clock room rest period)
      later
  one_starts t us qs (Some n) e is room rest period later hosting =
      hosted_next c End h sites (with_timers g us) (with_timers g (started us 0 t.due (Some n) (sited sites t.call))) (Interval t.call t.due n) qs
      (starts t.due (Some n) (sited sites t.call))
      (is.stands, record { callable = is.callable; room = not_full (length us) timer_limit room; rest_fits = rest; period_fits = period })
      (λ i j after ran. ran)
      (after_start g us t.due (Some n) (sited sites t.call) clock room rest period)
      later

  starts_go : (n : ℕ) (ts us : List Live) → n ≤ timer_limit → AreAll n us → length us ≤ n → AreTimely time_limit 0 ts → ((t : Live) → IsIn ts t → t.id ≤ n)
      → ((t : Live) → IsIn ts t → IsTimer h sites t) → Goes (restarted 0 (sited sites) ts us) rs → Goes us (plan.starts ts ++ rs)
  starts_go n [] us few all long timely low are later is = later is
  starts_go n (t ∷ ts) us few all long timely low are later is =
      hosted_next c End h sites (with_timers g us) (with_timers g left) (Clear t.id) (plan.start t t.period ∷ (plan.starts ts ++ rs)) (clears t.id)
      tt (λ i j after ran. ran) refl
      (one_starts t left (plan.starts ts ++ rs) t.period refl (are t (inl refl)) room rest (period_is t.period time.period)
      (starts_go n ts next few
      (all_again n us t started_now (again_is n us t time.id small all) time.id small all)
      long_next
      (λ u i. timely u (inr i)) (λ u i. low u (inr i)) (λ u i. are u (inr i))
      (subst (λ d. Goes (restarted 0 (sited sites) ts (started left 0 d t.period (sited sites t.call))) rs) (whole t.due) later)))
    where
      left : List Live
      left = cleared us t.id

      started_now : Live
      started_now = record { id = least_free left; due = 0 + t.due; period = t.period; call = sited sites t.call }

      next : List Live
      next = started left 0 t.due t.period (sited sites t.call)

      time : IsTimely time_limit 0 t
      time = timely t (inl refl)

      small : t.id ≤ n
      small = low t (inl refl)

      room : length left < timer_limit
      room = omega (arith, few, long, cleared_fewer us t.id (all.inside t.id time.id small))

      rest : t.due ≤ time_limit
      rest = omega (arith, time.near)

      long_next : length next ≤ n
      long_next = omega (arith, long, cleared_fewer us t.id (all.inside t.id time.id small), one_more left started_now)

  clears_go : (n id : ℕ) (ts us : List Live) → Goes (unfilled n id ts us) rs → Goes us (plan.clears n id ts ++ rs)
  clears_go zero id ts us later is = later is
  clears_go (suc n) id ts us later is = by (is_live ts id) refl later (λ vs go. clears_go n (id + 1) ts vs go) is
    where
      by : (b : Bool) → is_live ts id ≡ b → Goes (unfilled n (id + 1) ts (if b then us else cleared us id)) rs
          → ((vs : List Live) → Goes (unfilled n (id + 1) ts vs) rs → Goes vs (plan.clears n (id + 1) ts ++ rs))
          → Goes us (((if b then [] else Clear id ∷ []) ++ plan.clears n (id + 1) ts) ++ rs)
      by true e go on now = on us go now
      by false e go on now =
          hosted_next c End h sites (with_timers g us) (with_timers g (cleared us id)) (Clear id) (plan.clears n (id + 1) ts ++ rs) (clears id)
          tt (λ i j after ran. ran) refl (on (cleared us id) go)

-- ---- the whole phase

ids_small : (ts : List Live) (t : Live) → IsIn ts t → t.id ≤ greatest ts
ids_small [] t inside = absurd inside
ids_small (u ∷ ts) t (inl here) = omega (arith, ap (λ (v : Live). v.id) here)
ids_small (u ∷ ts) t (inr there) = omega (arith, ids_small ts t there)

greatest_few : (ts : List Live) → AreTimely time_limit 0 ts → greatest ts ≤ timer_limit
greatest_few [] timely = omega arith
greatest_few (t ∷ ts) timely = omega (arith, (timely t (inl refl)).few, greatest_few ts (λ u i. timely u (inr i)))

-- the timers run again, each with its rest as due time, where none ran before
pub timers_succeed : (c : Scene) (End : Contents → Host → List ℕ → Type 0) (h : Contents) (sites : List ℕ) (g : Host) (ts : List Live) (rs : List Rebuild)
    → IsHosting h g → g.timers ≡ [] → is_callable_class (object_at h.objects filler.0).class ≡ true
    → HasDistinctIds ts → AreTimely time_limit 0 ts → ((t : Live) → IsIn ts t → IsTimer h sites t)
    → (IsHosting h (with_timers g (sited_timers sites ts)) → Succeeds c End h (with_timers g (sited_timers sites ts)) sites rs)
    → Succeeds c End h g sites (plan.timers ts ++ rs)
timers_succeed c End h sites g ts rs hosting none callable distinct timely are later =
    subst (λ qs. Succeeds c End h g sites qs) (sym listed)
    (subst (λ v. Succeeds c End h v sites (plan.fillers n ++ (plan.starts ts ++ (plan.clears n 1 ts ++ rs)))) (same_timers g [] none)
    (fillers_go c End h sites g hosting.clock (plan.starts ts ++ (plan.clears n 1 ts ++ rs)) callable n [] (omega (arith, few))
    (starts_go c End h sites g hosting.clock (plan.clears n 1 ts ++ rs) n ts (filled n filler []) few begun long timely
    (λ t i. subst (λ m. t.id ≤ m) (sym (same_greatest ts)) (ids_small ts t i)) are
    (clears_go c End h sites g hosting.clock rs n 1 ts (restarted 0 (sited sites) ts (filled n filler []))
    (subst (λ us. IsHosting h (with_timers g us) → Succeeds c End h (with_timers g us) sites rs) (sym ended) later)))
    (subst (λ v. IsHosting h v) (sym (same_timers g [] none)) hosting)))
  where
    n : ℕ
    n = weight.greatest ts

    few : n ≤ timer_limit
    few = omega (arith, same_greatest ts, greatest_few ts timely)

    plain : (m : ℕ) → 0 + m ≡ m
    plain m = omega arith

    begun : AreAll n (filled n filler [])
    begun = subst (λ m. AreAll m (filled n filler [])) (plain n) (all_filled n 0 filler [] none_yet)

    filled_long : (m : ℕ) (us : List Live) → length (filled m filler us) ≡ length us + m
    filled_long zero us = omega arith
    filled_long (suc m) us =
        omega (arith, filled_long m (started us 0 0 None filler), one_more us (record { id = least_free us; due = 0 + 0; period = None; call = filler }))

    long : length (filled n filler []) ≤ n
    long = omega (arith, filled_long n [])

    listed : plan.timers ts ++ rs ≡ plan.fillers n ++ (plan.starts ts ++ (plan.clears n 1 ts ++ rs))
    listed =
        append_assoc (plan.fillers n) (plan.starts ts ++ plan.clears n 1 ts) rs
        ∙ ap (λ qs. plan.fillers n ++ qs) (append_assoc (plan.starts ts) (plan.clears n 1 ts) rs)

    ended : unfilled n 1 ts (restarted 0 (sited sites) ts (filled n filler [])) ≡ sited_timers sites ts
    ended =
        ap (λ m. unfilled m 1 ts (restarted 0 (sited sites) ts (filled m filler []))) (same_greatest ts)
        ∙ timers_are_rebuilt time_limit 0 (sited sites) filler ts distinct timely ∙ moved_sited sites ts
