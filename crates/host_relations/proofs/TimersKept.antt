-- Whatever is done to the timers of both pages keeps them related.
use Rattle.std.proofs.Common.{◌≡◌, refl, ap, ◌∙◌, ℕ, zero, suc, ◌+◌, ◌==◌, not, Bool, true, false, nat_le, if◌then◌else◌, List, [], ◌∷◌, ◌++◌, length, filter, Option, Some, None, arith}
use Rattle.std.proofs.lemmas.Bool.Decides.{nat_tests}
use Rattle.js_values.specs.declared.ids.ObjId.{ObjId}
use Rattle.timer_queue.specs.Timers.{after_taking, again, before_later, cleared, due_timers, first, free_from, has_id, in_order, is_due, is_live, least_free, started}
use Rattle.timer_queue.specs.declared.timer.Live.{Live}
use Rattle.heap_relations.specs.Naming.{Named}
use Rattle.heap_relations.specs.Related.{Maybe, each, no_more, none, some}
use Rattle.host_relations.specs.Timers.{Clocks, MomentRel, TimerRel, TimersRel}
use Rattle.host_relations.specs.TimerLaws.{TimersKeepAgreement}

-- moments that are related compare alike
pub same_order : (c : Clocks) (a b m n : ℕ) → MomentRel c a b → MomentRel c m n → nat_le a m ≡ nat_le b n
same_order c a b m n h k = let e = h.apart in let f = k.apart in grind (arith, nat_tests)

module _ (R : ℕ → ℕ → Type 0) (c : Clocks) where
  abbrev Rel : Live → Live → Type 0
  Rel t u = TimerRel R c t u

  pub lengths : (ts us : List Live) → TimersRel R c ts us → length ts ≡ length us
  lengths _ _ no_more = refl
  lengths _ _ (each {a = t} {b = u} {xs = ts} {ys = us} h hs) = ap suc (lengths ts us hs)

  pub appended : (ts us vs ws : List Live) → TimersRel R c ts us → TimersRel R c vs ws → TimersRel R c (ts ++ vs) (us ++ ws)
  appended _ _ vs ws no_more k = k
  appended _ _ vs ws (each {a = t} {b = u} {xs = ts} {ys = us} h hs) k = each h (appended ts us vs ws hs k)

  pub same_live : (ts us : List Live) (id : ℕ) → TimersRel R c ts us → is_live ts id ≡ is_live us id
  same_live _ _ id no_more = refl
  same_live _ _ id (each {a = t} {b = u} {xs = ts} {ys = us} h hs) = rw (h.id, same_live ts us id hs) refl

  same_free : (n id : ℕ) (ts us : List Live) → TimersRel R c ts us → free_from n id ts ≡ free_from n id us
  same_free zero id ts us h = refl
  same_free (suc n) id ts us h = rw (same_live ts us id h, same_free n (id + 1) ts us h) refl

  pub same_least : (ts us : List Live) → TimersRel R c ts us → least_free ts ≡ least_free us
  same_least ts us h = same_free (length ts) 1 ts us h ∙ ap (λ n. free_from n 1 us) (lengths ts us h)

  -- those that pass tests that agree
  pub filtered : (p q : Live → Bool) (ts us : List Live) → ((t u : Live) → Rel t u → p t ≡ q u) → TimersRel R c ts us → TimersRel R c (filter p ts) (filter q us)
  filtered p q _ _ same no_more = no_more
  filtered p q _ _ same (each {a = t} {b = u} {xs = ts} {ys = us} h hs) = by_case (p t) (q u) (same t u h) (filtered p q ts us same hs)
    where
      by_case : (b d : Bool) → b ≡ d → TimersRel R c (filter p ts) (filter q us)
          → TimersRel R c (if b then t ∷ filter p ts else filter p ts) (if d then u ∷ filter q us else filter q us)
      by_case true true e later = each h later
      by_case false false e later = later
      by_case true false e later = absurd (cc)
      by_case false true e later = absurd (cc)

  pub clears : (ts us : List Live) (id : ℕ) → TimersRel R c ts us → TimersRel R c (cleared ts id) (cleared us id)
  clears ts us id h = filtered (λ t. not (has_id id t)) (λ t. not (has_id id t)) ts us (λ t u k. ap (λ x. not (x == id)) k.id) h

  placed : (t u : Live) (ts us : List Live) → Rel t u → TimersRel R c ts us → TimersRel R c (before_later t ts) (before_later u us)
  placed t u _ _ h no_more = each h no_more
  placed t u _ _ h (each {a = v} {b = w} {xs = ts} {ys = us} k ks) = by_case (nat_le t.due v.due) (nat_le u.due w.due) (same_order c t.due u.due v.due w.due h.due k.due) (placed t u ts us h ks)
    where
      by_case : (b d : Bool) → b ≡ d → TimersRel R c (before_later t ts) (before_later u us)
          → TimersRel R c (if b then t ∷ v ∷ ts else v ∷ before_later t ts) (if d then u ∷ w ∷ us else w ∷ before_later u us)
      by_case true true e later = each h (each k ks)
      by_case false false e later = each k later
      by_case true false e later = absurd (cc)
      by_case false true e later = absurd (cc)

  ordered : (ts us : List Live) → TimersRel R c ts us → TimersRel R c (in_order ts) (in_order us)
  ordered _ _ no_more = no_more
  ordered _ _ (each {a = t} {b = u} {xs = ts} {ys = us} h hs) = placed t u (in_order ts) (in_order us) h (ordered ts us hs)

  pub firsts : (ts us : List Live) → TimersRel R c ts us → Maybe Rel (first ts) (first us)
  firsts _ _ no_more = none
  firsts _ _ (each {a = t} {b = u} {xs = ts} {ys = us} h hs) = some h

  pub due : (ts us : List Live) (m n : ℕ) → MomentRel c m n → TimersRel R c ts us → TimersRel R c (due_timers ts m) (due_timers us n)
  due ts us m n k h =
      ordered (filter (is_due m) ts) (filter (is_due n) us)
      (filtered (is_due m) (is_due n) ts us (λ t u r. same_order c t.due u.due m n r.due k) h)

  later_moment : (a b d : ℕ) → MomentRel c a b → MomentRel c (a + d) (b + d)
  later_moment a b d h = record { apart = let e = h.apart in omega (arith, e) }

  agains : (t u : Live) (o p : Option ℕ) → Rel t u → o ≡ p → TimersRel R c (again t o) (again u p)
  agains t u None None h e = no_more
  agains t u (Some m) (Some n) h e =
      let same : m ≡ n = cc e in
      each (record {
        id = h.id;
        due = record { apart = let f = h.due.apart in omega (arith, f, same) };
        period = h.period;
        call = h.call;
      }) no_more
  agains t u None (Some n) h e = absurd (cc)
  agains t u (Some m) None h e = absurd (cc)

  pub takes : (ts us : List Live) (t u : Live) → TimersRel R c ts us → Rel t u → TimersRel R c (after_taking ts t) (after_taking us u)
  takes ts us t u h k =
      let left : TimersRel R c (cleared ts t.id) (cleared us u.id) =
      filtered (λ v. not (has_id t.id v)) (λ v. not (has_id u.id v)) ts us (λ v w r. rw (r.id, k.id) refl) h
      in
      appended (cleared ts t.id) (cleared us u.id) (again t t.period) (again u u.period) left (agains t u t.period u.period k k.period)

  pub starts : (ts us : List Live) (now late delay : ℕ) (period : Option ℕ) (k l : ObjId) → TimersRel R c ts us → MomentRel c now late → R k.0 l.0
      → TimersRel R c (started ts now delay period k) (started us late delay period l)
  starts ts us now late delay period k l h m r =
      appended ts us (record { id = least_free ts; due = now + delay; period = period; call = k } ∷ []) (record { id = least_free us; due = late + delay; period = period; call = l } ∷ []) h
      (each (record { id = same_least ts us h; due = later_moment now late delay m; period = refl; call = r }) no_more)

pub timers_keep_agreement : TimersKeepAgreement
timers_keep_agreement W c ts us h = let R : ℕ → ℕ → Type 0 = Named W in record {
  live = λ id. same_live R c ts us id h;
  free = same_least R c ts us h;
  starts = λ now late delay period k l m r. starts R c ts us now late delay period k l h m r;
  clears = λ id. clears R c ts us id h;
  all_due = λ m n k. due R c ts us m n k h;
  due = λ m n k. firsts R c (due_timers ts m) (due_timers us n) (due R c ts us m n k h);
  takes = λ t u k. takes R c ts us t u h k;
}
