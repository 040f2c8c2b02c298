-- A pair of new environments. The right may first run alone, and make a scope object and fill it: nothing of that is named
-- until it ends.
use Rattle.std.proofs.Common.{subst, ◌≡◌, ◌⊎◌, inl, inr, refl, sym, ap, ◌∙◌, ℕ, ◌<◌, ◌≤◌, true, false, nat_eq, List, [], ◌∷◌, ◌++◌, Option, Some, length, length-append, length-set, slice_set, arith}
use Rattle.std.proofs.lemmas.List.{get_or-set_other}
use Rattle.std.proofs.lemmas.Bool.{eq-eqb, ne_eqb}
use Rattle.std.specs.Option.{ForSome}
use Rattle.js_values.specs.declared.ids.EnvId.{EnvId}
use Rattle.object_heap.specs.Environment.{AreInside, Bound, Environment, environment_at, new_environment, no_environment}
use Rattle.object_heap.specs.Object.{Object, no_object}
use Rattle.object_heap.specs.Chain.{object_at}
use Rattle.object_heap.specs.Heap.{Contents, IsSound, opened, with_new_environment}
use Rattle.object_heap.proofs.Callers.{environment_last, inside_same, sound_opened}
use Rattle.heap_relations.specs.Laws.{EntriesAgree, free_slot, OpenedAgree}
use Rattle.heap_relations.specs.Related.{ObjectsRel}
use Rattle.heap_relations.proofs.Bases.{base_kept, outward_back, outward_inside}
use Rattle.heap_relations.specs.Naming.{Base, based, Outward, Agree, Frame, In, inside, there, Larger, named, outermost, Pair, Reaches, Round, Slot, SlotRel, SlotsRel, with_slot, World}
use Rattle.heap_relations.proofs.Map.{object_up}
use Rattle.heap_relations.proofs.Objects.{longer_objects, longer_scopes, reaches_more, reaches_same}
use Rattle.heap_relations.proofs.Worlds.{base_up, both_new, eq_sym, grows, in_cases, slot_up}

-- ---- longer lists

pub reaches_set : {A : Type 0} {d : A} {xs ys : List A} (k : ℕ) (y : A) → length xs ≤ k → Reaches d xs ys → Reaches d xs (slice_set ys k y)
reaches_set {d = d} {xs = xs} {ys = ys} k y past h = record {
  longer = omega (arith, length-set ys k y, h.longer);
  at = λ i n. get_or-set_other ys k i y d (λ e. omega (arith, past, n, e)) ∙ h.at i n;
}

pub longer_slots : {W : World} {es fs us vs : List Environment} {ps : List Object} → Reaches no_environment es us → Reaches no_environment fs vs → AreInside es → AreInside fs → SlotsRel W es fs ps → SlotsRel W us vs ps
longer_slots {es = es} {fs = fs} g k left right h = record {
  at = λ s i. let n = h.inside s i in rw (g.at s.one n.0, k.at s.two n.1) (h.at s i);
  inside = λ s i. let n = h.inside s i in (omega (arith, g.longer, n.0), omega (arith, k.longer, n.1));
  scope_inside = h.scope_inside;
  one_to_one = h.one_to_one;
  one_slot = h.one_slot;
  one_scope = h.one_scope;
  apart = h.apart;
  bases = λ b i.
      let z = h.bases b i in
      base_kept (λ j w. g.at j (outward_inside (length es) left w z.one_inside)) (λ j w. k.at j (outward_inside (length fs) right w z.two_inside)) g.longer k.longer z;
}

-- ---- one more slot

pub slot_more : {W : World} (s : Slot) → Larger W (with_slot W s)
slot_more s = record { opens = refl; objects = λ p h. h; nodes = λ p h. h; opened = refl; fits = refl; before = refl; slots = λ t h. there h; done = λ k h. h; bases = refl }

-- a slot whose environments and scope object are younger than all that is named
pub record IsNew (W : World) (s : Slot) (es fs : List Environment) (ps : List Object) : Type 0 where
  pub inside : (s.one < length es) × (s.two < length fs)
  pub younger : (t : Slot) → In t W.slots → (t.one < s.one) × (t.two < s.two)
  pub at : SlotRel (with_slot W s) s (environment_at es s.one) (environment_at fs s.two) (object_at ps s.place)
  pub scope_inside : s.frame.scoped ≡ true → s.place < length ps
  pub no_object : s.frame.scoped ≡ true → (p : Pair) → In p W.objects → p.two < s.place
  pub no_scope : s.frame.scoped ≡ true → (t : Slot) → In t W.slots → t.frame.scoped ≡ true → t.place < s.place
  pub no_base : (b : Base) → In b W.bases → (Outward es b.one s.one → ⊥) × (Outward fs b.two s.two → ⊥)

abbrev scoped_as : {t s : Slot} → t ≡ s → t.frame.scoped ≡ true → s.frame.scoped ≡ true
scoped_as e h = sym (ap (λ (z : Slot). z.frame.scoped) e) ∙ h

pub add_slot : {W : World} {es fs : List Environment} {ps : List Object} (s : Slot) → IsNew W s es fs ps → SlotsRel W es fs ps → SlotsRel (with_slot W s) es fs ps
add_slot {W = W} {es = es} {fs = fs} {ps = ps} s new h = record {
  at = λ t i. at t (in_cases i);
  inside = λ t i. within t (in_cases i);
  scope_inside = λ t i. scope_inside t (in_cases i);
  one_to_one = λ t u i j. one t u (in_cases i) (in_cases j);
  one_slot = λ t u i j. one_slot t u (in_cases i) (in_cases j);
  one_scope = λ t u i j. one_scope t u (in_cases i) (in_cases j);
  apart = λ t i. apart t (in_cases i);
  bases = λ b i. let k = h.bases b i in base_up (slot_more s) (λ t j w. one_apart b i t (in_cases j) w) (λ t j w. two_apart b i t (in_cases j) w) k;
}
  where
    at : (t : Slot) → (t ≡ s) ⊎ In t W.slots → SlotRel (with_slot W s) t (environment_at es t.one) (environment_at fs t.two) (object_at ps t.place)
    at t (inl e) = rw e new.at
    at t (inr i) = slot_up (slot_more s) (h.at t i)

    one_apart : (b : Base) → In b W.bases → (t : Slot) → (t ≡ s) ⊎ In t W.slots → Outward es b.one t.one → ⊥
    one_apart b i t (inl e) w = (new.no_base b i).0 (subst (λ (z : Slot). Outward es b.one z.one) e w)
    one_apart b i t (inr j) w = (h.bases b i).one_apart t j w

    two_apart : (b : Base) → In b W.bases → (t : Slot) → (t ≡ s) ⊎ In t W.slots → Outward fs b.two t.two → ⊥
    two_apart b i t (inl e) w = (new.no_base b i).1 (subst (λ (z : Slot). Outward fs b.two z.two) e w)
    two_apart b i t (inr j) w = (h.bases b i).two_apart t j w

    within : (t : Slot) → (t ≡ s) ⊎ In t W.slots → (t.one < length es) × (t.two < length fs)
    within t (inl e) = rw e new.inside
    within t (inr i) = h.inside t i

    scope_inside : (t : Slot) → (t ≡ s) ⊎ In t W.slots → t.frame.scoped ≡ true → t.place < length ps
    scope_inside t (inl e) q = rw e (new.scope_inside (scoped_as e q))
    scope_inside t (inr i) q = h.scope_inside t i q

    one : (t u : Slot) → (t ≡ s) ⊎ In t W.slots → (u ≡ s) ⊎ In u W.slots → nat_eq t.one u.one ≡ nat_eq t.two u.two
    one t u (inl e) (inl f) = rw (e, f) (eq-eqb s.one s.one refl ∙ sym (eq-eqb s.two s.two refl))
    one t u (inl e) (inr j) = let n = new.younger u j in rw e (eq_sym s.one u.one ∙ both_new u.one u.two s.one s.two n.0 n.1 ∙ eq_sym u.two s.two)
    one t u (inr i) (inl f) = let n = new.younger t i in rw f (both_new t.one t.two s.one s.two n.0 n.1)
    one t u (inr i) (inr j) = h.one_to_one t u i j

    one_slot : (t u : Slot) → (t ≡ s) ⊎ In t W.slots → (u ≡ s) ⊎ In u W.slots → t.one ≡ u.one → t ≡ u
    one_slot t u (inl e) (inl f) q = e ∙ sym f
    one_slot t u (inl e) (inr j) q = let n = (new.younger u j).0 in absurd (omega (arith, n, q, ap (λ (z : Slot). z.one) e))
    one_slot t u (inr i) (inl f) q = let n = (new.younger t i).0 in absurd (omega (arith, n, q, ap (λ (z : Slot). z.one) f))
    one_slot t u (inr i) (inr j) q = h.one_slot t u i j q

    one_scope : (t u : Slot) → (t ≡ s) ⊎ In t W.slots → (u ≡ s) ⊎ In u W.slots → t.frame.scoped ≡ true → u.frame.scoped ≡ true → t.place ≡ u.place → t ≡ u
    one_scope t u (inl e) (inl f) x y q = e ∙ sym f
    one_scope t u (inl e) (inr j) x y q = let n = new.no_scope (scoped_as e x) u j y in absurd (omega (arith, n, q, ap (λ (z : Slot). z.place) e))
    one_scope t u (inr i) (inl f) x y q = let n = new.no_scope (scoped_as f y) t i x in absurd (omega (arith, n, q, ap (λ (z : Slot). z.place) f))
    one_scope t u (inr i) (inr j) x y q = h.one_scope t u i j x y q

    apart : (t : Slot) → (t ≡ s) ⊎ In t W.slots → t.frame.scoped ≡ true → (p : Pair) → In p W.objects → nat_eq p.two t.place ≡ false
    apart t (inl e) q p j = let n = new.no_object (scoped_as e q) p j in rw e (ne_eqb p.two s.place (λ m. omega (arith, n, m)))
    apart t (inr i) q p j = h.apart t i q p j

-- a new environment is not outwards of those that were there
pub not_outward : {es us : List Environment} (new : ℕ) (o : Option EnvId) → AreInside es → ForSome o (λ q. q.0 < length es) → Reaches no_environment es us → length es ≤ new → Outward us o new → ⊥
not_outward {es = es} new o ages older reach past w =
    let back : Outward es o new = outward_back o refl (λ k v. reach.at k (outward_inside (length es) ages v older)) w in
    let wrong = outward_inside (length es) ages back older in
    omega (arith, wrong, past)

-- the left makes an environment while the right runs alone, from g to i, and changes nothing that is named
pub enter_agrees : {W : World} {h g i : Contents} (e : Environment) (s : Slot) → Agree W h g → s.one ≡ length h.environments → length g.environments ≤ s.two
    → Reaches no_object g.objects i.objects → Reaches no_environment g.environments i.environments → IsSound (with_new_environment h e) → IsSound i → s.two < length i.environments
    → SlotRel (with_slot W s) s e (environment_at i.environments s.two) (object_at i.objects s.place)
    → (s.frame.scoped ≡ true → (length g.objects ≤ s.place) × (s.place < length i.objects))
    → Agree (with_slot W s) (with_new_environment h e) i
enter_agrees {W = W} {h = h} {g = g} {i = i} e s r last past objects environments left right bound at scope =
    let here : environment_at (h.environments ++ e ∷ []) s.one ≡ e =
    ap (environment_at (h.environments ++ e ∷ [])) last ∙ environment_last h.environments e
    in
    let up = slot_more {W = W} s in
    record {
      objects = objects_up (longer_objects reaches_same objects r.objects);
      slots = add_slot s (record {
        inside = (omega (arith, last, length-append h.environments (e ∷ [])), bound);
        younger = λ t j. let n = r.slots.inside t j in (omega (arith, last, n.0), omega (arith, past, n.1));
        at = rw here at;
        scope_inside = λ q. (scope q).1;
        no_object = λ q p j. let n = (r.objects.inside p.one p.two (record { named = j })).1 in let m = (scope q).0 in omega (arith, n, m);
        no_scope = λ q t j x. let n = r.slots.scope_inside t j x in let m = (scope q).0 in omega (arith, n, m);
        no_base = λ b j.
            let z = r.slots.bases b j in (
              not_outward s.one b.one r.left.environments z.one_inside (reaches_more h.environments e) (omega (arith, last)),
              not_outward s.two b.two r.right.environments z.two_inside environments past,
            );
      }) (longer_scopes objects (longer_slots (reaches_more h.environments e) environments r.left.environments r.right.environments r.slots));
      left = left;
      right = right;
    }
  where
    objects_up : {os ps : List Object} → ObjectsRel (named W) os ps → ObjectsRel (named (with_slot W s)) os ps
    objects_up k = record {
      at = λ a b j. object_up (grows (slot_more s)) _ _ (k.at a b (record { named = j.named }));
      inside = λ a b j. k.inside a b (record { named = j.named });
      one_to_one = record { same = λ a b c d j m. k.one_to_one.same a b c d (record { named = j.named }) (record { named = m.named }) };
    }

some_same : {A : Type 0} {a b : A} → Some a ≡ Some b → a ≡ b
some_same e = cc

pub round_older : {W : World} {frames : List Frame} {es fs : List Environment} {ps : List Object} {o p : Option EnvId} → SlotsRel W es fs ps → Round W frames o p
    → (ForSome o (λ q. q.0 < length es)) × (ForSome p (λ q. q.0 < length fs))
round_older r outermost = (λ a e. absurd (cc e), λ a e. absurd (cc e))
round_older r (based b i) = let z = r.bases b i in (z.one_inside, z.two_inside)
round_older {es = es} {fs = fs} r (inside s i) = let n = r.inside s i in (λ c e. one c e n.0, λ c e. two c e n.1)
  where
    one : (c : EnvId) → Some (record { 0 = s.one }) ≡ Some c → s.one < length es → c.0 < length es
    one c e h = rw (← some_same e) h

    two : (c : EnvId) → Some (record { 0 = s.two }) ≡ Some c → s.two < length fs → c.0 < length fs
    two c e h = rw (← some_same e) h

-- where it is opened, the one round it is there
pub opened_there : (h : Contents) (outer : Option EnvId) (names : Bound) → ForSome outer (λ q. q.0 < length h.environments) → opened h outer names ≡ with_new_environment h (new_environment outer names)
opened_there h outer names older = ap (λ o. with_new_environment h (new_environment o names)) (inside_same (length h.environments) outer older)

pub entries : EntriesAgree
entries W h g i outer names s r last past objects environments right bound round at scope =
    let same = opened_there h outer names (as_outer round) in
    rw same (enter_agrees (new_environment outer names) s r last past objects environments (rw (← same) (sound_opened h r.left outer names)) right bound at scope)
  where
    as_outer : {o p : Option EnvId} → Round W s.round o p → ForSome o (λ q. q.0 < length h.environments)
    as_outer o = (round_older r.slots o).0

-- a pair of new environments, without a scope object
pub new_environments : OpenedAgree
new_environments W h g outer around names others keeps round known pending born r o related never hidden =
    let s = free_slot h g keeps round known pending born in
    let n = round_older r.slots o in
    let f = new_environment around others in
    let same = opened_there g around others n.1 in
    let right = sound_opened g r.right around others in
    let is : environment_at (opened g around others).environments (length g.environments) ≡ f = ap (λ (i : Contents). environment_at i.environments (length g.environments)) same ∙ environment_last g.environments f in
    entries W h g (opened g around others) outer names s r refl (omega arith) reaches_same (subst (λ (i : Contents). Reaches no_environment g.environments i.environments) (sym same) (reaches_more g.environments f)) right
    (subst (λ (i : Contents). length g.environments < length i.environments) (sym same) (omega (arith, length-append g.environments (f ∷ [])))) (rw is o)
    (rw is (slot_up (slot_more s) (record {
      outer = o;
      names = λ x a. related x a _;
      scopes = hidden;
      numbers = λ q. absurd (cc q);
      own = λ x a. absurd (never x a);
      plain = λ q. absurd (cc q);
    }))) (λ q. absurd (cc q))
