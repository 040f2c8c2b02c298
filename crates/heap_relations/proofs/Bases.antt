-- The environments round a rebuilt function are never assigned, so what is found there stays.
use Rattle.std.proofs.Common.{◌≡◌, refl, sym, ap, subst, ℕ, zero, suc, ◌<◌, ◌≤◌, List, Option, Some, None, length, arith}
use Rattle.std.specs.Option.{ForSome}
use Rattle.js_values.specs.declared.ids.EnvId.{EnvId}
use Rattle.js_values.specs.declared.value.Value.{Value}
use Rattle.object_heap.specs.Environment.{Environment, value_of, AreInside, environment_at}
use Rattle.object_heap.specs.Heap.{lookup, bound_within, first_bound, look_in}
use Rattle.heap_relations.specs.Naming.{at_once, Base, BaseRel, env_id, further, Outward, World}

-- environments outwards are older
pub outward_inside : {es : List Environment} {o : Option EnvId} {k : ℕ} (n : ℕ) → AreInside es → Outward es o k → ForSome o (λ e. e.0 < n) → k < n
outward_inside n ages at_once h = h _ refl
outward_inside n ages (further {k = k} w) h =
    let here : k < n = h _ refl in
    outward_inside n ages w (λ e q. omega (arith, ages k e q, here))

-- the second list has the environments that the first has from here outwards
abbrev pub Keeps : List Environment → List Environment → Option EnvId → Type 0
Keeps es us o = (j : ℕ) → Outward es o j → environment_at us j ≡ environment_at es j

keeps_outer : {es : List Environment} (us : List Environment) {k : ℕ} → Keeps es us (Some (env_id k)) → Keeps es us (environment_at es k).outer
keeps_outer us h j w = h j (further w)

bound_same : (k : ℕ) (own : Option Value) (outer : Option EnvId) (f g : ℕ → Option (EnvId × Value)) → ((q : EnvId) → outer ≡ Some q → f q.0 ≡ g q.0) → first_bound k own outer f ≡ first_bound k own outer g
bound_same k (Some v) outer f g h = refl
bound_same k None None f g h = refl
bound_same k None (Some q) f g h = h q refl

within_same : {es : List Environment} (us : List Environment) (n k : ℕ) (x : List ℕ) → Keeps es us (Some (env_id k)) → bound_within us n k x ≡ bound_within es n k x
within_same us zero k x h = refl
within_same {es = es} us (suc n) k x h =
    rw (h k at_once)
    (bound_same k (value_of (environment_at es k).names x) (environment_at es k).outer (λ e. bound_within us n e x) (λ e. bound_within es n e x)
    (λ q e. within_same us n q.0 x (λ j w. h j (further (subst (λ o. Outward es o j) (sym e) w)))))

look_same : {es : List Environment} (us : List Environment) (o : Option EnvId) (x : List ℕ) → Keeps es us o → look_in us o x ≡ look_in es o x
unfolding lookup
look_same us None x h = refl
look_same us (Some e) x h = within_same us (suc e.0) e.0 x h

pub outward_back : {es us : List Environment} {o : Option EnvId} {k : ℕ} (p : Option EnvId) → o ≡ p → Keeps es us p → Outward us o k → Outward es p k
outward_back {es = es} {k = k} p e h at_once = subst (λ q. Outward es q k) e at_once
outward_back {es = es} {us = us} {k = j} p e h (further {k = k} w) =
    let keeps : Keeps es us (Some (env_id k)) = λ i v. h i (subst (λ q. Outward es q i) e v) in
    subst (λ q. Outward es q j) e
    (further (outward_back (environment_at es k).outer (ap (λ (z : Environment). z.outer) (keeps k at_once)) (keeps_outer us keeps) w))

pub base_kept : {W : World} {b : Base} {es us fs vs : List Environment} → Keeps es us b.one → Keeps fs vs b.two → length es ≤ length us → length fs ≤ length vs → BaseRel W b es fs → BaseRel W b us vs
base_kept {b = b} {us = us} {vs = vs} one two long longer h = record {
  names = λ x a. rw (look_same us b.one x one, look_same vs b.two x two) (h.names x a);
  one_inside = λ e q. omega (arith, h.one_inside e q, long);
  two_inside = λ e q. omega (arith, h.two_inside e q, longer);
  one_apart = λ s i w. h.one_apart s i (outward_back b.one refl one w);
  two_apart = λ s i w. h.two_apart s i (outward_back b.two refl two w);
}
