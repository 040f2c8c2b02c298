-- Environments that are there keep their names and stand where they stood.
use Rattle.std.proofs.Common.{◌≡◌, refl, sym, ap, subst, ◌∙◌, ℕ, ◌≤◌, Bool, true, false, List, [], ◌∷◌, Option, Some, None, bytes_eq, is_some, length, arith, inl, inr, ◌⊎◌, ◌≢◌, eqb}
use Rattle.std.proofs.lemmas.Bool.Decides.{eqb_tells}
use Rattle.std.specs.Map.{lookup, set_value}
use Rattle.js_values.specs.declared.ids.EnvId.{EnvId}
use Rattle.js_values.specs.declared.value.Value.{Value}
use Rattle.object_heap.specs.Environment.{Bound, Environment, environment_at, value_of, with_value_of}
use Rattle.object_heap.specs.Heap.{Contents, set}
use Rattle.object_heap.specs.Laws.{Step, puts, defines, deletes, prevents, adds, closes, gives_parts, makes, opens, binds, after_step, environment_of}
use Rattle.object_heap.proofs.Callers.{environment_set_same, fewer_steps, only_there}
use Rattle.scope_chains.specs.Laws.{LevelsStay}
use Rattle.scope_chains.specs.Levels.{AreLevels, Binds, BindsOwn, Level, OwnName, innermost}

keys_stay : {K X : Type 0} (a b : K → Bool) (es : List (K × X)) (w : X) → is_some (lookup a (set_value b es w)) ≡ is_some (lookup a es)
keys_stay a b [] w = refl
keys_stay a b (e ∷ es) w = by_case (b e.0) (a e.0) refl refl (keys_stay a b es w)
  where
    by_case : (s t : Bool) → b e.0 ≡ s → a e.0 ≡ t → is_some (lookup a (set_value b es w)) ≡ is_some (lookup a es) → is_some (lookup a (set_value b (e ∷ es) w)) ≡ is_some (lookup a (e ∷ es))
    by_case true true p q r = rw (p) (rw (q) refl)
    by_case true false p q r = rw (p) (rw (q) refl)
    by_case false true p q r = rw (p) (rw (q) refl)
    by_case false false p q r = rw (p) (rw (q) r)

names_stay : (names : Bound) (y x : List ℕ) (v : Value) → is_some (value_of (with_value_of names y v) x) ≡ is_some (value_of names x)
names_stay names y x v = keys_stay (bytes_eq x) (bytes_eq y) names v

-- as it was before
same_binds : (es fs : List Environment) (e : EnvId) (outer : Option EnvId) (xs : List (List ℕ)) → length es ≤ length fs → environment_at fs e.0 ≡ environment_at es e.0 → Binds es e outer xs → Binds fs e outer xs
same_binds es fs e outer xs more same b = record {
  there = omega (arith, more, b.there);
  stands = ap (λ (f : Environment). f.outer) same ∙ b.stands;
  names = λ x. ap (λ (f : Environment). is_some (value_of f.names x)) same ∙ b.names x;
}

bound_stays : (h : Contents) (y : List ℕ) (v : Value) (e : EnvId) (outer : Option EnvId) (xs : List (List ℕ)) → Binds h.environments e outer xs → Binds (set h e.0 y v).environments e outer xs
bound_stays h y v e outer xs b =
    let same = environment_set_same h e.0 y v b.there in
    record {
      there = omega (arith, (fewer_steps h (binds e.0 y v ∷ [])).1, b.there);
      stands = ap (λ (f : Environment). f.outer) same ∙ b.stands;
      names = λ x. ap (λ (f : Environment). is_some (value_of f.names x)) same ∙ (names_stay (environment_at h.environments e.0).names y x v ∙ b.names x);
    }

other_stays : (h : Contents) (s : Step) (e : EnvId) (outer : Option EnvId) (xs : List (List ℕ)) → (environment_of s ≡ Some e.0 → ⊥) → Binds h.environments e outer xs → Binds (after_step h s).environments e outer xs
other_stays h s e outer xs far b =
    same_binds h.environments (after_step h s).environments e outer xs (fewer_steps h (s ∷ [])).1 ((only_there h s e.0).1 b.there far) b

-- an environment after a step
step_binds : (h : Contents) (s : Step) (e : EnvId) (outer : Option EnvId) (xs : List (List ℕ)) → Binds h.environments e outer xs → Binds (after_step h s).environments e outer xs
step_binds h (binds k y v) e outer xs b = by_case (eqb_tells k e.0)
  where
    by_case : ((eqb k e.0 ≡ true) × (k ≡ e.0)) ⊎ ((eqb k e.0 ≡ false) × (k ≢ e.0)) → Binds (set h k y v).environments e outer xs
    by_case (inl i) = subst (λ j. Binds (set h j y v).environments e outer xs) (sym i.1) (bound_stays h y v e outer xs b)
    by_case (inr i) = other_stays h (binds k y v) e outer xs (λ p. i.1 (same p)) b
      where
        same : Some k ≡ Some e.0 → k ≡ e.0
        same p = cc p
step_binds h (puts k x v) e outer xs b = other_stays h (puts k x v) e outer xs (λ p. cc p) b
step_binds h (defines k x c) e outer xs b = other_stays h (defines k x c) e outer xs (λ p. cc p) b
step_binds h (deletes k x) e outer xs b = other_stays h (deletes k x) e outer xs (λ p. cc p) b
step_binds h (prevents k) e outer xs b = other_stays h (prevents k) e outer xs (λ p. cc p) b
step_binds h (adds k x p) e outer xs b = other_stays h (adds k x p) e outer xs (λ q. cc q) b
step_binds h (closes k) e outer xs b = other_stays h (closes k) e outer xs (λ p. cc p) b
step_binds h (gives_parts k f) e outer xs b = other_stays h (gives_parts k f) e outer xs (λ p. cc p) b
step_binds h (makes o fit) e outer xs b = other_stays h (makes o fit) e outer xs (λ p. cc p) b
step_binds h (opens o ns) e outer xs b = other_stays h (opens o ns) e outer xs (λ p. cc p) b

pub step_own : (h : Contents) (s : Step) (own : Option OwnName) (outer : Option EnvId) → BindsOwn h.environments own outer → BindsOwn (after_step h s).environments own outer
step_own h s None outer b = tt
step_own h s (Some p) outer b = step_binds h s p.1 outer (p.0 ∷ []) b

pub step_levels : (h : Contents) (s : Step) (ls : List Level) → AreLevels h.environments ls → AreLevels (after_step h s).environments ls
step_levels h s [] levels = tt
step_levels h s (l ∷ ls) levels =
    (step_binds h s l.env _ _ levels.0, step_own h s l.own (innermost ls) levels.1, step_levels h s ls levels.2)

pub levels_stay : LevelsStay
levels_stay h ls [] levels = levels
levels_stay h ls (s ∷ ss) levels = levels_stay (after_step h s) ls ss (step_levels h s ls levels)
