-- Runs of a class where another text stands behind them.
use Rattle.std.proofs.Common.{◌≡◌, ◌∙◌, ℕ, suc, ◌+◌, ◌≤◌, ◌&&◌, ◌==◌, Bool, true, false, List, [], ◌∷◌, ◌++◌, take, drop, length, refl, ap, append_assoc, arith}
use Rattle.std.proofs.lemmas.Bool.Decides.{nat_tests}
use Rattle.std.specs.List.{list_all, prefix_len}
use Rattle.std.proofs.lemmas.Bool.{and_parts}
use Rattle.page_tokens.specs.Characters.{begins_with, behind, run_of}

take_one : (n : ℕ) (u : ℕ) (us : List ℕ) → take (1 + n) (u ∷ us) ≡ u ∷ take n us
take_one n u us = let e : 1 + n ≡ suc n = omega arith in ap (λ k. take k (u ∷ us)) e

drop_one : (n : ℕ) (u : ℕ) (us : List ℕ) → drop (1 + n) (u ∷ us) ≡ drop n us
drop_one n u us = let e : 1 + n ≡ suc n = omega arith in ap (λ k. drop k (u ∷ us)) e

run_in : (class : ℕ → Bool) (u : ℕ) (us : List ℕ) → class u ≡ true → (run_of class (u ∷ us) ≡ u ∷ run_of class us) × (behind class (u ∷ us) ≡ behind class us)
run_in class u us e = (rw e (take_one (prefix_len class us) u us), rw e (drop_one (prefix_len class us) u us))

run_out : (class : ℕ → Bool) (u : ℕ) (us : List ℕ) → class u ≡ false → (run_of class (u ∷ us) ≡ []) × (behind class (u ∷ us) ≡ u ∷ us)
run_out class u us e = (rw e refl, rw e refl)

-- a text is its run and what stands behind it
pub record IsSplit (class : ℕ → Bool) (us run tail : List ℕ) : Type 0 where
  pub whole : us ≡ run ++ tail
  pub all : list_all class run ≡ true
  pub ends : begins_with class tail ≡ false

pub run_split : (class : ℕ → Bool) (us : List ℕ) → IsSplit class us (run_of class us) (behind class us)
run_split class [] = record { whole = refl; all = refl; ends = refl }
run_split class (u ∷ us) = by_case (class u) refl (run_split class us)
  where
    by_case : (b : Bool) → class u ≡ b → IsSplit class us (run_of class us) (behind class us) → IsSplit class (u ∷ us) (run_of class (u ∷ us)) (behind class (u ∷ us))
    by_case true e s =
        let r = run_in class u us e in
        rw (r.0, r.1) (record { whole = ap (λ x. u ∷ x) s.whole; all = rw e s.all; ends = s.ends })
    by_case false e s = let r = run_out class u us e in rw (r.0, r.1) (record { whole = refl; all = refl; ends = e })

pub run_again : (class : ℕ → Bool) (run tail : List ℕ) → list_all class run ≡ true → begins_with class tail ≡ false → (run_of class (run ++ tail) ≡ run) × (behind class (run ++ tail) ≡ tail)
run_again class [] [] a e = (refl, refl)
run_again class [] (u ∷ us) a e = run_out class u us e
run_again class (u ∷ us) tail a e =
    let p = and_parts (class u) (list_all class us) a in
    let r = run_in class u (us ++ tail) p.0 in
    let more = run_again class us tail p.1 e in
    (r.0 ∙ ap (λ x. u ∷ x) more.0, r.1 ∙ more.1)

pub all_append : (class : ℕ → Bool) (a b : List ℕ) → list_all class a ≡ true → list_all class b ≡ true → list_all class (a ++ b) ≡ true
all_append class [] b e f = f
all_append class (u ∷ us) b e f = let p = and_parts (class u) (list_all class us) e in rw (p.0) (all_append class us b p.1 f)

pub all_but : (class : ℕ → Bool) (a : List ℕ) (u : ℕ) (b : List ℕ) → class u ≡ false → list_all class (a ++ u ∷ b) ≡ false
all_but class [] u b e = rw e refl
all_but class (v ∷ a) u b e = by_case (class v) (all_but class a u b e)
  where
    by_case : (c : Bool) → list_all class (a ++ u ∷ b) ≡ false → (c && list_all class (a ++ u ∷ b)) ≡ false
    by_case true f = f
    by_case false f = refl

pub some_but : (class : ℕ → Bool) (a b : List ℕ) → list_all class b ≡ false → list_all class (a ++ b) ≡ false
some_but class [] b e = e
some_but class (v ∷ a) b e = by_case (class v) (some_but class a b e)
  where
    by_case : (c : Bool) → list_all class (a ++ b) ≡ false → (c && list_all class (a ++ b)) ≡ false
    by_case true f = f
    by_case false f = refl

-- a text that is no run has a first unit outside the class
pub record HasOther (class : ℕ → Bool) (us : List ℕ) : Type 0 where
  pub run : List ℕ
  pub other : ℕ
  pub tail : List ℕ
  pub whole : us ≡ run ++ other ∷ tail
  pub all : list_all class run ≡ true
  pub outside : class other ≡ false

pub has_other : (class : ℕ → Bool) (us : List ℕ) → list_all class us ≡ false → HasOther class us
has_other class [] e = absurd (cc)
has_other class (u ∷ us) e = by_case (class u) refl e (λ f. has_other class us f)
  where
    by_case : (b : Bool) → class u ≡ b → (b && list_all class us) ≡ false → (list_all class us ≡ false → HasOther class us) → HasOther class (u ∷ us)
    by_case true f g more =
        let o = more g in
        record { run = u ∷ o.run; other = o.other; tail = o.tail; whole = ap (λ x. u ∷ x) o.whole; all = rw f o.all; outside = o.outside }
    by_case false f g more = record { run = []; other = u; tail = us; whole = refl; all = refl; outside = f }

-- what stands behind the run of such a text does not depend on what follows the text
pub behind_other : (class : ℕ → Bool) (us more : List ℕ) (o : HasOther class us) → behind class (us ++ more) ≡ o.other ∷ (o.tail ++ more)
behind_other class us more o =
    ap (λ x. behind class (x ++ more)) o.whole ∙ ap (behind class) (append_assoc o.run (o.other ∷ o.tail) more) ∙ (run_again class o.run (o.other ∷ (o.tail ++ more)) o.all o.outside).1

-- what a text begins with does not depend on what follows it
pub begins_same : (class test : ℕ → Bool) (us more other : List ℕ) → list_all class us ≡ false → begins_with test (us ++ more) ≡ begins_with test (us ++ other)
begins_same class test [] more other e = absurd (cc)
begins_same class test (u ∷ us) more other e = refl

pub same_unit : (u k : ℕ) → (u == k) ≡ true → u ≡ k
same_unit u k e = grind (arith, nat_tests)

pub unit_is : (u : ℕ) → (u == u) ≡ true
unit_is u = grind (arith, nat_tests)

pub solid_len : (class : ℕ → Bool) (us : List ℕ) → list_all class us ≡ false → 1 ≤ length us
solid_len class [] e = absurd (cc)
solid_len class (u ∷ us) e = omega arith
