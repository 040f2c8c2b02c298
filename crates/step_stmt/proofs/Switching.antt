-- How a switch goes on.
use Rattle.std.proofs.Common.{◌≡◌, ◌≢◌, refl, sym, ap, subst, ◌∙◌, ℕ, zero, suc, ◌+◌, ◌*◌, ◌<◌, ◌≤◌, Option, Some, None, Bool, true, false, Result, IfOk, is_some, le_refl, arith}
use Rattle.std.specs.Prelude.{IfSome}
use Rattle.code_table.specs.Kind.{kind_of}
use Rattle.code_table.specs.Node.{Node, and_child, part_count, stmt_node}
use Rattle.code_table.specs.declared.kind.Kind.TheVariants.{Switch}
use Rattle.js_core.specs.Tree as tree
use Rattle.js_core.specs.Tree.{switch}
use Rattle.js_values.specs.declared.value.Value.{Value}
use Rattle.page_meaning.specs.declared.signal.Signal.{Signal}
use Rattle.page_meaning.specs.declared.signal.Signal.TheVariants.{Value as Val}
use Rattle.page_meaning.specs.Act.{Act, Calls, Outcome, Ended, Stopped, also, bind, choose, done, nothing, on_value, ret, then_on}
use Rattle.page_meaning.specs.Calls.{calls_at}
use Rattle.page_meaning.specs.Names.{Here}
use Rattle.page_meaning.specs.Statements.{unbroken}
use Rattle.page_meaning.specs.Store.{Store}
use Rattle.whole_ops.specs.Equality.{same_of}
use Rattle.page_frames.specs.declared.frame.Begin.TheVariants as begin
use Rattle.page_frames.specs.declared.frame.Frame.TheVariants as frame
use Rattle.page_frames.specs.declared.meter.Meter.{Meter}
use Rattle.page_frames.specs.declared.meter.Next.{Next}
use Rattle.page_frames.specs.declared.meter.Next.TheVariants.{Give, Go, Then}
use Rattle.page_frames.specs.Parts.{mean_node, part}
use Rattle.page_frames.specs.RestLoops.{body_place, cases_from, rest_case, rest_test, test_place, through_from, till_break}
use Rattle.page_frames.specs.Step.{Leads}
use Rattle.page_frames.specs.Weight.{cost, weigh, weigh_case}
use Rattle.page_frames.specs.Where.{Where, here_of, numbered, spot_node}
use Rattle.page_state.specs.Does.{Does}
use Rattle.step_parts.proofs.Callers.{switch_shape}
use Rattle.step_stmt.specs.Cases.{Defaults, GoesThrough, IsNext, NextTest, NoDefault, NoTest, Tests, case_count, default_at, default_of, weigh_tests, weigh_through}
use Rattle.step_stmt.proofs.Ending.{passes_on, same_leads}
use Rattle.step_stmt.proofs.CaseActs as act
use Rattle.step_stmt.proofs.CaseParts as parts

-- ---- the lemmas on its parts, for a node that is a switch

abbrev IsSwitch : Option Node → Type 0
IsSwitch at = (e : tree.Expr) × ((cs : tree.Cases) × (at ≡ Some (stmt_node (switch e cs))))

test_runs : (calls : Calls) (here : Here) (at : Option Node) (v : Value) (i : ℕ) → IsSwitch at → is_some (and_child at (test_place i)) ≡ true
    → cases_from calls here at v i ≡ also (part calls here at (test_place i)) (rest_test calls here at v i)
test_runs calls here at v i s h = rw s.1.1 (act.test_runs calls here s.0 s.1.0 v i (rw s.1.1 at h))

test_skipped : (calls : Calls) (here : Here) (at : Option Node) (v : Value) (i : ℕ) → IsSwitch at → is_some (and_child at (test_place i)) ≡ false
    → cases_from calls here at v i ≡ cases_from calls here at v (suc i)
test_skipped calls here at v i s h = rw s.1.1 (act.test_skipped calls here s.0 s.1.0 v i (rw s.1.1 at h))

tests_end : (calls : Calls) (here : Here) (at : Option Node) (v : Value) (i : ℕ) → IsSwitch at → case_count at ≤ i → cases_from calls here at v i ≡ default_of calls here at (case_count at)
tests_end calls here at v i s h = rw s.1.1 (act.tests_end calls here s.0 s.1.0 v i (rw s.1.1 at h))

tests_past : (calls : Calls) (here : Here) (at : Option Node) (v : Value) (i : ℕ) → IsSwitch at → case_count at ≤ i → cases_from calls here at v (suc i) ≡ cases_from calls here at v (case_count at)
tests_past calls here at v i s h = rw s.1.1 (act.tests_past calls here s.0 s.1.0 v i (rw s.1.1 at h))

default_passed : (calls : Calls) (here : Here) (at : Option Node) (i : ℕ) → IsSwitch at → is_some (and_child at (test_place i)) ≡ true → default_of calls here at (suc i) ≡ default_of calls here at i
default_passed calls here at i s h = rw s.1.1 (act.default_passed calls here s.0 s.1.0 i (rw s.1.1 at h))

default_found : (calls : Calls) (here : Here) (at : Option Node) (i : ℕ) → IsSwitch at → is_some (and_child at (test_place i)) ≡ false → i < case_count at → default_of calls here at (suc i) ≡ through_from calls here at i
default_found calls here at i s h l = rw s.1.1 (act.default_found calls here s.0 s.1.0 i (rw s.1.1 at h) (rw s.1.1 at l))

bodies_run : (calls : Calls) (here : Here) (at : Option Node) (i : ℕ) → IsSwitch at → i < case_count at → through_from calls here at i ≡ also (part calls here at (body_place i)) (λ _. through_from calls here at (suc i))
bodies_run calls here at i s l = rw s.1.1 (act.bodies_run calls here s.0 s.1.0 i (rw s.1.1 at l))

bodies_end : (calls : Calls) (here : Here) (at : Option Node) (i : ℕ) → IsSwitch at → case_count at ≤ i → through_from calls here at i ≡ done
bodies_end calls here at i s l = rw s.1.1 (act.bodies_end calls here s.0 s.1.0 i (rw s.1.1 at l))

counted : (at : Option Node) → IsSwitch at → part_count at ≡ suc (2 * case_count at)
counted at s = rw s.1.1 (parts.switch_length s.0 s.1.0)

pub count_is : (at : Option Node) → kind_of at ≡ Switch → part_count at ≡ suc (2 * case_count at)
count_is at k = counted at (switch_shape at k)

switch_pays : (at : Option Node) → IsSwitch at → weigh_tests at 0 ≤ weigh at 1
switch_pays at s = rw s.1.1 (parts.switch_pays s.0 s.1.0)

test_pays : (at : Option Node) (i j : ℕ) → IsSwitch at → i ≤ j → is_some (and_child at (test_place j)) ≡ true → suc (weigh_case at j true) + suc (cost (and_child at (test_place j))) ≤ weigh_tests at i
test_pays at i j s h t = rw s.1.1 (parts.test_paid s.0 s.1.0 i j h (rw s.1.1 at t))

default_pays : (at : Option Node) (i j : ℕ) → IsSwitch at → weigh_through at j ≤ weigh_tests at i
default_pays at i j s = rw s.1.1 (parts.default_pays s.0 s.1.0 i j)

same_pays : (at : Option Node) (i : ℕ) → IsSwitch at → weigh_through at i ≤ weigh_case at i true
same_pays at i s = rw s.1.1 (parts.same_pays s.0 s.1.0 i)

other_pays : (at : Option Node) (i : ℕ) → IsSwitch at → weigh_tests at (suc i) ≤ weigh_case at i true
other_pays at i s = rw s.1.1 (parts.other_pays s.0 s.1.0 i)

past_pays : (at : Option Node) (i : ℕ) → IsSwitch at → weigh_tests at (case_count at) ≤ weigh_case at i true
past_pays at i s = rw s.1.1 (parts.past_pays s.0 s.1.0 i)

body_pays : (at : Option Node) (i : ℕ) → IsSwitch at → i < case_count at → suc (weigh_case at i false) + suc (cost (and_child at (body_place i))) ≤ weigh_through at i
body_pays at i s l = rw s.1.1 (parts.body_paid s.0 s.1.0 i (rw s.1.1 at l))

next_pays : (at : Option Node) (i : ℕ) → IsSwitch at → weigh_through at (suc i) ≤ weigh_case at i false
next_pays at i s = rw s.1.1 (parts.next_pays s.0 s.1.0 i)

-- ---- the loops over cases

pub tests_begin : (at : Option Node) (i : ℕ) → i ≤ case_count at → NoTest at i i
tests_begin at i h = record { same = λ calls here v. refl; later = le_refl i; within = h }

pub skips : (at : Option Node) (i j k : ℕ) → kind_of at ≡ Switch → k ≡ suc j → j < case_count at → false ≡ is_some (and_child at (test_place j)) → NoTest at i j → NoTest at i k
skips at i j k s e l h n =
    let same : (calls : Calls) (here : Here) (v : Value) → cases_from calls here at v i ≡ cases_from calls here at v (suc j) =
    λ calls here v. n.same calls here v ∙ test_skipped calls here at v j (switch_shape at s) (sym h) in
    subst (λ q. NoTest at i q) (sym e) (record { same = same; later = omega (arith, n.later); within = l })

pub finds : (at : Option Node) (i j : ℕ) → j < case_count at → true ≡ is_some (and_child at (test_place j)) → NoTest at i j → IsNext at i j
finds at i j l t n = record { same = n.same; there = sym t; later = n.later; within = l }

pub no_more : (at : Option Node) (i j : ℕ) → kind_of at ≡ Switch → case_count at ≤ j → NoTest at i j → NextTest at i None
no_more at i j k h n calls here v = n.same calls here v ∙ tests_end calls here at v j (switch_shape at k) h

pub defaults_begin : (at : Option Node) (i : ℕ) → i ≡ case_count at → NoDefault at i
defaults_begin at i e = rw e (record { same = λ calls here. refl; within = le_refl (case_count at) })

pub passes_test : (at : Option Node) (j i : ℕ) → kind_of at ≡ Switch → j ≡ suc i → true ≡ is_some (and_child at (test_place i)) → NoDefault at j → NoDefault at i
passes_test at j i k e h n =
    let n1 : NoDefault at (suc i) = subst (NoDefault at) e n in
    record { same = λ calls here. n1.same calls here ∙ default_passed calls here at i (switch_shape at k) (sym h); within = omega (arith, n1.within) }

pub finds_default : (at : Option Node) (j i : ℕ) → kind_of at ≡ Switch → j ≡ suc i → false ≡ is_some (and_child at (test_place i)) → NoDefault at j
    → (calls : Calls) (here : Here) → default_of calls here at (case_count at) ≡ default_at calls here at (Some i)
finds_default at j i k e h n calls here =
    let n1 : NoDefault at (suc i) = subst (NoDefault at) e n in
    n1.same calls here ∙ default_found calls here at i (switch_shape at k) (sym h) n1.within

pub finds_none : (at : Option Node) (i : ℕ) → i ≤ 0 → NoDefault at i → (calls : Calls) (here : Here) → default_of calls here at (case_count at) ≡ default_at calls here at None
finds_none at zero h n calls here = n.same calls here
finds_none at (suc i) h n calls here = absurd (omega (arith, h))

-- ---- what runs

then_twice : (o : Outcome Signal) (f g : Signal → Act) → then_on (then_on o f) g ≡ then_on o (λ s. bind (f s) g)
then_twice (Ended s w n) f g = refl
then_twice (Stopped w) f g = refl

-- the same up to the end of the switch
abbrev broken : Store → ℕ → Act → Outcome Signal
broken w n a = (till_break a).run w n

pub test_then : (f : Where) (v : Value) (i j : ℕ) (w : Store) (m : Meter) → spot_node (numbered f j) ≡ and_child (spot_node f) (test_place i)
    → Tests f v i w m (Then (frame.Case (record { spot = f; value = v; index = i; testing = true })) (begin.Node (numbered f j)))
test_then f v i j w m e =
    let rest : Signal → Act = on_value (rest_test (calls_at m.depth) (here_of f) (spot_node f) v i) in
    let last : Signal → Act = λ s. ret (unbroken s) in
    record {
      follows =
          ap (λ k. then_on (then_on ((mean_node (calls_at m.depth) (here_of f) k).run w m.steps) rest) last) (sym e)
          ∙ then_twice ((mean_node (calls_at m.depth) (here_of f) (spot_node (numbered f j))).run w m.steps) rest last;
      levels = refl;
      lighter = rw e (omega arith);
    }

pub test_on : (f : Where) (v : Value) (i j : ℕ) (w : Store) (m : Meter) (o : Option Value) (u : Value) → spot_node (numbered f j) ≡ and_child (spot_node f) (test_place i) → o ≡ Some u
    → IfSome o (λ x. Does (λ calls. mean_node calls (here_of f) (spot_node (numbered f j))) w (Val x) w)
    → Tests f v i w m (Go (frame.Case (record { spot = f; value = v; index = i; testing = true })) (Val u))
test_on f v i j w m o u e z h =
    let p : Does (λ calls. mean_node calls (here_of f) (spot_node (numbered f j))) w (Val u) w = subst (λ y. IfSome y (λ x. Does (λ calls. mean_node calls (here_of f) (spot_node (numbered f j))) w (Val x) w)) z h in
    let rest : Signal → Act = on_value (rest_test (calls_at m.depth) (here_of f) (spot_node f) v i) in
    let last : Signal → Act = λ s. ret (unbroken s) in
    record {
      follows =
          ap (λ k. then_on (then_on ((mean_node (calls_at m.depth) (here_of f) k).run w m.steps) rest) last) (sym e)
          ∙ ap (λ x. then_on (then_on x rest) last) (p.is (calls_at m.depth) m.steps);
      levels = refl;
      lighter = omega arith;
    }

pub body_then : (f : Where) (v : Value) (i j : ℕ) (w : Store) (m : Meter) → kind_of (spot_node f) ≡ Switch → i < case_count (spot_node f) → spot_node (numbered f j) ≡ and_child (spot_node f) (body_place i)
    → GoesThrough f i w m (Then (frame.Case (record { spot = f; value = v; index = i; testing = false })) (begin.Node (numbered f j)))
body_then f v i j w m k l e =
    let rest : Signal → Act = on_value (λ _. through_from (calls_at m.depth) (here_of f) (spot_node f) (suc i)) in
    let last : Signal → Act = λ s. ret (unbroken s) in
    record {
      follows =
          ap (broken w m.steps) (bodies_run (calls_at m.depth) (here_of f) (spot_node f) i (switch_shape (spot_node f) k) l)
          ∙ ap (λ o. then_on (then_on ((mean_node (calls_at m.depth) (here_of f) o).run w m.steps) rest) last) (sym e)
          ∙ then_twice ((mean_node (calls_at m.depth) (here_of f) (spot_node (numbered f j))).run w m.steps) rest last;
      levels = refl;
      lighter = rw e (omega (arith, body_pays (spot_node f) i (switch_shape (spot_node f) k) l));
    }

pub bodies_done : (f : Where) (i : ℕ) (w : Store) (m : Meter) → kind_of (spot_node f) ≡ Switch → case_count (spot_node f) ≤ i → GoesThrough f i w m (Give nothing)
bodies_done f i w m k h = record {
  follows = ap (broken w m.steps) (bodies_end (calls_at m.depth) (here_of f) (spot_node f) i (switch_shape (spot_node f) k) h);
  levels = refl;
  lighter = le_refl m.steps;
}

-- ---- the tests from an index on

abbrev TestsFrom : Where → Value → ℕ → ℕ → Store → Meter → Next → Type 0
TestsFrom f v i weight w m n = Leads (till_break (cases_from (calls_at m.depth) (here_of f) (spot_node f) v i)) weight w m n w m

pub tests_found : {E : Type 0} (f : Where) (v : Value) (i j : ℕ) (w : Store) (m : Meter) (r : Result Next E) → kind_of (spot_node f) ≡ Switch → IsNext (spot_node f) i j
    → IfOk r (λ n. Tests f v j w m n) → IfOk r (λ n. TestsFrom f v i (weigh_tests (spot_node f) i) w m n)
tests_found f v i j w m r k h g =
    same_leads (till_break (also (part (calls_at m.depth) (here_of f) (spot_node f) (test_place j)) (rest_test (calls_at m.depth) (here_of f) (spot_node f) v j))) _
    (suc (weigh_case (spot_node f) j true) + suc (cost (and_child (spot_node f) (test_place j)))) (weigh_tests (spot_node f) i) w w m m r
    (ap (broken w m.steps) (h.same (calls_at m.depth) (here_of f) v ∙ test_runs (calls_at m.depth) (here_of f) (spot_node f) v j (switch_shape (spot_node f) k) h.there))
    (test_pays (spot_node f) i j (switch_shape (spot_node f) k) h.later h.there) g

pub tests_out : {E : Type 0} (f : Where) (v : Value) (i : ℕ) (w : Store) (m : Meter) (r : Result Next E) → NextTest (spot_node f) i None
    → IfOk r (λ n. Defaults f i w m n) → IfOk r (λ n. TestsFrom f v i (weigh_tests (spot_node f) i) w m n)
tests_out f v i w m r h g =
    same_leads (till_break (default_of (calls_at m.depth) (here_of f) (spot_node f) (case_count (spot_node f)))) _ (weigh_tests (spot_node f) i) (weigh_tests (spot_node f) i) w w m m r
    (ap (broken w m.steps) (h (calls_at m.depth) (here_of f) v)) (le_refl (weigh_tests (spot_node f) i)) g

-- what a default is, for all that a node may be run by
abbrev pub IsDefault : Option Node → Option ℕ → Type 0
IsDefault at o = (calls : Calls) (here : Here) → default_of calls here at (case_count at) ≡ default_at calls here at o

pub default_runs : {E : Type 0} (f : Where) (i j : ℕ) (o : Option ℕ) (w : Store) (m : Meter) (r : Result Next E) → kind_of (spot_node f) ≡ Switch → o ≡ Some j → IsDefault (spot_node f) o
    → IfOk r (λ n. GoesThrough f j w m n) → IfOk r (λ n. Defaults f i w m n)
default_runs f i j o w m r k e d g =
    let d1 : IsDefault (spot_node f) (Some j) = subst (IsDefault (spot_node f)) e d in
    same_leads (till_break (through_from (calls_at m.depth) (here_of f) (spot_node f) j)) _ (weigh_through (spot_node f) j) (weigh_tests (spot_node f) i) w w m m r
    (ap (broken w m.steps) (d1 (calls_at m.depth) (here_of f))) (default_pays (spot_node f) i j (switch_shape (spot_node f) k)) g

pub no_default : (f : Where) (i : ℕ) (o : Option ℕ) (w : Store) (m : Meter) → o ≡ None → IsDefault (spot_node f) o → Defaults f i w m (Give nothing)
no_default f i o w m e d =
    let d1 : IsDefault (spot_node f) None = subst (IsDefault (spot_node f)) e d in
    record { follows = ap (broken w m.steps) (d1 (calls_at m.depth) (here_of f)); levels = refl; lighter = le_refl m.steps }

pub switch_begins : {E : Type 0} (f : Where) (v : Value) (w : Store) (m : Meter) (r : Result Next E) → kind_of (spot_node f) ≡ Switch
    → IfOk r (λ n. TestsFrom f v 0 (weigh_tests (spot_node f) 0) w m n) → IfOk r (λ n. TestsFrom f v 0 (weigh (spot_node f) 1) w m n)
switch_begins f v w m r k g =
    let tests : Act = till_break (cases_from (calls_at m.depth) (here_of f) (spot_node f) v 0) in
    same_leads tests tests (weigh_tests (spot_node f) 0) (weigh (spot_node f) 1) w w m m r refl (switch_pays (spot_node f) (switch_shape (spot_node f) k)) g

pub tests_later : {E : Type 0} (f : Where) (v : Value) (i k : ℕ) (w : Store) (m : Meter) (r : Result Next E) → kind_of (spot_node f) ≡ Switch → k ≡ suc i
    → IfOk r (λ n. TestsFrom f v k (weigh_tests (spot_node f) k) w m n) → IfOk r (λ n. TestsFrom f v (suc i) (weigh_case (spot_node f) i true) w m n)
tests_later f v i k w m r s e g =
    let tests : Act = till_break (cases_from (calls_at m.depth) (here_of f) (spot_node f) v (suc i)) in
    same_leads tests tests (weigh_tests (spot_node f) (suc i)) (weigh_case (spot_node f) i true) w w m m r refl (other_pays (spot_node f) i (switch_shape (spot_node f) s))
    (subst (λ q. IfOk r (λ n. TestsFrom f v q (weigh_tests (spot_node f) q) w m n)) e g)

pub tests_over : {E : Type 0} (f : Where) (v : Value) (i k : ℕ) (w : Store) (m : Meter) (r : Result Next E) → kind_of (spot_node f) ≡ Switch → k ≡ case_count (spot_node f) → case_count (spot_node f) ≤ i
    → IfOk r (λ x. TestsFrom f v k (weigh_tests (spot_node f) k) w m x) → IfOk r (λ x. TestsFrom f v (suc i) (weigh_case (spot_node f) i true) w m x)
tests_over f v i k w m r s e h g =
    same_leads (till_break (cases_from (calls_at m.depth) (here_of f) (spot_node f) v (case_count (spot_node f)))) _ (weigh_tests (spot_node f) (case_count (spot_node f))) (weigh_case (spot_node f) i true) w w m m r
    (ap (broken w m.steps) (tests_past (calls_at m.depth) (here_of f) (spot_node f) v i (switch_shape (spot_node f) s) h)) (past_pays (spot_node f) i (switch_shape (spot_node f) s))
    (subst (λ q. IfOk r (λ n. TestsFrom f v q (weigh_tests (spot_node f) q) w m n)) e g)

-- ---- from the end of a test, or of statements

abbrev Ends : Where → Value → ℕ → Value → Store → Meter → Next → Type 0
Ends f v i u w m n = Leads (till_break (rest_test (calls_at m.depth) (here_of f) (spot_node f) v i u)) (weigh_case (spot_node f) i true) w m n w m

chosen : (b c : Bool) (x y : Act) → b ≡ c → choose c x y ≡ choose b x y
chosen b c x y e = ap (λ z. choose z x y) (sym e)

pub test_same : {E : Type 0} (f : Where) (v u : Value) (i : ℕ) (w : Store) (m : Meter) (r : Result Next E) → kind_of (spot_node f) ≡ Switch → true ≡ same_of v u
    → IfOk r (λ n. GoesThrough f i w m n) → IfOk r (λ n. Ends f v i u w m n)
test_same f v u i w m r k e g =
    same_leads (till_break (through_from (calls_at m.depth) (here_of f) (spot_node f) i)) _ (weigh_through (spot_node f) i) (weigh_case (spot_node f) i true) w w m m r
    (ap (broken w m.steps) (chosen true (same_of v u) (through_from (calls_at m.depth) (here_of f) (spot_node f) i) (cases_from (calls_at m.depth) (here_of f) (spot_node f) v (suc i)) e))
    (same_pays (spot_node f) i (switch_shape (spot_node f) k)) g

pub test_other : {E : Type 0} (f : Where) (v u : Value) (i : ℕ) (w : Store) (m : Meter) (r : Result Next E) → false ≡ same_of v u
    → IfOk r (λ n. TestsFrom f v (suc i) (weigh_case (spot_node f) i true) w m n) → IfOk r (λ n. Ends f v i u w m n)
test_other f v u i w m r e g =
    same_leads (till_break (cases_from (calls_at m.depth) (here_of f) (spot_node f) v (suc i))) _ (weigh_case (spot_node f) i true) (weigh_case (spot_node f) i true) w w m m r
    (ap (broken w m.steps) (chosen false (same_of v u) (through_from (calls_at m.depth) (here_of f) (spot_node f) i) (cases_from (calls_at m.depth) (here_of f) (spot_node f) v (suc i)) e))
    (le_refl (weigh_case (spot_node f) i true)) g

abbrev Later : Where → ℕ → Store → Meter → Next → Type 0
Later f i w m n = Leads (till_break (through_from (calls_at m.depth) (here_of f) (spot_node f) (suc i))) (weigh_case (spot_node f) i false) w m n w m

pub bodies_later : {E : Type 0} (f : Where) (i k : ℕ) (w : Store) (m : Meter) (r : Result Next E) → kind_of (spot_node f) ≡ Switch → k ≡ suc i → IfOk r (λ n. GoesThrough f k w m n) → IfOk r (λ n. Later f i w m n)
bodies_later f i k w m r s e g =
    let bodies : Act = till_break (through_from (calls_at m.depth) (here_of f) (spot_node f) (suc i)) in
    same_leads bodies bodies (weigh_through (spot_node f) (suc i)) (weigh_case (spot_node f) i false) w w m m r refl (next_pays (spot_node f) i (switch_shape (spot_node f) s))
    (subst (λ q. IfOk r (λ n. GoesThrough f q w m n)) e g)

pub bodies_over : (f : Where) (i : ℕ) (w : Store) (m : Meter) → kind_of (spot_node f) ≡ Switch → case_count (spot_node f) ≤ i → Later f i w m (Give nothing)
bodies_over f i w m k h = record {
  follows = ap (broken w m.steps) (bodies_end (calls_at m.depth) (here_of f) (spot_node f) (suc i) (switch_shape (spot_node f) k) (omega (arith, h)));
  levels = refl;
  lighter = le_refl m.steps;
}

abbrev CaseGoes : Where → Value → ℕ → Bool → Signal → Store → Meter → Next → Type 0
CaseGoes f v i b s w m n = Leads (rest_case (calls_at m.depth) (here_of f) (spot_node f) v i b s) (weigh_case (spot_node f) i b) w m n w m

pub case_tested : {E : Type 0} (f : Where) (v u : Value) (i : ℕ) (b : Bool) (w : Store) (m : Meter) (r : Result Next E) → b ≡ true → IfOk r (λ n. Ends f v i u w m n) → IfOk r (λ n. CaseGoes f v i b (Val u) w m n)
case_tested f v u i true w m r e g = g
case_tested f v u i false w m r e g = cc e

pub case_bodied : {E : Type 0} (f : Where) (v u : Value) (i : ℕ) (b : Bool) (w : Store) (m : Meter) (r : Result Next E) → b ≡ false → IfOk r (λ n. Later f i w m n) → IfOk r (λ n. CaseGoes f v i b (Val u) w m n)
case_bodied f v u i true w m r e g = cc e
case_bodied f v u i false w m r e g = g

pub case_valued : {E : Type 0} (f : Where) (v u : Value) (i : ℕ) (b : Bool) (s : Signal) (w : Store) (m : Meter) (r : Result Next E) → s ≡ Val u → IfOk r (λ n. CaseGoes f v i b (Val u) w m n) → IfOk r (λ n. CaseGoes f v i b s w m n)
case_valued f v u i b s w m r e g = subst (λ x. IfOk r (λ n. CaseGoes f v i b x w m n)) (sym e) g

both : (b : Bool) (x y z : Act) → x ≡ z → y ≡ z → choose b x y ≡ z
both true x y z e g = e
both false x y z e g = g

pub no_switch : (f : Where) (v u : Value) (i : ℕ) (b : Bool) (w : Store) (m : Meter) → kind_of (spot_node f) ≢ Switch → CaseGoes f v i b (Val u) w m (Give nothing)
no_switch f v u i false w m k = record {
  follows = ap (broken w m.steps) (act.no_bodies (calls_at m.depth) (here_of f) (spot_node f) (suc i) k);
  levels = refl;
  lighter = le_refl m.steps;
}
no_switch f v u i true w m k = record {
  follows =
      ap (broken w m.steps)
      (both (same_of v u) _ _ done (act.no_bodies (calls_at m.depth) (here_of f) (spot_node f) i k) (act.no_tests (calls_at m.depth) (here_of f) (spot_node f) v (suc i) k));
  levels = refl;
  lighter = le_refl m.steps;
}

-- another end passes, but for a break
pub case_passes : (f : Where) (v : Value) (i : ℕ) (b : Bool) (s : Signal) (w : Store) (m : Meter) → ((u : Value) → s ≡ Val u → ⊥) → CaseGoes f v i b s w m (Give (unbroken s))
case_passes f v i true s w m h = record { follows = ap (broken w m.steps) (passes_on (rest_test (calls_at m.depth) (here_of f) (spot_node f) v i) s h); levels = refl; lighter = le_refl m.steps }
case_passes f v i false s w m h = record { follows = ap (broken w m.steps) (passes_on (λ _. through_from (calls_at m.depth) (here_of f) (spot_node f) (suc i)) s h); levels = refl; lighter = le_refl m.steps }
