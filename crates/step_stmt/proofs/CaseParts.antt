-- The parts of a switch, by its cases.
use Rattle.std.proofs.Common.{◌≡◌, refl, sym, ap, ◌∙◌, ℕ, zero, suc, ◌+◌, ◌*◌, ◌<◌, ◌≤◌, Option, Some, None, true, false, is_some, length, le_refl, arith}
use Rattle.code_table.specs.Node.{Node, and_child, block_node, cases_parts, expr_node, no_parts, part_count, parts_in, pick, stmt_node}
use Rattle.js_core.specs.Tree as tree
use Rattle.js_core.specs.Tree.{no_cases, no_expr, one_expr, switch, then_case}
use Rattle.page_frames.specs.Parts.{drop_cases, later_cases}
use Rattle.page_frames.specs.RestLoops.{body_place, test_place}
use Rattle.page_frames.specs.Weight.{cost, costs, drop_parts, inside_of, others_from, these_from, weigh, weigh_case}
use Rattle.step_stmt.specs.Cases.{count_cases, weigh_tests, weigh_through}

abbrev pub twice : ℕ → ℕ
twice zero = zero
twice (suc i) = suc (suc (twice i))

pub twice_is : (i : ℕ) → 2 * i ≡ twice i
twice_is zero = refl
twice_is (suc i) = omega (arith, twice_is i)

-- ---- which parts they are

abbrev pub test_node : tree.Cases → Option Node
test_node no_cases = None
test_node (then_case no_expr ss cs) = None
test_node (then_case (one_expr e) ss cs) = Some (expr_node e)

abbrev pub body_node : tree.Cases → Option Node
body_node no_cases = None
body_node (then_case e ss cs) = Some (block_node ss)

test_pick : (cs : tree.Cases) (i : ℕ) → pick (parts_in (cases_parts cs)) (twice i) ≡ test_node (drop_cases cs i)
test_pick no_cases zero = refl
test_pick no_cases (suc i) = test_pick no_cases i
test_pick (then_case no_expr ss cs) zero = refl
test_pick (then_case (one_expr e) ss cs) zero = refl
test_pick (then_case no_expr ss cs) (suc i) = test_pick cs i
test_pick (then_case (one_expr e) ss cs) (suc i) = test_pick cs i

body_pick : (cs : tree.Cases) (i : ℕ) → pick (parts_in (cases_parts cs)) (suc (twice i)) ≡ body_node (drop_cases cs i)
body_pick no_cases zero = refl
body_pick no_cases (suc i) = body_pick no_cases i
body_pick (then_case no_expr ss cs) zero = refl
body_pick (then_case (one_expr e) ss cs) zero = refl
body_pick (then_case no_expr ss cs) (suc i) = body_pick cs i
body_pick (then_case (one_expr e) ss cs) (suc i) = body_pick cs i

pub test_part : (e : tree.Expr) (cs : tree.Cases) (i : ℕ) → and_child (Some (stmt_node (switch e cs))) (test_place i) ≡ test_node (drop_cases cs i)
test_part e cs i = ap (pick (parts_in (cases_parts cs))) (twice_is i) ∙ test_pick cs i

pub body_part : (e : tree.Expr) (cs : tree.Cases) (i : ℕ) → and_child (Some (stmt_node (switch e cs))) (body_place i) ≡ body_node (drop_cases cs i)
body_part e cs i = ap (λ k. pick (parts_in (cases_parts cs)) (suc k)) (twice_is i) ∙ body_pick cs i

-- two parts for each case, after the value
cases_length : (cs : tree.Cases) → length (parts_in (cases_parts cs)) ≡ twice (count_cases cs)
cases_length no_cases = refl
cases_length (then_case no_expr ss cs) = ap (λ k. suc (suc k)) (cases_length cs)
cases_length (then_case (one_expr e) ss cs) = ap (λ k. suc (suc k)) (cases_length cs)

pub switch_length : (e : tree.Expr) (cs : tree.Cases) → part_count (Some (stmt_node (switch e cs))) ≡ suc (2 * count_cases cs)
switch_length e cs = ap suc (cases_length cs ∙ sym (twice_is (count_cases cs)))

-- ---- the cases from an index on

pub next_cases : (cs : tree.Cases) (i : ℕ) → drop_cases cs (suc i) ≡ later_cases (drop_cases cs i)
next_cases cs zero = refl
next_cases cs (suc i) = next_cases (later_cases cs) i

pub case_there : (cs : tree.Cases) (i : ℕ) → i < count_cases cs → is_some (body_node (drop_cases cs i)) ≡ true
case_there no_cases i h = absurd (omega (arith, h))
case_there (then_case e ss cs) zero h = refl
case_there (then_case e ss cs) (suc i) h = case_there cs i (omega (arith, h))

pub cases_past : (cs : tree.Cases) (i : ℕ) → count_cases cs ≤ i → drop_cases cs i ≡ no_cases
cases_past no_cases zero h = refl
cases_past no_cases (suc i) h = cases_past no_cases i (omega arith)
cases_past (then_case e ss cs) zero h = absurd (omega (arith, h))
cases_past (then_case e ss cs) (suc i) h = cases_past cs i (omega (arith, h))

-- ---- what they cost

abbrev pub tests_cost : tree.Cases → ℕ
tests_cost cs = these_from (cases_parts cs)

abbrev pub bodies_cost : tree.Cases → ℕ
bodies_cost cs = others_from (cases_parts cs)

drop_none : (k : ℕ) → drop_parts no_parts k ≡ no_parts
drop_none zero = refl
drop_none (suc k) = refl

tests_dropped : (cs : tree.Cases) (i : ℕ) → these_from (drop_parts (cases_parts cs) (twice i)) ≡ tests_cost (drop_cases cs i)
tests_dropped cs zero = refl
tests_dropped no_cases (suc i) = ap these_from (sym (drop_none (twice i))) ∙ tests_dropped no_cases i
tests_dropped (then_case no_expr ss cs) (suc i) = tests_dropped cs i
tests_dropped (then_case (one_expr e) ss cs) (suc i) = tests_dropped cs i

bodies_dropped : (cs : tree.Cases) (i : ℕ) → these_from (drop_parts (cases_parts cs) (suc (twice i))) ≡ bodies_cost (drop_cases cs i)
bodies_dropped no_cases zero = refl
bodies_dropped no_cases (suc i) = bodies_dropped no_cases i
bodies_dropped (then_case no_expr ss cs) zero = refl
bodies_dropped (then_case (one_expr e) ss cs) zero = refl
bodies_dropped (then_case no_expr ss cs) (suc i) = bodies_dropped cs i
bodies_dropped (then_case (one_expr e) ss cs) (suc i) = bodies_dropped cs i

tests_from : (e : tree.Expr) (cs : tree.Cases) (i k : ℕ) → k ≡ suc (twice i) → these_from (drop_parts (inside_of (Some (stmt_node (switch e cs)))) k) ≡ tests_cost (drop_cases cs i)
tests_from e cs i k h = ap (λ x. these_from (drop_parts (inside_of (Some (stmt_node (switch e cs)))) x)) h ∙ tests_dropped cs i

bodies_from : (e : tree.Expr) (cs : tree.Cases) (i k : ℕ) → k ≡ suc (suc (twice i)) → these_from (drop_parts (inside_of (Some (stmt_node (switch e cs)))) k) ≡ bodies_cost (drop_cases cs i)
bodies_from e cs i k h = ap (λ x. these_from (drop_parts (inside_of (Some (stmt_node (switch e cs)))) x)) h ∙ bodies_dropped cs i

pub weight_of_tests : (e : tree.Expr) (cs : tree.Cases) (i : ℕ) → weigh_tests (Some (stmt_node (switch e cs))) i ≡ 4 + tests_cost (drop_cases cs i) + bodies_cost cs
weight_of_tests e cs i = omega (arith, tests_from e cs i (test_place i) (ap suc (twice_is i)), bodies_from e cs 0 2 refl)

pub weight_of_through : (e : tree.Expr) (cs : tree.Cases) (i : ℕ) → weigh_through (Some (stmt_node (switch e cs))) i ≡ 4 + bodies_cost (drop_cases cs i)
weight_of_through e cs i = omega (arith, bodies_from e cs i (body_place i) (ap (λ k. suc (suc k)) (twice_is i)))

pub weight_of_test : (e : tree.Expr) (cs : tree.Cases) (i : ℕ) → weigh_case (Some (stmt_node (switch e cs))) i true ≡ 4 + tests_cost (drop_cases cs (suc i)) + bodies_cost cs
weight_of_test e cs i =
    let h : 3 + 2 * i ≡ suc (suc (suc (twice i))) = omega (arith, twice_is i) in
    omega (arith, tests_from e cs (suc i) (3 + 2 * i) h, bodies_from e cs 0 2 refl)

pub weight_of_body : (e : tree.Expr) (cs : tree.Cases) (i : ℕ) → weigh_case (Some (stmt_node (switch e cs))) i false ≡ 4 + bodies_cost (drop_cases cs (suc i))
weight_of_body e cs i =
    let h : 4 + 2 * i ≡ suc (suc (suc (suc (twice i)))) = omega (arith, twice_is i) in
    omega (arith, bodies_from e cs (suc i) (4 + 2 * i) h)

-- a test, and the statements of a case, with those that come later
test_cost : (cs : tree.Cases) → is_some (test_node cs) ≡ true → 2 + cost (test_node cs) + tests_cost (later_cases cs) ≤ tests_cost cs
test_cost no_cases h = cc
test_cost (then_case no_expr ss cs) h = cc
test_cost (then_case (one_expr e) ss cs) h = omega arith

body_cost : (cs : tree.Cases) → is_some (body_node cs) ≡ true → 2 + cost (body_node cs) + bodies_cost (later_cases cs) ≤ bodies_cost cs
body_cost no_cases h = cc
body_cost (then_case no_expr ss cs) h = omega arith
body_cost (then_case (one_expr e) ss cs) h = omega arith

fewer_tests : (cs : tree.Cases) → tests_cost (later_cases cs) ≤ tests_cost cs
fewer_tests no_cases = le_refl 0
fewer_tests (then_case no_expr ss cs) = le_refl (tests_cost cs)
fewer_tests (then_case (one_expr e) ss cs) = omega arith

fewer_bodies : (cs : tree.Cases) → bodies_cost (later_cases cs) ≤ bodies_cost cs
fewer_bodies no_cases = le_refl 0
fewer_bodies (then_case no_expr ss cs) = omega arith
fewer_bodies (then_case (one_expr e) ss cs) = omega arith

all_tests : (cs : tree.Cases) (j : ℕ) → tests_cost (drop_cases cs j) ≤ tests_cost cs
all_tests cs zero = le_refl (tests_cost cs)
all_tests cs (suc j) = omega (arith, all_tests (later_cases cs) j, fewer_tests cs)

all_bodies : (cs : tree.Cases) (j : ℕ) → bodies_cost (drop_cases cs j) ≤ bodies_cost cs
all_bodies cs zero = le_refl (bodies_cost cs)
all_bodies cs (suc j) = omega (arith, all_bodies (later_cases cs) j, fewer_bodies cs)

later_tests : (cs : tree.Cases) (i j : ℕ) → i ≤ j → tests_cost (drop_cases cs j) ≤ tests_cost (drop_cases cs i)
later_tests cs zero j h = all_tests cs j
later_tests cs (suc i) zero h = absurd (omega (arith, h))
later_tests cs (suc i) (suc j) h = later_tests (later_cases cs) i j (omega (arith, h))

-- every part is that of a test, or the statements of a case
parts_cost : (cs : tree.Cases) → tests_cost cs + bodies_cost cs ≡ costs (cases_parts cs)
parts_cost no_cases = refl
parts_cost (then_case no_expr ss cs) = omega (arith, parts_cost cs)
parts_cost (then_case (one_expr e) ss cs) = omega (arith, parts_cost cs)

-- ---- who pays for what

-- a switch that has its value, for all its tests
pub switch_pays : (e : tree.Expr) (cs : tree.Cases) → weigh_tests (Some (stmt_node (switch e cs))) 0 ≤ weigh (Some (stmt_node (switch e cs))) 1
switch_pays e cs = omega (arith, weight_of_tests e cs 0, parts_cost cs)

-- the tests from an index on, for a later one
pub test_pays : (e : tree.Expr) (cs : tree.Cases) (i j : ℕ) → i ≤ j → is_some (test_node (drop_cases cs j)) ≡ true
    → suc (weigh_case (Some (stmt_node (switch e cs))) j true) + suc (cost (test_node (drop_cases cs j))) ≤ weigh_tests (Some (stmt_node (switch e cs))) i
test_pays e cs i j h t =
    omega (arith, weight_of_test e cs j, weight_of_tests e cs i, test_cost (drop_cases cs j) t, later_tests cs i j h, ap tests_cost (next_cases cs j))

pub test_paid : (e : tree.Expr) (cs : tree.Cases) (i j : ℕ) → i ≤ j → is_some (and_child (Some (stmt_node (switch e cs))) (test_place j)) ≡ true
    → suc (weigh_case (Some (stmt_node (switch e cs))) j true) + suc (cost (and_child (Some (stmt_node (switch e cs))) (test_place j))) ≤ weigh_tests (Some (stmt_node (switch e cs))) i
test_paid e cs i j h t = omega (arith, ap cost (test_part e cs j), test_pays e cs i j h (ap is_some (sym (test_part e cs j)) ∙ t))

-- and for the statements of every case
pub default_pays : (e : tree.Expr) (cs : tree.Cases) (i j : ℕ) → weigh_through (Some (stmt_node (switch e cs))) j ≤ weigh_tests (Some (stmt_node (switch e cs))) i
default_pays e cs i j = omega (arith, weight_of_through e cs j, weight_of_tests e cs i, all_bodies cs j)

pub same_pays : (e : tree.Expr) (cs : tree.Cases) (i : ℕ) → weigh_through (Some (stmt_node (switch e cs))) i ≤ weigh_case (Some (stmt_node (switch e cs))) i true
same_pays e cs i = omega (arith, weight_of_through e cs i, weight_of_test e cs i, all_bodies cs i)

pub other_pays : (e : tree.Expr) (cs : tree.Cases) (i : ℕ) → weigh_tests (Some (stmt_node (switch e cs))) (suc i) ≤ weigh_case (Some (stmt_node (switch e cs))) i true
other_pays e cs i = omega (arith, weight_of_tests e cs (suc i), weight_of_test e cs i)

-- past the last case there is no test
pub past_pays : (e : tree.Expr) (cs : tree.Cases) (i : ℕ) → weigh_tests (Some (stmt_node (switch e cs))) (count_cases cs) ≤ weigh_case (Some (stmt_node (switch e cs))) i true
past_pays e cs i =
    omega (arith, weight_of_tests e cs (count_cases cs), weight_of_test e cs i, ap tests_cost (cases_past cs (count_cases cs) (le_refl (count_cases cs))))

pub body_pays : (e : tree.Expr) (cs : tree.Cases) (i : ℕ) → is_some (body_node (drop_cases cs i)) ≡ true
    → suc (weigh_case (Some (stmt_node (switch e cs))) i false) + suc (cost (body_node (drop_cases cs i))) ≤ weigh_through (Some (stmt_node (switch e cs))) i
body_pays e cs i t = omega (arith, weight_of_through e cs i, weight_of_body e cs i, body_cost (drop_cases cs i) t, ap bodies_cost (next_cases cs i))

pub body_paid : (e : tree.Expr) (cs : tree.Cases) (i : ℕ) → i < count_cases cs
    → suc (weigh_case (Some (stmt_node (switch e cs))) i false) + suc (cost (and_child (Some (stmt_node (switch e cs))) (body_place i))) ≤ weigh_through (Some (stmt_node (switch e cs))) i
body_paid e cs i l = omega (arith, ap cost (body_part e cs i), body_pays e cs i (case_there cs i l))

pub next_pays : (e : tree.Expr) (cs : tree.Cases) (i : ℕ) → weigh_through (Some (stmt_node (switch e cs))) (suc i) ≤ weigh_case (Some (stmt_node (switch e cs))) i false
next_pays e cs i = omega (arith, weight_of_through e cs (suc i), weight_of_body e cs i)
