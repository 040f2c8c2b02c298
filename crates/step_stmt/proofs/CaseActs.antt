-- What the cases of a switch do, one after another.
use Rattle.std.proofs.Common.{◌≡◌, ◌≢◌, refl, sym, ap, ◌∙◌, ℕ, zero, suc, ◌<◌, ◌≤◌, Option, Some, None, true, false, is_some, le_refl, arith}
use Rattle.code_table.specs.Kind.{kind_of}
use Rattle.code_table.specs.Node.{Node, and_child, block_node, declarator_node, expr_node, stmt_node}
use Rattle.code_table.specs.declared.kind.Kind.TheVariants.{Switch}
use Rattle.js_core.specs.Tree as tree
use Rattle.js_core.specs.Tree.{no_cases, no_expr, one_expr, switch, then_case}
use Rattle.js_values.specs.declared.value.Value.{Value}
use Rattle.page_meaning.specs.Act.{Act, Calls, also, choose, done}
use Rattle.page_meaning.specs.Names.{Here}
use Rattle.page_meaning.specs.Statements.{exec_cases, exec_through}
use Rattle.whole_ops.specs.Equality.{same_of}
use Rattle.page_frames.specs.Parts.{drop_cases, later_cases, mean_node, part}
use Rattle.page_frames.specs.RestLoops.{body_place, cases_from, from_default, or_default, rest_test, test_place, through_from}
use Rattle.step_stmt.specs.Cases.{count_cases, default_of}
use Rattle.step_stmt.proofs.CaseParts.{body_node, body_part, case_there, cases_past, next_cases, test_node, test_part}

-- ---- the default

-- the last of these cases stands before what the others give
default_last : (calls : Calls) (here : Here) (cs : tree.Cases) (k : ℕ) (o : Act) → from_default calls here cs (suc k) o ≡ or_default calls here (drop_cases cs k) (from_default calls here cs k o)
default_last calls here cs zero o = refl
default_last calls here cs (suc k) o = default_last calls here (later_cases cs) k (or_default calls here cs o)

-- a case with a test is no default
no_default : (calls : Calls) (here : Here) (cs : tree.Cases) (o : Act) → is_some (test_node cs) ≡ true → or_default calls here cs o ≡ o
no_default calls here no_cases o h = cc
no_default calls here (then_case no_expr ss cs) o h = cc
no_default calls here (then_case (one_expr e) ss cs) o h = refl

is_default : (calls : Calls) (here : Here) (cs : tree.Cases) (o : Act) → is_some (test_node cs) ≡ false → is_some (body_node cs) ≡ true → or_default calls here cs o ≡ exec_through calls here cs
is_default calls here no_cases o h g = cc
is_default calls here (then_case no_expr ss cs) o h g = refl
is_default calls here (then_case (one_expr e) ss cs) o h g = cc

default_past : (calls : Calls) (here : Here) (cs : tree.Cases) (k : ℕ) (o : Act) → count_cases cs ≤ k → from_default calls here cs k o ≡ from_default calls here cs (count_cases cs) o
default_past calls here no_cases zero o h = refl
default_past calls here no_cases (suc k) o h = default_past calls here no_cases k o (omega arith)
default_past calls here (then_case e ss cs) zero o h = absurd (omega (arith, h))
default_past calls here (then_case e ss cs) (suc k) o h = default_past calls here cs k (or_default calls here (then_case e ss cs) o) (omega (arith, h))

-- ---- cases

-- the case that comes next has a test
with_test : (calls : Calls) (here : Here) (cs : tree.Cases) (v : Value) (o : Act) → is_some (test_node cs) ≡ true
    → exec_cases calls here cs v o ≡ also (mean_node calls here (test_node cs)) (λ w. choose (same_of v w) (exec_through calls here cs) (exec_cases calls here (later_cases cs) v o))
with_test calls here no_cases v o h = cc
with_test calls here (then_case no_expr ss cs) v o h = cc
with_test calls here (then_case (one_expr e) ss cs) v o h = refl

without_test : (calls : Calls) (here : Here) (cs : tree.Cases) (v : Value) (o : Act) → is_some (test_node cs) ≡ false
    → exec_cases calls here cs v o ≡ exec_cases calls here (later_cases cs) v (or_default calls here cs o)
without_test calls here no_cases v o h = refl
without_test calls here (then_case no_expr ss cs) v o h = refl
without_test calls here (then_case (one_expr e) ss cs) v o h = cc

through_next : (calls : Calls) (here : Here) (cs : tree.Cases) → is_some (body_node cs) ≡ true → exec_through calls here cs ≡ also (mean_node calls here (body_node cs)) (λ _. exec_through calls here (later_cases cs))
through_next calls here no_cases h = cc
through_next calls here (then_case e ss cs) h = refl

-- ---- by their index

abbrev Switched : tree.Expr → tree.Cases → Option Node
Switched e cs = Some (stmt_node (switch e cs))

pub test_runs : (calls : Calls) (here : Here) (e : tree.Expr) (cs : tree.Cases) (v : Value) (i : ℕ) → is_some (and_child (Switched e cs) (test_place i)) ≡ true
    → cases_from calls here (Switched e cs) v i ≡ also (part calls here (Switched e cs) (test_place i)) (rest_test calls here (Switched e cs) v i)
test_runs calls here e cs v i h =
    let t : is_some (test_node (drop_cases cs i)) ≡ true = ap is_some (sym (test_part e cs i)) ∙ h in
    let o : Act = from_default calls here cs i done in
    let same : from_default calls here cs (suc i) done ≡ o = default_last calls here cs i done ∙ no_default calls here (drop_cases cs i) o t in
    with_test calls here (drop_cases cs i) v o t
    ∙ ap (λ n. also (mean_node calls here n) (λ w. choose (same_of v w) (exec_through calls here (drop_cases cs i)) (exec_cases calls here (later_cases (drop_cases cs i)) v o))) (sym (test_part e cs i))
    ∙ ap (λ ds. also (part calls here (Switched e cs) (test_place i)) (λ w. choose (same_of v w) (exec_through calls here (drop_cases cs i)) (exec_cases calls here ds v o))) (sym (next_cases cs i))
    ∙ ap (λ (a : Act). also (part calls here (Switched e cs) (test_place i)) (λ w. choose (same_of v w) (exec_through calls here (drop_cases cs i)) (exec_cases calls here (drop_cases cs (suc i)) v a))) (sym same)

pub test_skipped : (calls : Calls) (here : Here) (e : tree.Expr) (cs : tree.Cases) (v : Value) (i : ℕ) → is_some (and_child (Switched e cs) (test_place i)) ≡ false
    → cases_from calls here (Switched e cs) v i ≡ cases_from calls here (Switched e cs) v (suc i)
test_skipped calls here e cs v i h =
    let t : is_some (test_node (drop_cases cs i)) ≡ false = ap is_some (sym (test_part e cs i)) ∙ h in
    let o : Act = from_default calls here cs i done in
    without_test calls here (drop_cases cs i) v o t
    ∙ ap (λ ds. exec_cases calls here ds v (or_default calls here (drop_cases cs i) o)) (sym (next_cases cs i))
    ∙ ap (λ (a : Act). exec_cases calls here (drop_cases cs (suc i)) v a) (sym (default_last calls here cs i done))

pub tests_end : (calls : Calls) (here : Here) (e : tree.Expr) (cs : tree.Cases) (v : Value) (i : ℕ) → count_cases cs ≤ i
    → cases_from calls here (Switched e cs) v i ≡ default_of calls here (Switched e cs) (count_cases cs)
tests_end calls here e cs v i h =
    ap (λ ds. exec_cases calls here ds v (from_default calls here cs i done)) (cases_past cs i h) ∙ default_past calls here cs i done h

-- past the last case, the tests are those at the end
pub tests_past : (calls : Calls) (here : Here) (e : tree.Expr) (cs : tree.Cases) (v : Value) (i : ℕ) → count_cases cs ≤ i
    → cases_from calls here (Switched e cs) v (suc i) ≡ cases_from calls here (Switched e cs) v (count_cases cs)
tests_past calls here e cs v i h =
    tests_end calls here e cs v (suc i) (omega (arith, h)) ∙ sym (tests_end calls here e cs v (count_cases cs) (le_refl (count_cases cs)))

-- a case with a test changes no default
pub default_passed : (calls : Calls) (here : Here) (e : tree.Expr) (cs : tree.Cases) (i : ℕ) → is_some (and_child (Switched e cs) (test_place i)) ≡ true
    → default_of calls here (Switched e cs) (suc i) ≡ default_of calls here (Switched e cs) i
default_passed calls here e cs i h =
    default_last calls here cs i done ∙ no_default calls here (drop_cases cs i) (from_default calls here cs i done) (ap is_some (sym (test_part e cs i)) ∙ h)

pub default_found : (calls : Calls) (here : Here) (e : tree.Expr) (cs : tree.Cases) (i : ℕ) → is_some (and_child (Switched e cs) (test_place i)) ≡ false → i < count_cases cs
    → default_of calls here (Switched e cs) (suc i) ≡ through_from calls here (Switched e cs) i
default_found calls here e cs i h l =
    default_last calls here cs i done ∙ is_default calls here (drop_cases cs i) (from_default calls here cs i done) (ap is_some (sym (test_part e cs i)) ∙ h) (case_there cs i l)

pub bodies_run : (calls : Calls) (here : Here) (e : tree.Expr) (cs : tree.Cases) (i : ℕ) → i < count_cases cs
    → through_from calls here (Switched e cs) i ≡ also (part calls here (Switched e cs) (body_place i)) (λ _. through_from calls here (Switched e cs) (suc i))
bodies_run calls here e cs i l =
    through_next calls here (drop_cases cs i) (case_there cs i l)
    ∙ ap (λ n. also (mean_node calls here n) (λ _. exec_through calls here (later_cases (drop_cases cs i)))) (sym (body_part e cs i))
    ∙ ap (λ ds. also (part calls here (Switched e cs) (body_place i)) (λ _. exec_through calls here ds)) (sym (next_cases cs i))

pub bodies_end : (calls : Calls) (here : Here) (e : tree.Expr) (cs : tree.Cases) (i : ℕ) → count_cases cs ≤ i → through_from calls here (Switched e cs) i ≡ done
bodies_end calls here e cs i h = ap (exec_through calls here) (cases_past cs i h)

-- ---- a node that is no switch

pub no_tests : (calls : Calls) (here : Here) (at : Option Node) (v : Value) (i : ℕ) → kind_of at ≢ Switch → cases_from calls here at v i ≡ done
no_tests calls here None v i h = refl
no_tests calls here (Some (expr_node e)) v i h = refl
no_tests calls here (Some (stmt_node (switch e cs))) v i h = absurd (h refl)
no_tests calls here (Some (stmt_node s)) v i h = refl
no_tests calls here (Some (block_node ss)) v i h = refl
no_tests calls here (Some (declarator_node x e)) v i h = refl

pub no_bodies : (calls : Calls) (here : Here) (at : Option Node) (i : ℕ) → kind_of at ≢ Switch → through_from calls here at i ≡ done
no_bodies calls here None i h = refl
no_bodies calls here (Some (expr_node e)) i h = refl
no_bodies calls here (Some (stmt_node (switch e cs))) i h = absurd (h refl)
no_bodies calls here (Some (stmt_node s)) i h = refl
no_bodies calls here (Some (block_node ss)) i h = refl
no_bodies calls here (Some (declarator_node x e)) i h = refl
