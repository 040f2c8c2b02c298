-- The cases of a switch (section 12.11).
use Rattle.std.specs.Prelude.{◌≡◌, ℕ, suc, ◌+◌, ◌≤◌, ◌<◌, true, Option, Some, None, is_some}
use Rattle.code_table.specs.Node.{Node, stmt_node, and_child}
use Rattle.js_core.specs.Tree as tree
use Rattle.js_core.specs.Tree.{switch, no_cases, then_case}
use Rattle.js_values.specs.declared.value.Value.{Value}
use Rattle.page_meaning.specs.Act.{Act, Calls, also, done}
use Rattle.page_meaning.specs.Calls.{calls_at}
use Rattle.page_meaning.specs.Names.{Here}
use Rattle.page_meaning.specs.Store.{Store}
use Rattle.page_frames.specs.declared.meter.Meter.{Meter}
use Rattle.page_frames.specs.declared.meter.Next.{Next}
use Rattle.page_frames.specs.Parts.{part}
use Rattle.page_frames.specs.RestLoops.{body_place, cases_from, from_default, rest_test, test_place, through_from, till_break}
use Rattle.page_frames.specs.Step.{Leads}
use Rattle.page_frames.specs.Weight.{cost, drop_parts, inside_of, these_from, weigh_case}
use Rattle.page_frames.specs.Where.{Where, here_of, spot_node}

abbrev pub cases_of : Option Node → tree.Cases
cases_of (Some (stmt_node (switch e cs))) = cs
cases_of at = no_cases

abbrev pub count_cases : tree.Cases → ℕ
count_cases no_cases = 0
count_cases (then_case e ss cs) = suc (count_cases cs)

abbrev pub case_count : Option Node → ℕ
case_count at = count_cases (cases_of at)

-- what runs where no test is the same: from the default among the first so many cases
abbrev pub default_of : Calls → Here → Option Node → ℕ → Act
default_of calls here at i = from_default calls here (cases_of at) i done

-- the statements from the default of this index on, where there is one
abbrev pub default_at : Calls → Here → Option Node → Option ℕ → Act
default_at calls here at None = done
default_at calls here at (Some i) = through_from calls here at i

-- the case of index j is the first one from index i on that has a test
pub record IsNext (at : Option Node) (i j : ℕ) : Type 0 where
  pub same : (calls : Calls) (here : Here) (v : Value) → cases_from calls here at v i ≡ cases_from calls here at v j
  pub there : is_some (and_child at (test_place j)) ≡ true
  pub later : i ≤ j
  pub within : j < case_count at

-- it is there, or no case from index i on has a test
abbrev pub NextTest : Option Node → ℕ → Option ℕ → Type 0
NextTest at i (Some j) = IsNext at i j
NextTest at i None = (calls : Calls) (here : Here) (v : Value) → cases_from calls here at v i ≡ default_of calls here at (case_count at)

-- no case from index i on to index j has a test
pub record NoTest (at : Option Node) (i j : ℕ) : Type 0 where
  pub same : (calls : Calls) (here : Here) (v : Value) → cases_from calls here at v i ≡ cases_from calls here at v j
  pub later : i ≤ j
  pub within : j ≤ case_count at

-- no case from index i on is the default
pub record NoDefault (at : Option Node) (i : ℕ) : Type 0 where
  pub same : (calls : Calls) (here : Here) → default_of calls here at (case_count at) ≡ default_of calls here at i
  pub within : i ≤ case_count at

-- the tests from the case of this index on, and the statements of every case
abbrev pub weigh_tests : Option Node → ℕ → ℕ
weigh_tests at i = 4 + these_from (drop_parts (inside_of at) (test_place i)) + these_from (drop_parts (inside_of at) 2)

-- the statements of the cases from this index on
abbrev pub weigh_through : Option Node → ℕ → ℕ
weigh_through at i = 4 + these_from (drop_parts (inside_of at) (body_place i))

-- the test of a case runs, and then the switch goes on
abbrev pub Tests : Where → Value → ℕ → Store → Meter → Next → Type 0
Tests f v i w m next =
    Leads (till_break (also (part (calls_at m.depth) (here_of f) (spot_node f) (test_place i)) (rest_test (calls_at m.depth) (here_of f) (spot_node f) v i)))
    (suc (weigh_case (spot_node f) i true) + suc (cost (and_child (spot_node f) (test_place i)))) w m next w m

-- the statements of the cases from this index on run
abbrev pub GoesThrough : Where → ℕ → Store → Meter → Next → Type 0
GoesThrough f i w m next = Leads (till_break (through_from (calls_at m.depth) (here_of f) (spot_node f) i)) (weigh_through (spot_node f) i) w m next w m

-- no test was the same, of those from this index on
abbrev pub Defaults : Where → ℕ → Store → Meter → Next → Type 0
Defaults f i w m next =
    Leads (till_break (default_of (calls_at m.depth) (here_of f) (spot_node f) (case_count (spot_node f)))) (weigh_tests (spot_node f) i) w m next w m
