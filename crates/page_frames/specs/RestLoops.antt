-- What loops and switches that wait for a part have yet to do (sections 12.6 and 12.11).
use Rattle.std.specs.Prelude.{ℕ, zero, suc, ◌*◌, Bool, true, false, drop, Option, Some}
use Rattle.code_table.specs.Node.{Node, stmt_node, and_child}
use Rattle.js_core.specs.Tree as tree
use Rattle.js_core.specs.Tree.{switch, no_expr, then_case}
use Rattle.js_values.specs.declared.value.Value.{Value}
use Rattle.js_values.specs.declared.value.Value.TheVariants.{Bool as Truth}
use Rattle.page_meaning.specs.declared.signal.Signal.{Signal}
use Rattle.page_meaning.specs.Act.{Act, Calls, ret, bind, done, on_value, also, asking, choose}
use Rattle.page_meaning.specs.Loops.{Listed, turn_if, turned, loop, listed_of, each_name}
use Rattle.page_meaning.specs.Names.{Here}
use Rattle.page_meaning.specs.Statements.{exec_cases, exec_through, unbroken}
use Rattle.whole_ops.specs.Equality.{same_of}
use Rattle.page_frames.specs.Parts.{part, part_or, mean_target, drop_cases}

-- ---- loops with a test

abbrev pub while_loop : Calls → Here → Option Node → Act
while_loop calls here at = loop (part calls here at 0) (part calls here at 1) done

-- after its test, or after its body
abbrev pub rest_while : Calls → Here → Option Node → ℕ → Signal → Act
rest_while calls here at zero s = on_value (turn_if (part calls here at 1) (also done (λ _. while_loop calls here at))) s
rest_while calls here at (suc k) s = turned (also done (λ _. while_loop calls here at)) s

abbrev pub do_loop : Calls → Here → Option Node → Act
do_loop calls here at = loop (part calls here at 1) (part calls here at 0) done

-- after its body, or after its test
abbrev pub rest_do : Calls → Here → Option Node → ℕ → Signal → Act
rest_do calls here at zero s = turned (do_loop calls here at) s
rest_do calls here at (suc k) s = on_value (turn_if (part calls here at 0) (also done (λ _. do_loop calls here at))) s

-- a test that is absent is true
abbrev pub for_loop : Calls → Here → Option Node → Act
for_loop calls here at = loop (part_or calls here at 1 (Truth true)) (part calls here at 3) (part calls here at 2)

-- what stands last in the header, and the loop
abbrev pub for_again : Calls → Here → Option Node → Act
for_again calls here at = also (part calls here at 2) (λ _. for_loop calls here at)

-- after what stands first in the header, the test, what stands last, and the body
abbrev pub rest_for : Calls → Here → Option Node → ℕ → Signal → Act
rest_for calls here at zero s = on_value (λ _. for_loop calls here at) s
rest_for calls here at (suc zero) s = on_value (turn_if (part calls here at 3) (for_again calls here at)) s
rest_for calls here at (suc (suc zero)) s = on_value (λ _. for_loop calls here at) s
rest_for calls here at (suc (suc (suc k))) s = turned (for_again calls here at) s

-- ---- for-in

-- a turn for each of these names
abbrev pub each_of : Calls → Here → Option Node → Listed → Act
each_of calls here at names = each_name (mean_target calls here (and_child at 0)) (part calls here at 2) names

-- the names of the object are listed
abbrev pub rest_for_in : Calls → Here → Option Node → Value → Act
rest_for_in calls here at v = asking (λ s. listed_of s v) (each_of calls here at)

-- the target has taken the name of this index, or its body has ended
abbrev pub rest_each : Calls → Here → Option Node → Listed → ℕ → Bool → Signal → Act
rest_each calls here at names i true s = on_value (λ _. bind (part calls here at 2) (turned (each_of calls here at (drop (suc i) names)))) s
rest_each calls here at names i false s = turned (each_of calls here at (drop (suc i) names)) s

-- ---- switch

-- the number of the test of the case of this index, and of its statements
abbrev pub test_place : ℕ → ℕ
test_place i = suc (2 * i)

abbrev pub body_place : ℕ → ℕ
body_place i = suc (suc (2 * i))

-- what runs where no case is the same: these cases from a default on, or else what was known
abbrev pub or_default : Calls → Here → tree.Cases → Act → Act
or_default calls here (then_case no_expr ss cs) otherwise = exec_through calls here (then_case no_expr ss cs)
or_default calls here cs otherwise = otherwise

-- from the default among the first so many cases, the last one
abbrev pub from_default : Calls → Here → tree.Cases → ℕ → Act → Act
from_default calls here cs zero otherwise = otherwise
from_default calls here cs (suc i) otherwise = from_default calls here (drop_cases cs 1) i (or_default calls here cs otherwise)

-- the tests from the case of this index on
abbrev pub cases_from : Calls → Here → Option Node → Value → ℕ → Act
cases_from calls here (Some (stmt_node (switch e cs))) v i = exec_cases calls here (drop_cases cs i) v (from_default calls here cs i done)
cases_from calls here at v i = done

-- the statements of the cases from this index on
abbrev pub through_from : Calls → Here → Option Node → ℕ → Act
through_from calls here (Some (stmt_node (switch e cs))) i = exec_through calls here (drop_cases cs i)
through_from calls here at i = done

-- `break` ends it
abbrev pub till_break : Act → Act
till_break m = bind m (λ s. ret (unbroken s))

abbrev pub rest_switch : Calls → Here → Option Node → Value → Act
rest_switch calls here at v = till_break (cases_from calls here at v 0)

-- the value of the test of the case of this index
abbrev pub rest_test : Calls → Here → Option Node → Value → ℕ → Value → Act
rest_test calls here at v i w = choose (same_of v w) (through_from calls here at i) (cases_from calls here at v (suc i))

-- a test, or the statements of a case, have ended
abbrev pub rest_case : Calls → Here → Option Node → Value → ℕ → Bool → Signal → Act
rest_case calls here at v i true s = till_break (on_value (rest_test calls here at v i) s)
rest_case calls here at v i false s = till_break (on_value (λ _. through_from calls here at (suc i)) s)
