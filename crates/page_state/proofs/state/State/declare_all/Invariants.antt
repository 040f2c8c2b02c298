use Rattle.std.proofs.Common.{length, map, Result}
use Rattle.code_table.specs.Table.{declared_as}
use Rattle.page_meaning.specs.Functions.{declare_globals}
use Rattle.page_meaning.specs.Store.{Store}
use Rattle.js_core.specs.declared.memory.Failure.{Failure}
use Rattle.js_values.specs.declared.value.Value.{Value}
use Rattle.page_state.specs.Does.{Gives, no_value}
use Rattle.page_state.proofs.state.State.declare_all.Given as goal

-- what the rest comes to is what all come to
abbrev pub invariant-loop-rest : goal.invariant-loop-rest
invariant-loop-rest l =
    (t : Store) (r : Result (Unit {0}) (Failure Value)) → Gives no_value (λ _. declare_globals (map declared_as l.rest)) l.self t r
    → Gives no_value (λ _. declare_globals (map declared_as l.functions)) l.initial.self t r

abbrev pub decreases-loop-rest : goal.decreases-loop-rest
decreases-loop-rest l = length l.rest
