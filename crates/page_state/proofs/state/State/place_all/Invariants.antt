use Rattle.std.proofs.Common.{length, Result}
use Rattle.page_meaning.specs.Functions.{global_variables}
use Rattle.page_meaning.specs.Store.{Store}
use Rattle.js_core.specs.declared.memory.Failure.{Failure}
use Rattle.js_values.specs.declared.value.Value.{Value}
use Rattle.page_state.specs.Does.{Gives, no_value}
use Rattle.page_state.proofs.state.State.place_all.Given as goal

-- what the rest comes to is what all come to
abbrev pub invariant-loop-rest : goal.invariant-loop-rest
invariant-loop-rest l =
    (t : Store) (r : Result (Unit {0}) (Failure Value)) → Gives no_value (λ _. global_variables l.rest) l.self t r → Gives no_value (λ _. global_variables l.names) l.initial.self t r

abbrev pub decreases-loop-rest : goal.decreases-loop-rest
decreases-loop-rest l = length l.rest
