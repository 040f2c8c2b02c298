use Rattle.std.proofs.Common.{◌+◌, drop, Result}
use Rattle.page_meaning.specs.Elements.{put_each}
use Rattle.page_meaning.specs.Store.{Store}
use Rattle.js_core.specs.declared.memory.Failure.{Failure}
use Rattle.js_values.specs.declared.value.Value.{Value}
use Rattle.page_state.specs.Does.{Gives, no_value}
use Rattle.page_state.proofs.state.State.put_each.Given as goal

-- what the rest comes to is what all come to
abbrev pub invariant-loop-index : goal.invariant-loop-index
invariant-loop-index l =
    (t : Store) (r : Result (Unit {0}) (Failure Value)) → Gives no_value (λ _. put_each l.at (l.start + l.index) (drop l.index l.values)) l.self t r
    → Gives no_value (λ _. put_each l.at l.start l.values) l.initial.self t r
