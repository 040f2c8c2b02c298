use Rattle.std.proofs.Common.{drop, Result}
use Rattle.page_meaning.specs.ObjectRows as spec
use Rattle.page_state.specs.Does.{Gives, no_value}
use Rattle.page_meaning.specs.Store.{Store}
use Rattle.js_core.specs.declared.memory.Failure.{Failure}
use Rattle.js_values.specs.declared.value.Value.{Value}
use Rattle.builtin_object.proofs.objects.change_each.Given as goal

-- what the rest comes to is what all come to
abbrev pub invariant-loop-name : goal.invariant-loop-name
invariant-loop-name l =
    (t : Store) (r : Result (Unit {0}) (Failure Value)) → Gives no_value (λ _. spec.change_each l.at l.change (drop l.name-index l.names)) l.state t r
    → Gives no_value (λ _. spec.change_each l.at l.change l.names) l.initial.state t r
