use Rattle.std.proofs.Common.{drop, Result}
use Rattle.page_meaning.specs.ValueRows.{list_values}
use Rattle.page_state.specs.Does.{Gives}
use Rattle.new_lists.specs.Lists.{for_object}
use Rattle.page_meaning.specs.Store.{Store}
use Rattle.js_core.specs.declared.memory.Failure.{Failure}
use Rattle.js_values.specs.declared.value.Value.{Value}
use Rattle.new_lists.proofs.lists.fill_values.Given as goal

-- what the rest comes to is what all come to
abbrev pub invariant-loop-index : goal.invariant-loop-index
invariant-loop-index l =
    (t : Store) (r : Result (Unit {0}) (Failure Value)) → Gives (for_object l.list) (λ _. list_values l.list l.index (drop l.index l.values)) l.state t r
    → Gives (for_object l.list) (λ _. list_values l.list 0 l.values) l.initial.state t r
