use Rattle.std.proofs.Common.{drop, Result}
use Rattle.page_meaning.specs.ObjectRows as spec
use Rattle.page_state.specs.Does.{Gives}
use Rattle.new_lists.specs.Lists.{for_object}
use Rattle.page_meaning.specs.Store.{Store}
use Rattle.js_core.specs.declared.memory.Failure.{Failure}
use Rattle.js_values.specs.declared.value.Value.{Value}
use Rattle.builtin_object.proofs.objects.define_each.Given as goal

-- what the rest comes to is what all come to
abbrev pub invariant-loop-named : goal.invariant-loop-named
invariant-loop-named l =
    (t : Store) (r : Result (Unit {0}) (Failure Value)) → Gives (for_object l.at) (λ _. spec.define_each l.at (drop l.named-index l.changes)) l.state t r
    → Gives (for_object l.at) (λ _. spec.define_each l.at l.changes) l.initial.state t r
