use Rattle.std.proofs.Common.{ℕ, Result}
use Rattle.js_values.specs.declared.value.Value.{Value}
use Rattle.page_meaning.specs.ListRows as spec
use Rattle.page_meaning.specs.Store.{Store}
use Rattle.page_state.specs.declared.turns.Halt.{Halt}
use Rattle.page_state.specs.Does.{itself}
use Rattle.page_state.specs.Turns.{Ends}
use Rattle.builtin_list.proofs.searching.find_down.Given as goal

-- what the rest comes to is what all come to
abbrev pub invariant-loop-left : goal.invariant-loop-left
invariant-loop-left l =
    (t : Store) (j : ℕ) (r : Result Value Halt) → Ends itself (λ _. spec.find_down l.list l.value l.left) l.state l.steps t j r
    → Ends itself (λ _. spec.find_down l.list l.value l.count) l.state l.initial.steps t j r

abbrev pub decreases-loop-left : goal.decreases-loop-left
decreases-loop-left l = l.left
