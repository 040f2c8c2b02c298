use Rattle.std.proofs.Common.{ℕ, ◌+◌, Result}
use Rattle.page_meaning.specs.Elements as element
use Rattle.page_meaning.specs.ListRows as spec
use Rattle.page_meaning.specs.Store.{Store}
use Rattle.page_state.specs.declared.turns.Halt.{Halt}
use Rattle.page_state.specs.Does.{no_value}
use Rattle.page_state.specs.Turns.{Ends}
use Rattle.builtin_list.proofs.copying.delete_last.Given as goal

-- what the rest comes to is what all come to
abbrev pub invariant-loop-left : goal.invariant-loop-left
invariant-loop-left l =
    (t : Store) (j : ℕ) (r : Result (Unit {0}) Halt) → Ends no_value (λ _. element.turns_down (λ i. element.delete_element l.list (l.index + i)) l.left) l.state l.steps t j r
    → Ends no_value (λ _. spec.delete_last l.list l.index l.count) l.initial.state l.initial.steps t j r

abbrev pub decreases-loop-left : goal.decreases-loop-left
decreases-loop-left l = l.left
