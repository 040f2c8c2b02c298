use Rattle.std.proofs.Common.{ℕ, ◌+◌, ◌-◌, Result}
use Rattle.page_meaning.specs.Elements as element
use Rattle.page_meaning.specs.ListRows as spec
use Rattle.page_meaning.specs.Store.{Store}
use Rattle.page_state.specs.declared.turns.Halt.{Halt}
use Rattle.page_state.specs.Does.{no_value}
use Rattle.page_state.specs.Turns.{Ends}
use Rattle.builtin_list.proofs.copying.copy_all.Given as goal

-- what the rest comes to is what all come to
abbrev pub invariant-loop-turn : goal.invariant-loop-turn
invariant-loop-turn l =
    (t : Store) (j : ℕ) (r : Result (Unit {0}) Halt) → Ends no_value (λ _. element.turns_up (λ i. spec.copy l.from (l.index + i) l.made (l.place + i)) l.turn (l.count - l.turn)) l.state
    l.steps t j r
    → Ends no_value (λ _. spec.copy_all l.from l.index l.made l.place l.count) l.initial.state l.initial.steps t j r
