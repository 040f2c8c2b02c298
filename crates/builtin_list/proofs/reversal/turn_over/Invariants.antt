use Rattle.std.proofs.Common.{ℕ, ◌-◌, ◌/◌, Result}
use Rattle.page_meaning.specs.Elements as element
use Rattle.page_meaning.specs.ListRows as spec
use Rattle.page_meaning.specs.Store.{Store}
use Rattle.page_state.specs.declared.turns.Halt.{Halt}
use Rattle.page_state.specs.Does.{no_value}
use Rattle.page_state.specs.Turns.{Ends}
use Rattle.builtin_list.proofs.reversal.turn_over.Given as goal

-- what the rest comes to is what all come to
abbrev pub invariant-loop-low : goal.invariant-loop-low
invariant-loop-low l =
    (t : Store) (j : ℕ) (r : Result (Unit {0}) Halt) → Ends no_value (λ _. element.turns_up (spec.turn_over l.list l.length) l.low (l.length / 2 - l.low)) l.state l.steps t j r
    → Ends no_value (λ _. element.turns_up (spec.turn_over l.list l.length) 0 (spec.half l.length)) l.initial.state l.initial.steps t j r
