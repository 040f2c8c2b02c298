use Rattle.std.proofs.Common.{ℕ, ◌-◌, Option, Result}
use Rattle.js_values.specs.declared.value.Value.{Value}
use Rattle.page_meaning.specs.Store.{Store}
use Rattle.page_state.specs.declared.turns.Halt.{Halt}
use Rattle.page_state.specs.Turns.{Tells}
use Rattle.step_visit.specs.Finding.{next_found}
use Rattle.step_visit.proofs.finding.next_element.Given as goal

-- what is told from here on is what is told
abbrev pub invariant-loop-index : goal.invariant-loop-index
invariant-loop-index l =
    (t : Store) (j : ℕ) (r : Result (Option (ℕ × Value)) Halt) → Tells (λ _. next_found l.list l.index (l.length - l.index)) l.state l.steps t j r
    → Tells (λ _. next_found l.list l.start (l.length - l.start)) l.state l.initial.steps t j r
