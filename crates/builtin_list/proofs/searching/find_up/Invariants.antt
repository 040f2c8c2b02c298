use Rattle.std.proofs.Common.{ℕ, ◌+◌, ◌-◌, Result}
use Rattle.js_values.specs.declared.value.Value.{Value}
use Rattle.page_meaning.specs.ListRows as spec
use Rattle.page_meaning.specs.Store.{Store}
use Rattle.page_state.specs.declared.turns.Halt.{Halt}
use Rattle.page_state.specs.Does.{itself}
use Rattle.page_state.specs.Turns.{Ends}
use Rattle.builtin_list.proofs.searching.find_up.Given as goal

-- what the rest comes to is what all come to
abbrev pub invariant-loop-turn : goal.invariant-loop-turn
invariant-loop-turn l =
    (t : Store) (j : ℕ) (r : Result Value Halt) → Ends itself (λ _. spec.find_up l.list l.value (l.start + l.turn) (l.count - l.turn)) l.state l.steps t j r
    → Ends itself (λ _. spec.find_up l.list l.value l.start l.count) l.state l.initial.steps t j r
