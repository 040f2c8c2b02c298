use Rattle.std.proofs.Common.{ℕ, ◌-◌, List, [], Result}
use Rattle.js_values.specs.declared.value.Value.{Value}
use Rattle.page_meaning.specs.FunctionRows.{gather}
use Rattle.page_meaning.specs.Store.{Store}
use Rattle.page_state.specs.declared.turns.Halt.{Halt}
use Rattle.page_state.specs.Turns.{Tells}
use Rattle.step_call.proofs.functions.gather.Given as goal

-- what is told from here on is what is told
abbrev pub invariant-loop-index : goal.invariant-loop-index
invariant-loop-index l =
    (t : Store) (j : ℕ) (r : Result (List Value) Halt) → Tells (λ _. gather l.list l.args l.index (l.length - l.index)) l.state l.steps t j r
    → Tells (λ _. gather l.list [] 0 l.length) l.state l.initial.steps t j r
