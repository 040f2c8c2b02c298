use Rattle.std.proofs.Common.{ℕ, drop, Result}
use Rattle.page_meaning.specs.ListRows as spec
use Rattle.page_meaning.specs.Store.{Store}
use Rattle.page_state.specs.declared.turns.Halt.{Halt}
use Rattle.page_state.specs.Turns.{Ends}
use Rattle.builtin_list.specs.Lists.{for_object}
use Rattle.builtin_list.proofs.concatenation.add_all.Given as goal

-- what the rest comes to is what all come to
abbrev pub invariant-loop-index : goal.invariant-loop-index
invariant-loop-index l =
    (t : Store) (j : ℕ) (r : Result (Unit {0}) Halt) → Ends (for_object l.made) (λ _. spec.concat_from l.made l.place (drop l.index l.items)) l.state l.steps t j r
    → Ends (for_object l.made) (λ _. spec.concat_from l.made l.start l.items) l.initial.state l.initial.steps t j r
