use Rattle.std.proofs.Common.{ℕ, ◌-◌, List, Result}
use Rattle.js_values.specs.declared.value.Value.TheVariants.{Text}
use Rattle.page_meaning.specs.ListRows as spec
use Rattle.page_meaning.specs.Store.{Store}
use Rattle.page_state.specs.declared.turns.Halt.{Halt}
use Rattle.page_state.specs.Turns.{Ends}
use Rattle.builtin_list.specs.Lists.{for_text}
use Rattle.builtin_list.proofs.joining.join_rest.Given as goal

-- what the rest comes to is what all come to
abbrev pub invariant-loop-index : goal.invariant-loop-index
invariant-loop-index l =
    (t : Store) (j : ℕ) (x : List ℕ) (r : Result (Unit {0}) Halt) → Ends (for_text x)
    (λ calls. spec.join_from calls l.list (Text l.separator) (Text l.joined.items) l.index (l.length - l.index)) l.state l.steps t j r
    → Ends (for_text x) (λ calls. spec.join_from calls l.list (Text l.separator) (Text l.initial.joined.items) 1 (l.length - 1)) l.initial.state l.initial.steps t j r
