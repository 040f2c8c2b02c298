use Rattle.std.proofs.Common.{drop, [], Result}
use Rattle.js_values.specs.declared.value.Value.{Value}
use Rattle.page_meaning.specs.StringRows as text
use Rattle.page_meaning.specs.Store.{Store}
use Rattle.js_core.specs.declared.memory.Failure.{Failure}
use Rattle.page_state.specs.Does.{Gives, itself}
use Rattle.builtin_text.proofs.strings.from_char_code.Given as goal

-- what the rest comes to is what all come to
abbrev pub invariant-loop-value : goal.invariant-loop-value
invariant-loop-value l =
    (t : Store) (r : Result Value (Failure Value)) → Gives itself (λ calls. text.from_units calls (drop l.value-index l.values) l.units.items) l.state t r
    → Gives itself (λ calls. text.from_units calls l.values []) l.initial.state t r
