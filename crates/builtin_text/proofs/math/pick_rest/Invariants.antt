use Rattle.std.proofs.Common.{drop, ℤ, Option, Result}
use Rattle.js_values.specs.declared.value.Value.TheVariants.{Num}
use Rattle.page_meaning.specs.MathRows as math
use Rattle.page_meaning.specs.Store.{Store}
use Rattle.js_core.specs.declared.memory.Failure.{Failure}
use Rattle.js_values.specs.declared.value.Value.{Value}
use Rattle.page_state.specs.Does.{Gives}
use Rattle.builtin_text.specs.Picks.{pick_of as spec_pick}
use Rattle.builtin_text.proofs.math.pick_rest.Given as goal

-- what the rest comes to is what all come to
abbrev pub invariant-loop-index : goal.invariant-loop-index
invariant-loop-index l =
    (t : Store) (r : Result (Option ℤ) (Failure Value)) → Gives (λ x. Num x) (λ calls. math.picked calls (spec_pick l.pick) (drop l.index l.values) l.best) l.state t r
    → Gives (λ x. Num x) (λ calls. math.picked calls (spec_pick l.pick) (drop 1 l.values) l.initial.best) l.initial.state t r
