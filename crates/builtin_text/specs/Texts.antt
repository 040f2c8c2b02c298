-- Texts that are built.
use Rattle.std.specs.Prelude.{ℕ, List}
use Rattle.js_values.specs.declared.value.Value.{Value}
use Rattle.js_values.specs.declared.value.Value.TheVariants.{Text}

-- an end that the text stands for
abbrev pub for_text : List ℕ → Unit {0} → Value
for_text t u = Text t
