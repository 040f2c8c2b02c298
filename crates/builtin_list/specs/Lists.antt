-- What an end stands for, and how what is done at once ends.
use Rattle.std.specs.Prelude.{List, ℕ, Result, Ok, Err}
use Rattle.js_values.specs.declared.ids.ObjId.{ObjId}
use Rattle.js_values.specs.declared.value.Value.{Value}
use Rattle.js_values.specs.declared.value.Value.TheVariants.{Text, Object}
use Rattle.js_core.specs.declared.memory.Failure.{Failure}
use Rattle.page_state.specs.declared.turns.Halt.{Halt}
use Rattle.page_state.specs.declared.turns.Halt.TheVariants as halt

-- an end that the object stands for
abbrev pub for_object : ObjId → Unit {0} → Value
for_object at u = Object at

-- an end that the text stands for
abbrev pub for_text : List ℕ → Unit {0} → Value
for_text t u = Text t

-- what is done at once halts by its faults alone
abbrev pub lifted : Result Value (Failure Value) → Result Value Halt
lifted (Ok v) = Ok v
lifted (Err e) = Err (halt.Fault e)
