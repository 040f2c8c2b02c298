-- The next element of an array.
use Rattle.std.specs.Prelude.{ℕ, zero, suc, Option, Some, None}
use Rattle.js_values.specs.declared.ids.ObjId.{ObjId}
use Rattle.js_values.specs.declared.value.Value.{Value}
use Rattle.page_meaning.specs.Act.{ActOf, asking, bind, ret}
use Rattle.page_meaning.specs.Elements.{element}
use Rattle.page_meaning.specs.Primitives.{take_step}

abbrev pub or_next : ℕ → ActOf (Option (ℕ × Value)) → Option Value → ActOf (Option (ℕ × Value))
or_next k next None = next
or_next k next (Some v) = ret (Some (k, v))

-- the element of the least index among so many from here on
abbrev pub next_found : ObjId → ℕ → ℕ → ActOf (Option (ℕ × Value))
next_found at k zero = ret None
next_found at k (suc m) = bind take_step (λ _. asking (element at k) (or_next k (next_found at (suc k) m)))
