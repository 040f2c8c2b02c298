-- Lists of values.
use Rattle.std.proofs.Common.{List, []}
use Rattle.std.specs.Prelude.{◌∷◌, ◌++◌}
use Rattle.js_values.specs.declared.value.Value.{Value}
use Rattle.literal_values.proofs.Callers.{values_joined}
use Rattle.literal_values.specs.Values.{AreBounded, IsBounded}

pub bounded_more : (vs : List Value) (v : Value) → AreBounded vs → IsBounded v → AreBounded (vs ++ v ∷ [])
bounded_more vs v h k = values_joined vs (v ∷ []) h (k, tt)
