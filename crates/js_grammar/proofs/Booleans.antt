-- Disjunctions of tests.
use Rattle.std.proofs.Common.{◌≡◌, Bool, true, false, refl}
use Rattle.std.specs.Prelude.{◌||◌}

pub or_true : (b : Bool) → b || true ≡ true
or_true true = refl
or_true false = refl
