-- Chains of environments end.
use Rattle.std.proofs.Common.{◌≡◌, refl, ℕ, zero, suc, ◌<◌, List, Option, Some, None, arith}
use Rattle.std.specs.Option.{ForSome}
use Rattle.js_values.specs.declared.ids.EnvId.{EnvId}
use Rattle.js_values.specs.declared.value.Value.{Value}
use Rattle.object_heap.specs.Environment.{AreInside, Environment, environment_at, value_of}
use Rattle.object_heap.specs.Heap.{bound_within, first_bound, lookup}

first_bound_same : (k : ℕ) (own : Option Value) (outer : Option EnvId) (f g : ℕ → Option (EnvId × Value)) → ForSome outer (λ q. f q.0 ≡ g q.0) → first_bound k own outer f ≡ first_bound k own outer g
first_bound_same k (Some v) outer f g h = refl
first_bound_same k None None f g h = refl
first_bound_same k None (Some q) f g h = h q refl

-- all bounds past the age give the same
pub bound_free : (environments : List Environment) (n m k : ℕ) (name : List ℕ) → AreInside environments → k < n → k < m → bound_within environments n k name ≡ bound_within environments m k name
bound_free environments zero m k name ages h g = absurd (omega (arith, h))
bound_free environments (suc n) zero k name ages h g = absurd (omega (arith, g))
bound_free environments (suc n) (suc m) k name ages h g =
    first_bound_same k (value_of (environment_at environments k).names name) (environment_at environments k).outer (λ q. bound_within environments n q name) (λ q. bound_within environments m q name)
    (λ q e. bound_free environments n m q.0 name ages (omega (arith, ages k q e, h)) (omega (arith, ages k q e, g)))

-- a name is bound here, or else outwards
pub step : (environments : List Environment) (k : ℕ) (name : List ℕ) → AreInside environments
    → lookup environments k name ≡ first_bound k (value_of (environment_at environments k).names name) (environment_at environments k).outer (λ q. lookup environments q name)
unfolding lookup
step environments k name ages =
    first_bound_same k (value_of (environment_at environments k).names name) (environment_at environments k).outer (λ q. bound_within environments k q name) (λ q. lookup environments q name)
    (λ q e. bound_free environments k (suc q.0) q.0 name ages (ages k q e) (omega arith))
