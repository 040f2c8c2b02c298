-- Environments (ECMA-262 5.1 section 10.2). Outside this file an environment is made by its makers alone.
use Rattle.std.specs.Prelude.{ℕ, ◌<◌, List, [], Option, Some, None, bytes_eq, nat_lt, slice_index_or, if◌then◌else◌}
use Rattle.std.specs.Option.{ForSome}
use Rattle.std.specs.Map.{lookup, set_value}
use Rattle.js_values.specs.declared.ids.EnvId.{EnvId}
use Rattle.js_values.specs.declared.value.Value.{Value}

-- names with values
abbrev pub Bound : Type 0
Bound = List (List ℕ × Value)

pub record Environment : Type 0 where
  pub outer : Option EnvId
  pub names : Bound

-- the value of the name, where it is bound
abbrev pub value_of : Bound → List ℕ → Option Value
value_of names name = lookup (bytes_eq name) names

-- the name takes the value; all else stays
abbrev pub with_value_of : Bound → List ℕ → Value → Bound
with_value_of names name v = set_value (bytes_eq name) names v

abbrev pub new_environment : Option EnvId → Bound → Environment
new_environment outer names = record { outer = outer; names = names }

-- stands for an environment where there is none
abbrev pub no_environment : Environment
no_environment = new_environment None []

abbrev pub with_bound : Environment → List ℕ → Value → Environment
with_bound e name v = new_environment e.outer (with_value_of e.names name v)

-- the environment, where it is older than the place; else none
abbrev pub inside : ℕ → Option EnvId → Option EnvId
inside k None = None
inside k (Some e) = if nat_lt e.0 k then Some e else None

-- the environment at the place
abbrev pub environment_at : List Environment → ℕ → Environment
environment_at environments k = slice_index_or environments k no_environment

-- each outer environment is older than the inner one
abbrev pub AreInside : List Environment → Type 0
AreInside environments = (k : ℕ) → ForSome (environment_at environments k).outer (λ e. e.0 < k)
