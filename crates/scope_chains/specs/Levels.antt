-- The scopes round a place of a script, each with its environment while the page runs (ECMA-262 5.1 sections 10.2, 10.4.3, 12.14 and 13).
use Rattle.std.specs.Prelude.{◌≡◌, ℕ, ◌<◌, List, [], ◌∷◌, ◌++◌, Option, Some, None, is_some, length, slice_get, option_map, if◌then◌else◌}
use Rattle.js_values.specs.declared.ids.EnvId.{EnvId}
use Rattle.object_heap.specs.Environment.{Environment, environment_at, value_of}
use Rattle.scope_analysis.specs.Names.{is_among, unless_among}
use Rattle.scope_analysis.specs.Scopes.{Place, scope_names}

-- a name of a function expression, and the environment in which it is bound
abbrev pub OwnName : Type 0
OwnName = List ℕ × EnvId

-- a function or a catch clause: the name of an expression, what it binds, and its environment
pub record Level : Type 0 where
  pub own : Option OwnName
  pub formals : List (List ℕ)
  pub declared : List (List ℕ)
  pub env : EnvId

abbrev pub bound_at : Level → List (List ℕ)
bound_at l = l.formals ++ l.declared

-- the names that scope analysis gives it: its own name is one where nothing in it has that name
abbrev pub names_at : Level → List (List ℕ)
names_at l = scope_names (unless_among (option_map (λ p. p.0) l.own) (bound_at l)) l.formals l.declared

-- the environment is there, stands in that one, and binds these names
pub record Binds (es : List Environment) (e : EnvId) (outer : Option EnvId) (xs : List (List ℕ)) : Type 0 where
  pub there : e.0 < length es
  pub stands : (environment_at es e.0).outer ≡ outer
  pub names : (x : List ℕ) → is_some (value_of (environment_at es e.0).names x) ≡ is_among x xs

-- the environment round a function's own: that of its name, where it has one
abbrev pub round_it : Option OwnName → Option EnvId → Option EnvId
round_it None outer = outer
round_it (Some p) outer = Some p.1

abbrev pub BindsOwn : List Environment → Option OwnName → Option EnvId → Type 0
BindsOwn es None outer = Unit {0}
BindsOwn es (Some p) outer = Binds es p.1 outer (p.0 ∷ [])

-- the innermost environment
abbrev pub innermost : List Level → Option EnvId
innermost [] = None
innermost (l ∷ ls) = Some l.env

-- the environments from the innermost outwards are those of these scopes
abbrev pub AreLevels : List Environment → List Level → Type 0
AreLevels es [] = Unit {0}
AreLevels es (l ∷ ls) = Binds es l.env (round_it l.own (innermost ls)) (bound_at l) × BindsOwn es l.own (innermost ls) × AreLevels es ls

abbrev pub own_environment : Option OwnName → Option EnvId
own_environment None = None
own_environment (Some p) = Some p.1

-- the environment of the scope in which the name is bound
abbrev pub environment_in : List ℕ → Level → Option EnvId
environment_in x l = if is_among x (bound_at l) then Some l.env else own_environment l.own

abbrev pub at_level : List ℕ → Option Level → Option EnvId
at_level x None = None
at_level x (Some l) = environment_in x l

-- the environment of the scope at a place
abbrev pub environment_of : List Level → List ℕ → Option Place → Option EnvId
environment_of ls x None = None
environment_of ls x (Some p) = at_level x (slice_get ls p.hops)
