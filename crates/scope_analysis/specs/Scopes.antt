-- The names of a scope, and the innermost scope that declares a name (ECMA-262 5.1 sections 10.2, 10.5, 12.14 and 13).
use Rattle.std.specs.Prelude.{ℕ, suc, List, [], ◌∷◌, ◌++◌, Option, Some, None, bytes_eq, option_map, if◌then◌else◌}
use Rattle.indexmap.specs.IndexSet.{insert_all}
use Rattle.scope_analysis.specs.Names.{maybe_name}

-- where a name is declared: how many scopes outwards, and its place in that scope's list of names
pub record Place : Type 0 where
  pub hops : ℕ
  pub slot : ℕ

-- the place of the name among these
abbrev pub place_among : List ℕ → List (List ℕ) → Option ℕ
place_among x [] = None
place_among x (y ∷ ys) = if bytes_eq x y then Some 0 else option_map suc (place_among x ys)

-- the place here, or else the one that is a scope further out
abbrev pub here_or_outwards : Option ℕ → Option Place → Option Place
here_or_outwards (Some k) outer = Some (record { hops = 0; slot = k })
here_or_outwards None None = None
here_or_outwards None (Some p) = Some (record { hops = suc p.hops; slot = p.slot })

-- the innermost of these scopes that declares the name, where each is the list of its names and the innermost stands first
abbrev pub find : List (List (List ℕ)) → List ℕ → Option Place
find [] x = None
find (names ∷ outer) x = here_or_outwards (place_among x names) (find outer x)

-- each of these names once, where it stands first
abbrev pub once_each : List (List ℕ) → List (List ℕ)
once_each xs = insert_all bytes_eq [] xs

-- the names that a scope declares: its formals, its own name, then what its body declares, each where it stands first
abbrev pub scope_names : Option (List ℕ) → List (List ℕ) → List (List ℕ) → List (List ℕ)
scope_names own formals declared = once_each (formals ++ (maybe_name own ++ declared))
