-- The variables that a function needs from the scopes round it.
use Rattle.std.specs.Prelude.{ℕ, List, map, filter}
use Rattle.js_core.specs.Tree as tree
use Rattle.js_core.specs.Tree.{func}
use Rattle.scope_analysis.specs.Identifiers.{is_reserved}
use Rattle.scope_analysis.specs.Scopes.{once_each}
use Rattle.scope_analysis.specs.Uses.{expr_uses}

-- the variables that a function of a script in form needs from round it: the names that begin with `$$` and that it, as an
-- expression, leaves to the scopes round it, in the order of their uses
abbrev pub needed_variables : tree.Code → List (List ℕ)
needed_variables c = once_each (filter is_reserved (map (λ u. u.name) (expr_uses (func c))))
