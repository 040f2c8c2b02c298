-- What the program keeps of the scopes round a piece, innermost first, and what they say of names.
use Rattle.std.specs.Prelude.{ℕ, Bool, true, false, ◌&&◌, ◌||◌, is_some, List, [], ◌∷◌, Option, Some, None, bytes_eq, if◌then◌else◌}
use Rattle.indexmap.specs.IndexSet.{contains}
use Rattle.js_core.specs.Tree as tree
use Rattle.instrumenter.specs.declared.levels.Level.{Level}
use Rattle.instrumenter.specs.Around.{Around, field_or_name}
use Rattle.instrumenter.specs.Opening.{open_expr}

-- the object of which the name is a field
abbrev pub field_of : List Level → List ℕ → Option ℕ
field_of [] x = None
field_of (l ∷ ls) x = if contains bytes_eq l.fields x then Some l.number else (if contains bytes_eq l.names x then None else field_of ls x)

-- the innermost function has a field of that name
abbrev pub is_own : List Level → List ℕ → Bool
is_own [] x = false
is_own (l ∷ ls) x = if l.is_function then contains bytes_eq l.fields x else is_own ls x

abbrev pub around_of : List Level → Around
around_of ls = record { opens = true; fields = field_of ls; own = is_own ls }

-- the object of which the callee is a field
abbrev pub called_field : List Level → tree.Expr → Option ℕ
called_field ls (tree.name x) = field_of ls x
called_field ls e = None

-- a declarator of that name makes a `var` change: it is a field of the function, or an initialiser assigns to a field
abbrev pub changes : Around → List ℕ → Bool → Bool
changes a x assigns = a.own x || (assigns && is_some (a.fields x))

-- the assignment that an initialiser becomes, where there is one
abbrev pub assigned : Around → ℕ → List ℕ → Option tree.Expr → List tree.Expr
assigned a n x None = []
assigned a n x (Some e) = tree.assign None (field_or_name (a.fields x) x) (open_expr a n e) ∷ []
