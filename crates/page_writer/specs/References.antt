-- What objects are reached by in a saved page, and values as trees (ECMA-262 5.1 section 11).
use Rattle.std.specs.Prelude.{ℕ, ℤ, pos, nat_abs, ◌-◌, List, [], ◌∷◌, Option, Some, None, codes, nat_eq, if◌then◌else◌}
use Rattle.built_in_paths.specs.Paths.{names_of, path_of}
use Rattle.js_core.specs.Tree as tree
use Rattle.js_core.specs.Tree.{name, num, text, bool, null, member, index, unary, no_exprs, then_expr}
use Rattle.js_core.specs.declared.operators.UnaryOp.TheVariants.{Minus, Void}
use Rattle.js_values.specs.declared.ids.ObjId.{ObjId}
use Rattle.js_values.specs.declared.value.Value.{Value}
use Rattle.js_values.specs.declared.value.Value.TheVariants as value
use Rattle.page_meaning.specs.Places.{document}
use Rattle.rebuild_plan.specs.Compact.{first_thing}

-- ---- references and values

abbrev pub number_expr : ℕ → tree.Expr
number_expr n = num (Some (pos n))

-- `$$[n]`, which holds the thing with this number
abbrev pub thing_expr : ℕ → tree.Expr
thing_expr n = index (name (codes "$$")) (number_expr n)

-- names after dots
abbrev pub path_from : tree.Expr → List (List ℕ) → tree.Expr
path_from e [] = e
path_from e (x ∷ xs) = path_from (member e x) xs

-- `a.b.c`
abbrev pub path_expr : List (List ℕ) → tree.Expr
path_expr [] = null
path_expr (x ∷ xs) = path_from (name x) xs

abbrev pub document_expr : tree.Expr
document_expr = name (codes "document")

abbrev pub unlisted : ℕ → tree.Expr
unlisted k = if nat_eq k document.0 then document_expr else thing_expr (k - first_thing)

abbrev pub reference_over : ℕ → Option (List ℕ) → tree.Expr
reference_over k (Some path) = path_expr (names_of path)
reference_over k None = unlisted k

-- a built-in object by its path, the document by its name, and a thing by its number
abbrev pub reference : ObjId → tree.Expr
reference at = reference_over at.0 (path_of at.0)

-- a number, `-` and a number, or `NaN`
abbrev pub whole_expr : Option ℤ → tree.Expr
whole_expr None = name (codes "NaN")
whole_expr (Some (pos n)) = number_expr n
whole_expr (Some z) = unary Minus (number_expr (nat_abs z))

abbrev pub value_expr : Value → tree.Expr
value_expr value.Undefined = unary Void (number_expr 0)
value_expr value.Null = null
value_expr (value.Bool b) = bool b
value_expr (value.Num n) = whole_expr n
value_expr (value.Text t) = text t
value_expr (value.Object at) = reference at

abbrev pub value_exprs : List Value → tree.Exprs
value_exprs [] = no_exprs
value_exprs (v ∷ vs) = then_expr (value_expr v) (value_exprs vs)

abbrev pub proto_expr : Option ObjId → tree.Expr
proto_expr None = null
proto_expr (Some at) = reference at
