-- What stands round a piece of a script while its scopes are opened, and the small pieces that opening puts in.
use Rattle.std.specs.Prelude.{ℕ, pos, suc, Bool, true, false, ◌&&◌, ◌||◌, not, List, [], ◌∷◌, ◌++◌, Option, Some, None, is_some, codes, if◌then◌else◌}
use Rattle.std.specs.Fmt.{decimal}
use Rattle.js_core.specs.Tree as tree
use Rattle.js_core.specs.Tree.{name, num, func, member, literal, unary, assign, comma, no_exprs, then_expr, no_expr, one_expr, no_fields, then_field, code, var, expr, empty, no_stmts, then_stmt, no_declarators, then_declarator, no_init, init_var, init_expr, one_catch}
use Rattle.js_core.specs.declared.operators.UnaryOp.TheVariants.{Void}
use Rattle.scope_analysis.specs.Names.{bound_names, code_formals, is_among, maybe_name}
use Rattle.instrumenter.specs.Fields.{has_fields}

-- ---- scopes

-- opens: whether scopes are opened at all; where they are not, a tree stays as it is, so that what holds of opened trees is said of
-- equal ones, too. fields: what a name stands for here, the field of the object with this number, if it is one. own: whether a
-- variable that the innermost function declares is a field
pub record Around : Type 0 where
  pub opens : Bool
  pub fields : List ℕ → Option ℕ
  pub own : List ℕ → Bool

-- at the top of a script
abbrev pub top : Bool → Around
top opens = record { opens = opens; fields = λ x. None; own = λ x. false }

-- in a scope that declares these names, of which those are the fields of object n
abbrev pub field_inside : List (List ℕ) → List (List ℕ) → ℕ → (List ℕ → Option ℕ) → List ℕ → Option ℕ
field_inside fields names n outer x = if is_among x fields then Some n else (if is_among x names then None else outer x)

-- the fields of a scope, where scopes are opened
abbrev pub opened_fields : Bool → List (List ℕ) → List (List ℕ)
opened_fields true fields = fields
opened_fields false fields = []

-- the number of the next scope's object, where this one has number n, if it has one
abbrev pub next_number : List (List ℕ) → ℕ → ℕ
next_number fields n = if has_fields fields then suc n else n

-- in the body of a function that has these fields, in an object with number n
abbrev pub in_function : Around → ℕ → List (List ℕ) → Option (List ℕ) → tree.Code → Around
in_function a n fields own c =
    record {
      opens = a.opens;
      fields = field_inside fields (maybe_name own ++ bound_names c) n a.fields;
      own = λ x. is_among x fields;
    }

-- in the block of a catch clause with this parameter
abbrev pub in_clause : Around → ℕ → List (List ℕ) → List ℕ → Around
in_clause a n fields x =
    record { opens = a.opens; fields = field_inside fields (x ∷ []) n a.fields; own = a.own }

-- ---- names

-- `$$n`, in which the object of scope n stands
abbrev pub scope_name : ℕ → List ℕ
scope_name n = codes "$$" ++ decimal n

-- a reference: `$$n.x`, or the name as it is
abbrev pub field_or_name : Option ℕ → List ℕ → tree.Expr
field_or_name None x = name x
field_or_name (Some n) x = member (name (scope_name n)) x

-- where it is called: `(0,$$n.x)`, since the object is not `this` of the call (11.2.3)
abbrev pub without_this : Option ℕ → tree.Expr → tree.Expr
without_this None e = e
without_this (Some n) e = comma (then_expr (num (Some (pos 0))) (then_expr e no_exprs))

abbrev pub callee : Around → tree.Expr → tree.Expr → tree.Expr
callee a (name x) e = without_this (a.fields x) e
callee a f e = e

-- ---- the object of a scope

abbrev pub void_zero : tree.Expr
void_zero = unary Void (num (Some (pos 0)))

-- a formal and the function's own name have a value at its start, the other names have none
abbrev pub first_value : List (List ℕ) → List ℕ → tree.Expr
first_value valued x = if is_among x valued then name x else void_zero

abbrev pub literal_fields : List (List ℕ) → List (List ℕ) → tree.Fields
literal_fields valued [] = no_fields
literal_fields valued (x ∷ xs) = then_field x (first_value valued x) (literal_fields valued xs)

-- one `var` of one name
abbrev pub var_of : List ℕ → tree.Expr → tree.Stmt
var_of x e = var (then_declarator x (one_expr e) no_declarators)

-- `var $$n={..};`, where there are fields
abbrev pub scope_object : ℕ → List (List ℕ) → List (List ℕ) → tree.Stmts → tree.Stmts
scope_object n valued [] ss = ss
scope_object n valued (x ∷ xs) ss = then_stmt (var_of (scope_name n) (literal (literal_fields valued (x ∷ xs)))) ss

-- the names with a value at the start of a function
abbrev pub valued_names : Option (List ℕ) → tree.Code → List (List ℕ)
valued_names own c = code_formals c ++ maybe_name own

-- `$$n={"e":$$n};`, where the parameter of a catch clause is a field
abbrev pub clause_object : ℕ → List (List ℕ) → tree.Stmts → tree.Stmts
clause_object n [] ss = ss
clause_object n (x ∷ xs) ss =
    then_stmt (expr (assign None (name (scope_name n)) (literal (then_field x (name (scope_name n)) no_fields)))) ss

-- the parameter becomes `$$n`
abbrev pub parameter : ℕ → List (List ℕ) → List ℕ → List ℕ
parameter n fields x = if has_fields fields then scope_name n else x

-- a catch clause with this opened block
abbrev pub opened_clause : ℕ → List (List ℕ) → List ℕ → tree.Stmts → tree.MaybeCatch
opened_clause n fields x ss = one_catch (parameter n fields x) (clause_object n fields ss)

-- ---- statements

abbrev pub append : tree.Stmts → tree.Stmts → tree.Stmts
append no_stmts ts = ts
append (then_stmt s ss) ts = then_stmt s (append ss ts)

-- the body of a function, where its opened declarations go before its other opened statements
abbrev pub opened_body : Bool → tree.Stmts → tree.Stmts → tree.Stmts
opened_body true declarations ss = append declarations ss
opened_body false declarations ss = ss

abbrev pub single : tree.Stmt → tree.Stmts
single s = then_stmt s no_stmts

-- a name of a `var` is a field, or its initialiser assigns to one, maybe to the parameter of a catch clause
abbrev pub is_changed : Around → tree.Declarators → Bool
is_changed a no_declarators = false
is_changed a (then_declarator x no_expr ds) = a.own x || is_changed a ds
is_changed a (then_declarator x (one_expr e) ds) = a.own x || (is_some (a.fields x) || is_changed a ds)

-- the names that are no fields of the function, without their initialisers
abbrev pub plain_names : Around → tree.Declarators → tree.Declarators
plain_names a no_declarators = no_declarators
plain_names a (then_declarator x e ds) = if a.own x then plain_names a ds else then_declarator x no_expr (plain_names a ds)

-- a `var` of these, where there are any
abbrev pub var_where_any : tree.Declarators → tree.Stmts → tree.Stmts
var_where_any no_declarators ss = ss
var_where_any (then_declarator x e ds) ss = then_stmt (var (then_declarator x e ds)) ss

-- the assignments that opened initialisers become, in their order
abbrev pub assignments : Around → tree.Declarators → tree.Exprs
assignments a no_declarators = no_exprs
assignments a (then_declarator x no_expr ds) = assignments a ds
assignments a (then_declarator x (one_expr e) ds) = then_expr (assign None (field_or_name (a.fields x) x) e) (assignments a ds)

abbrev pub as_statements : tree.Exprs → tree.Stmts
as_statements no_exprs = no_stmts
as_statements (then_expr e es) = then_stmt (expr e) (as_statements es)

-- as what stands first in the header of a `for`: joined by commas
abbrev pub as_init : tree.Exprs → tree.ForInit
as_init no_exprs = no_init
as_init (then_expr e no_exprs) = init_expr e
as_init es = init_expr (comma es)

-- a `var` statement, from the declarators as they are and with opened initialisers
abbrev pub opened_var : Around → tree.Declarators → tree.Declarators → tree.Stmts
opened_var a ds opened =
    if is_changed a ds then var_where_any (plain_names a ds) (as_statements (assignments a opened)) else single (var opened)

-- what goes before a `for` with such a `var`, and what stands in its header
abbrev pub before_for : Around → tree.ForInit → tree.Stmts → tree.Stmts
before_for a (init_var ds) ss = if is_changed a ds then var_where_any (plain_names a ds) ss else ss
before_for a i ss = ss

abbrev pub opened_init : Around → tree.Declarators → tree.Declarators → tree.ForInit
opened_init a ds opened = if is_changed a ds then as_init (assignments a opened) else init_var opened

-- the declared target of a for-in is a field, or is it declared still
abbrev pub target_is_field : Around → tree.Expr → Bool
target_is_field a (name x) = is_some (a.fields x)
target_is_field a t = false

-- and where the function has no such field, a `var` of its name goes before the loop
abbrev pub before_for_in : Around → Bool → tree.Expr → tree.Stmts → tree.Stmts
before_for_in a true (name x) ss =
    if is_some (a.fields x) && not (a.own x) then then_stmt (var (then_declarator x no_expr no_declarators)) ss else ss
before_for_in a declared t ss = ss

-- a function declaration in a function, as the assignment that stands at its start
abbrev pub declared_name : Around → List ℕ → tree.Expr → tree.Stmt
declared_name a x e = if a.own x then expr (assign None (field_or_name (a.fields x) x) e) else var_of x e

abbrev pub declaration : Around → Option (List ℕ) → tree.Expr → tree.Stmts → tree.Stmts
declaration a None e ss = ss
declaration a (Some x) e ss = then_stmt (declared_name a x e) ss
