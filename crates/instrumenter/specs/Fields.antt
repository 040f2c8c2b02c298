-- Which variables are opened: those of a function or of a catch clause that a function inside uses (ECMA-262 5.1 sections 10.2 and
-- 12.14). They become the fields of an object, the scope's object.
use Rattle.std.specs.Prelude.{ℕ, Bool, true, false, List, [], ◌∷◌, Option, None, filter}
use Rattle.js_core.specs.Tree as tree
use Rattle.scope_analysis.specs.Names.{code_body, code_formals, declared_names, own_name}
use Rattle.scope_analysis.specs.Scopes.{scope_names}
use Rattle.scope_analysis.specs.Uses.{is_captured, stmts_uses}

-- the captured variables of a function: its formals, then its own name, then the others in the order of their declarations
abbrev pub fields_in : Option (List ℕ) → tree.Code → List (List ℕ)
fields_in own c =
    filter (λ x. is_captured x (stmts_uses (code_body c))) (scope_names own (code_formals c) (declared_names (code_body c)))

-- the name of a function expression is a variable of it (section 13), that of a declaration is one of the function round it
abbrev pub expression_fields : tree.Code → List (List ℕ)
expression_fields c = fields_in (own_name c) c

abbrev pub declaration_fields : tree.Code → List (List ℕ)
declaration_fields c = fields_in None c

-- the parameter of a catch clause with this block, where it is captured
abbrev pub clause_fields : List ℕ → tree.Stmts → List (List ℕ)
clause_fields x ss = filter (λ y. is_captured y (stmts_uses ss)) (x ∷ [])

-- the scope has an object
abbrev pub has_fields : List (List ℕ) → Bool
has_fields [] = false
has_fields (x ∷ xs) = true
