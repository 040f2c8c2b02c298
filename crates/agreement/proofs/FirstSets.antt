-- Statements of which the first sets the constant of their scope (sections 11.13.1 and 12.2).
use Rattle.std.proofs.Common.{◌≡◌, refl, sym, ap, ◌∙◌, ℕ, ◌+◌, Bool, true, false, not, ◌||◌, ◌&&◌, List, [], ◌∷◌, ◌++◌, None, bytes_eq, if◌then◌else◌}
use Rattle.std.proofs.lemmas.Bool.{and_parts}
use Rattle.code_table.specs.Declarations.{functions_of}
use Rattle.js_core.specs.Tree as tree
use Rattle.js_core.specs.Tree.{assign, expr, literal, name, no_declarators, no_stmts, one_expr, then_declarator, then_stmt, var}
use Rattle.page_meaning.specs.Functions.{Declared, function_names}
use Rattle.script_rules.specs.Form.{are_plain_fields}
use Rattle.scope_analysis.specs.Names.{declared_names, is_among}
use Rattle.instrumenter.specs.Counting.{stmt_scopes}
use Rattle.heap_relations.specs.Naming.{Frame, Free}
use Rattle.agreement.proofs.Declared.{all_among, functions_declared, right_among}
use Rattle.agreement.proofs.EntryNames.{function_bound}
use Rattle.agreement.proofs.Scoped.{Begins, by_assignment, by_var}
use Rattle.agreement.specs.Trees.{bound_where}
use Rattle.agreement.specs.Opened.{Demand, are_sure, begins_with_set, declares_none, fields_stand, is_bound, is_sure, rest_stands, sets, stmts_stand}

-- a statement that sets it, and those after it
pub record FirstSet (constant : List ℕ → Bool) (D : Demand) (n : ℕ) (fs : List Frame) (first : tree.Stmt) (rest : tree.Stmts) : Type 0 where
  pub name : List ℕ
  pub fields : tree.Fields
  pub begins : Begins name fields first
  pub constant_name : constant name ≡ true
  pub none : functions_of (then_stmt first rest) ≡ []
  pub plain : are_plain_fields fields ≡ true
  pub stands : fields_stand D n fs fields ≡ true
  pub goes_on : stmts_stand D (n + stmt_scopes first) fs rest ≡ true

none_left : (cs : Declared) → declares_none cs ≡ true → cs ≡ []
none_left [] e = refl
none_left (c ∷ cs) e = absurd (cc e)

pub first_set : (constant : List ℕ → Bool) (D : Demand) (n : ℕ) (fs : List Frame) (s : tree.Stmt) (ss : tree.Stmts) → begins_with_set constant (then_stmt s ss) ≡ true → rest_stands D n fs (then_stmt s ss) ≡ true
    → FirstSet constant D n fs s ss
first_set constant D n fs (var (then_declarator x (one_expr (literal es)) no_declarators)) ss h stands =
    let s = var (then_declarator x (one_expr (literal es)) no_declarators) in
    let one = and_parts (constant x) (declares_none (functions_of (then_stmt s ss))) h in
    let two = and_parts (are_plain_fields es && fields_stand D n fs es) (stmts_stand D (n + stmt_scopes s) fs ss) stands in
    let three = and_parts (are_plain_fields es) (fields_stand D n fs es) two.0 in
    record { name = x; fields = es; begins = by_var; constant_name = one.0; none = none_left (functions_of (then_stmt s ss)) one.1; plain = three.0; stands = three.1; goes_on = two.1 }
first_set constant D n fs (expr (assign None (name x) (literal es))) ss h stands =
    let s = expr (assign None (name x) (literal es)) in
    let one = and_parts (constant x) (declares_none (functions_of (then_stmt s ss))) h in
    let two = and_parts (are_plain_fields es && fields_stand D n fs es) (stmts_stand D (n + stmt_scopes s) fs ss) stands in
    let three = and_parts (are_plain_fields es) (fields_stand D n fs es) two.0 in
    record { name = x; fields = es; begins = by_assignment; constant_name = one.0; none = none_left (functions_of (then_stmt s ss)) one.1; plain = three.0; stands = three.1; goes_on = two.1 }
first_set constant D n fs s ss h stands = absurd (cc h)

-- ---- names of functions

none_declared : (constant : List ℕ → Bool) (body : tree.Stmts) (y : List ℕ) → begins_with_set constant body ≡ true → is_among y (function_names (functions_of body)) ≡ false
none_declared constant no_stmts y h = absurd (cc h)
none_declared constant (then_stmt s ss) y h =
    ap (λ cs. is_among y (function_names cs)) (none_left (functions_of (then_stmt s ss)) (and_parts (sets constant s) (declares_none (functions_of (then_stmt s ss))) h).1)

-- a name that is declared for a function is no constant
pub declared_free : (constant : List ℕ → Bool) (formals : List (List ℕ)) (body : tree.Stmts) (y : List ℕ) → are_sure constant formals body ≡ true
    → is_among y (function_names (functions_of body)) ≡ true → bound_where (is_bound formals body y) (constant y) ≡ Free
declared_free constant formals body y sure i =
    let declared : is_among y (declared_names body) ≡ true = functions_declared y body i in
    let one : is_sure constant formals body y ≡ true = all_among (is_sure constant formals body) y (formals ++ declared_names body) sure (right_among y formals (declared_names body) declared) in
    ap (λ b. bound_where b (constant y)) (function_bound formals body y i) ∙ by_case (constant y) (is_among y formals) one declared
  where
    by_case : (c f : Bool) → (not c || (if f then not (is_among y (declared_names body)) else begins_with_set (bytes_eq y) body)) ≡ true → is_among y (declared_names body) ≡ true
        → bound_where true c ≡ Free
    by_case false f h k = refl
    by_case true true h k = let wrong : false ≡ true = sym (ap not k) ∙ h in absurd (cc wrong)
    by_case true false h k = let wrong : true ≡ false = sym i ∙ none_declared (bytes_eq y) body y h in absurd (cc wrong)
