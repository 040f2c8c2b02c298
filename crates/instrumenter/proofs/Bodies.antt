-- Functions and catch clauses, from the parts that are made of them.
use Rattle.std.proofs.Common.{◌≡◌, ◌∙◌, ℕ, ◌+◌, ◌≤◌, true, List, ◌++◌, Option, None, ap, refl, sym, arith}
use Rattle.js_core.specs.Height.{code_height, stmts_height}
use Rattle.js_core.specs.Tree as tree
use Rattle.js_core.specs.Tree.{code, func, function, no_stmts, one_catch, stmts_of, then_stmt}
use Rattle.early_rules.specs.Limits.{plain_height_limit}
use Rattle.scope_analysis.specs.Names.{code_body, code_formals, code_name, own_name}
use Rattle.instrumenter.specs.Around.{Around, append, clause_object, declaration, in_clause, in_function, next_number, opened_clause, opened_fields, parameter, scope_object, valued_names}
use Rattle.instrumenter.specs.Counting.{count_of, expr_scopes, stmt_scopes, stmts_scopes}
use Rattle.instrumenter.specs.Fields.{clause_fields, declaration_fields, expression_fields, fields_in, has_fields}
use Rattle.instrumenter.specs.Opening.{open_catch, open_declarations, open_expr, open_function, open_stmts}
use Rattle.instrumenter.proofs.Appended.{append_assoc, clause_before, joined, object_before}
use Rattle.instrumenter.proofs.Heights.{function_fits, room}

pub declared_scopes : (c : tree.Code) → stmt_scopes (function c) ≡ count_of (declaration_fields c) + stmts_scopes (code_body c)
declared_scopes (code x formals body) = refl

pub expressed_scopes : (c : tree.Code) → expr_scopes (func c) ≡ count_of (expression_fields c) + stmts_scopes (code_body c)
expressed_scopes (code x formals body) = refl

pub open_func : (a : Around) (n : ℕ) (c : tree.Code)
    → open_expr a n (func c) ≡ func (code (code_name c) (code_formals c) (open_function a n (opened_fields a.opens (expression_fields c)) (own_name c) c))
open_func a n (code x formals body) = refl

pub open_declared : (a : Around) (n : ℕ) (c : tree.Code)
    → open_declarations a n (then_stmt (function c) no_stmts)
    ≡ declaration a (code_name c) (func (code None (code_formals c) (open_function a n (opened_fields a.opens (declaration_fields c)) None c))) no_stmts
open_declared a n (code x formals body) = refl

-- the body of a function: its object, its declarations, and its other statements
body_of : Around → ℕ → List (List ℕ) → Option (List ℕ) → tree.Stmts → tree.Code → tree.Stmts
body_of a n fields own ss d =
    scope_object n (valued_names own d) fields
    (append (open_declarations (in_function a n fields own d) (next_number fields n) ss) (open_stmts (in_function a n fields own d) (next_number fields n) ss))

body_opened : (a : Around) (n : ℕ) (fields : List (List ℕ)) (own : Option (List ℕ)) (x : Option (List ℕ)) (formals : List (List ℕ)) (ss : tree.Stmts) → a.opens ≡ true
    → body_of a n fields own ss (code x formals ss) ≡ open_function a n fields own (code x formals ss)
unfolding body_of
body_opened a n fields own x formals ss opens = rw (opens) refl

parts_opened : (a inner : Around) (n m : ℕ) (fields : List (List ℕ)) (own : Option (List ℕ)) (c : tree.Code) (ss : tree.Stmts)
    → inner ≡ in_function a n fields own c → m ≡ next_number fields n
    → scope_object n (valued_names own c) fields (append (open_declarations inner m ss) (open_stmts inner m ss)) ≡ body_of a n fields own ss c
unfolding body_of
parts_opened a inner n m fields own c ss round number =
    ap (λ d. scope_object n (valued_names own c) fields (append (open_declarations d m ss) (open_stmts d m ss))) round
    ∙ ap (λ k. scope_object n (valued_names own c) fields
    (append (open_declarations (in_function a n fields own c) k ss) (open_stmts (in_function a n fields own c) k ss))) number

pub function_opened : (a inner : Around) (n m : ℕ) (fields : List (List ℕ)) (own : Option (List ℕ)) (c : tree.Code) (x : Option (List ℕ)) (formals : List (List ℕ))
    (ss : tree.Stmts) (first both others : List tree.Stmt) → a.opens ≡ true → code x formals ss ≡ c → inner ≡ in_function a n fields own c → m ≡ next_number fields n
    → stmts_of first ≡ scope_object n (valued_names own c) fields no_stmts
    → stmts_of both ≡ append (stmts_of first) (open_declarations inner m ss) → stmts_of others ≡ open_stmts inner m ss
    → stmts_of (both ++ others) ≡ open_function a n fields own c
function_opened a inner n m fields own c x formals ss first both others opens whole round number object declared rest =
    joined both others
    ∙ ap (append (stmts_of both)) rest
    ∙ ap (λ z. append z (open_stmts inner m ss)) (declared ∙ ap (λ z. append z (open_declarations inner m ss)) object)
    ∙ append_assoc (scope_object n (valued_names own c) fields no_stmts) (open_declarations inner m ss) (open_stmts inner m ss)
    ∙ sym (object_before n (valued_names own c) fields (append (open_declarations inner m ss) (open_stmts inner m ss)))
    ∙ parts_opened a inner n m fields own c ss round number
    ∙ ap (body_of a n fields own ss) (sym whole)
    ∙ body_opened a n fields own x formals ss opens
    ∙ ap (open_function a n fields own) whole

clause_is : (a : Around) (n : ℕ) (x : List ℕ) (ss : tree.Stmts) → a.opens ≡ true
    → open_catch a n (one_catch x ss)
    ≡ opened_clause n (clause_fields x ss) x (open_stmts (in_clause a n (clause_fields x ss) x) (next_number (clause_fields x ss) n) ss)
clause_is a n x ss opens = rw (opens) refl

-- a catch clause: its object, and its statements
pub clause_opened : (a inner : Around) (n m : ℕ) (fields : List (List ℕ)) (x y : List ℕ) (ss : tree.Stmts) (first all : List tree.Stmt) → a.opens ≡ true
    → fields ≡ clause_fields x ss → inner ≡ in_clause a n fields x → m ≡ next_number fields n → y ≡ parameter n fields x
    → stmts_of first ≡ clause_object n fields no_stmts → stmts_of all ≡ append (stmts_of first) (open_stmts inner m ss)
    → one_catch y (stmts_of all) ≡ open_catch a n (one_catch x ss)
clause_opened a inner n m fields x y ss first all opens captured round number name object rest =
    ap (λ z. one_catch z (stmts_of all)) name
    ∙ ap (one_catch (parameter n fields x)) (rest ∙ ap (λ z. append z (open_stmts inner m ss)) object ∙ sym (clause_before n fields (open_stmts inner m ss)))
    ∙ ap (λ d. opened_clause n fields x (open_stmts d m ss)) round
    ∙ ap (λ k. opened_clause n fields x (open_stmts (in_clause a n fields x) k ss)) number
    ∙ ap (λ fs. opened_clause n fs x (open_stmts (in_clause a n fs x) (next_number fs n) ss)) captured
    ∙ sym (clause_is a n x ss opens)

-- a function expression, from the parts of its code
pub func_opened : (a : Around) (n : ℕ) (c : tree.Code) (x y : Option (List ℕ)) (formals same : List (List ℕ)) (own : Option (List ℕ)) (fields : List (List ℕ))
    (ss body : tree.Stmts) → a.opens ≡ true → code x formals ss ≡ c → y ≡ x → same ≡ formals → own ≡ own_name c → fields ≡ fields_in own c
    → body ≡ open_function a n fields own c → func (code y same body) ≡ open_expr a n (func c)
func_opened a n c x y formals same own fields ss body opens whole name names o f b =
    ap (λ z. func (code z same body)) (name ∙ ap code_name whole)
    ∙ ap (λ z. func (code (code_name c) z body)) (names ∙ ap code_formals whole)
    ∙ ap (λ z. func (code (code_name c) (code_formals c) z)) (b ∙ ap (λ z. open_function a n z own c) f ∙ ap (λ z. open_function a n (fields_in z c) z c) o)
    ∙ ap (λ z. func (code (code_name c) (code_formals c) (open_function a n (opened_fields z (expression_fields c)) (own_name c) c))) (sym opens)
    ∙ sym (open_func a n c)

-- what a function declaration becomes, from the parts of its code
pub declared_opened : (a : Around) (n : ℕ) (c : tree.Code) (x y : Option (List ℕ)) (formals same : List (List ℕ)) (ss body : tree.Stmts) (e : tree.Expr)
    → a.opens ≡ true → code x formals ss ≡ c → y ≡ x → same ≡ formals → body ≡ open_function a n (declaration_fields c) None c → e ≡ func (code None same body)
    → declaration a y e no_stmts ≡ open_declarations a n (then_stmt (function c) no_stmts)
declared_opened a n c x y formals same ss body e opens whole name names b f =
    ap (λ z. declaration a z e no_stmts) (name ∙ ap code_name whole)
    ∙ ap (λ z. declaration a (code_name c) z no_stmts)
    (f ∙ ap (λ z. func (code None z body)) (names ∙ ap code_formals whole) ∙ ap (λ z. func (code None (code_formals c) z)) b
    ∙ ap (λ z. func (code None (code_formals c) (open_function a n (opened_fields z (declaration_fields c)) None c))) (sym opens))
    ∙ sym (open_declared a n c)

pub function_low : (a : Around) (n : ℕ) (fields : List (List ℕ)) (own : Option (List ℕ)) (c : tree.Code) → fields ≡ fields_in own c → code_height c ≤ plain_height_limit
    → stmts_height (open_function a n fields own c) ≤ 401
function_low a n fields own (code x formals body) e h =
    let high : has_fields fields ≡ true → 2 ≤ stmts_height body = λ g. room true body _ (sym (ap has_fields e) ∙ g) in
    omega (arith, h, (function_fits a n fields own (code x formals body) high).fits)
