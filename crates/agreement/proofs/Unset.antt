-- Where no name is a constant, no statement sets one.
use Rattle.std.proofs.Common.{◌≡◌, refl, ap, ◌∙◌, Bool, true, false, ◌&&◌, List, [], ◌∷◌, ◌++◌, None, ℕ}
use Rattle.std.specs.List.{list_all}
use Rattle.std.proofs.Math.Bool.{and-false}
use Rattle.code_table.specs.Declarations.{functions_of}
use Rattle.js_core.specs.Tree as tree
use Rattle.js_core.specs.Tree.{assign, expr, literal, name, no_declarators, no_stmts, one_expr, then_declarator, then_stmt, var}
use Rattle.scope_analysis.specs.Names.{declared_names, is_among}
use Rattle.heap_relations.specs.Naming.{Frame}
use Rattle.agreement.specs.Opened.{Demand, are_sure, begins_with_set, body_stands, declares_none, is_bound, is_sure, scope_frame, sets, stmts_stand}

pub none_sets : (body : tree.Stmts) → begins_with_set (λ x. false) body ≡ false
none_sets no_stmts = refl
none_sets (then_stmt s ss) = ap (λ b. b && declares_none (functions_of (then_stmt s ss))) (never s)
  where
    never : (s : tree.Stmt) → sets (λ x. false) s ≡ false
    never (var (then_declarator x (one_expr (literal es)) no_declarators)) = refl
    never (expr (assign None (name x) (literal es))) = refl
    never s = refl

-- nor bound and constant
pub never_sets : (b : List ℕ → Bool) (body : tree.Stmts) → begins_with_set (λ x. b x && false) body ≡ false
never_sets b body = ap (λ f. begins_with_set f body) (λ i x. and-false (b x) i) ∙ none_sets body

pub none_sure : (formals : List (List ℕ)) (body : tree.Stmts) → are_sure (λ x. false) formals body ≡ true
none_sure formals body = all_true (formals ++ declared_names body)
  where
    all_true : (xs : List (List ℕ)) → list_all (is_sure (λ x. false) formals body) xs ≡ true
    all_true [] = refl
    all_true (x ∷ xs) = all_true xs

-- the frames of a function and of a clause
abbrev pub unset_frame : List (List ℕ) → ℕ → List (List ℕ) → tree.Stmts → Frame
unset_frame fields n formals body = scope_frame fields n (is_bound formals body) (λ x. false)

abbrev pub unset_clause : List (List ℕ) → ℕ → List ℕ → Frame
unset_clause fields n x = scope_frame fields n (λ y. is_among y (x ∷ [])) (λ y. false)

-- so the body of a function stands as its statements do
pub unset_body : (formals : List (List ℕ)) (b : List ℕ → Bool) (body : tree.Stmts) (d : Demand) (n : ℕ) (fs : List Frame)
    → (are_sure (λ x. false) formals body && body_stands (begins_with_set (λ x. b x && false) body) d n fs body) ≡ stmts_stand d n fs body
unset_body formals b body d n fs = rw (none_sure formals body, never_sets b body) refl
