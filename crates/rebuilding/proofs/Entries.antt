-- What a function binds when it is entered, where no function is declared in it: its formals and all names that it declares.
use Rattle.std.proofs.Common.{◌≡◌, refl, sym, ap, ◌∙◌, ℕ, Bool, true, false, true≢false, ◌||◌, List, [], ◌++◌, bytes_eq, is_some}
use Rattle.std.proofs.lemmas.Bool.{or_parts}
use Rattle.std.proofs.lemmas.List.Folds.{list_any-append}
use Rattle.js_core.specs.Tree as tree
use Rattle.js_core.specs.Tree.{var, function, expr, empty, block, if_else, do_while, while, for, for_in, continue, break, return, throw, try, switch, no_stmts, then_stmt, no_body, one_body, no_catch, one_catch, no_cases, then_case}
use Rattle.code_table.specs.Declarations as held
use Rattle.object_heap.specs.Environment.{value_of}
use Rattle.page_meaning.specs.Functions.{entry_names, function_names, with_arguments, with_names}
use Rattle.scope_chains.proofs.Callers.{arguments_bound, names_bound, same_declarators, same_init, same_target}
use Rattle.early_rules.specs.FormNodes.{is_declaration}
use Rattle.scope_analysis.specs.Names as names
use Rattle.scope_analysis.specs.Names.{declared_names, is_among}
use Rattle.scope_analysis.specs.Nodes.{cases_any, catch_any, init_any, maybe_expr_any, maybe_stmts_any, stmt_any, stmts_any}

-- ---- where no function is declared, all declared names are variables

both : (xs ys us vs : List (List ℕ)) → xs ≡ us → ys ≡ vs → xs ++ ys ≡ us ++ vs
both xs ys us vs e f = rw (e, f) refl

mutual
  stmt_variables : (s : tree.Stmt) → stmt_any is_declaration s ≡ false → names.stmt_names s ≡ held.stmt_variables s
  stmt_variables (var ds) h = same_declarators ds
  stmt_variables (function c) h = absurd (true≢false h)
  stmt_variables (expr e) h = refl
  stmt_variables empty h = refl
  stmt_variables (block ss) h = all_variables ss h
  stmt_variables (if_else e a b) h = let p = or_parts _ _ (or_parts _ _ h).1 in both _ _ _ _ (all_variables a p.0) (body_variables b p.1)
  stmt_variables (do_while a e) h = all_variables a (or_parts _ _ h).0
  stmt_variables (while e a) h = all_variables a (or_parts _ _ h).1
  stmt_variables (for i t s a) h =
      let p = or_parts (init_any is_declaration i) _ h in
      let q = or_parts (maybe_expr_any is_declaration t) _ p.1 in
      let r = or_parts (maybe_expr_any is_declaration s) _ q.1 in
      both _ _ _ _ (same_init i) (all_variables a r.1)
  stmt_variables (for_in declared t e a) h = both _ _ _ _ (same_target declared t) (all_variables a (or_parts _ _ (or_parts _ _ h).1).1)
  stmt_variables continue h = refl
  stmt_variables break h = refl
  stmt_variables (return e) h = refl
  stmt_variables (throw e) h = refl
  stmt_variables (try a c l) h =
      let p = or_parts _ _ h in
      let q = or_parts _ _ p.1 in
      both _ _ _ _ (all_variables a p.0) (both _ _ _ _ (clause_variables c q.0) (body_variables l q.1))
  stmt_variables (switch e cs) h = case_variables cs (or_parts _ _ h).1

  pub all_variables : (ss : tree.Stmts) → stmts_any is_declaration ss ≡ false → declared_names ss ≡ held.variables_of ss
  all_variables no_stmts h = refl
  all_variables (then_stmt s ss) h = let p = or_parts _ _ h in both _ _ _ _ (stmt_variables s p.0) (all_variables ss p.1)

  body_variables : (b : tree.MaybeStmts) → maybe_stmts_any is_declaration b ≡ false → names.maybe_body_names b ≡ held.body_variables b
  body_variables no_body h = refl
  body_variables (one_body ss) h = all_variables ss h

  clause_variables : (c : tree.MaybeCatch) → catch_any is_declaration c ≡ false → names.catch_names c ≡ held.catch_variables c
  clause_variables no_catch h = refl
  clause_variables (one_catch x ss) h = all_variables ss h

  case_variables : (cs : tree.Cases) → cases_any is_declaration cs ≡ false → names.case_names cs ≡ held.case_variables cs
  case_variables no_cases h = refl
  case_variables (then_case e ss cs) h = let p = or_parts _ _ (or_parts _ _ h).1 in both _ _ _ _ (all_variables ss p.0) (case_variables cs p.1)

-- ---- what an environment binds at entry

widened : (a b c : Bool) → (a || c) ≡ true → ((a || b) || c) ≡ true
widened true b c h = refl
widened false true c h = refl
widened false false c h = h

-- a function with these formals and this body binds the name when it is entered
abbrev pub binds : List (List ℕ) → tree.Stmts → List ℕ → Bool
binds formals body x = is_some (value_of (entry_names formals body []) x)

pub entry_binds : (formals : List (List ℕ)) (body : tree.Stmts) (x : List ℕ) → stmts_any is_declaration body ≡ false
    → is_among x (formals ++ declared_names body) ≡ true → binds formals body x ≡ true
entry_binds formals body x none h =
    let fs = function_names (held.functions_of body) in
    let us = held.variables_of body in
    let same = ap (λ ds. is_among x formals || is_among x ds) (all_variables body none) in
    let parts = list_any-append (bytes_eq x) formals (declared_names body) ∙ same in
    names_bound (with_names (with_arguments formals []) fs) us x
    ∙ (ap (λ t. t || is_among x us) (names_bound (with_arguments formals []) fs x ∙ ap (λ t. t || is_among x fs) (arguments_bound formals [] x))
    ∙ widened (is_among x formals) (is_among x fs) (is_among x us) (sym parts ∙ h))
