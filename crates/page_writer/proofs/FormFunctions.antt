-- A function of a saved page: the call of the function that binds its needed variables is in form and breaks no early rule.
use Rattle.std.proofs.Common.{◌≡◌, refl, sym, ap, subst, ◌∙◌, ℕ, ◌+◌, ◌≤◌, Bool, true, false, ◌||◌, List, [], ◌∷◌, ◌++◌, Option, None, map, filter, cond, bytes_eq, if◌then◌else◌}
use Rattle.std.specs.List.{list_all, list_any}
use Rattle.std.proofs.lemmas.Bool.{and_from, and_parts, or_parts}
use Rattle.std.proofs.lemmas.List.Folds.{list_all-append}
use Rattle.indexmap.specs.IndexSet.{insert_all, insert_key}
use Rattle.js_core.specs.Height.{code_height}
use Rattle.js_core.specs.Tree as tree
use Rattle.js_core.specs.Tree.{call, code, expr, func, no_exprs, no_stmts, one_expr, return, then_stmt}
use Rattle.js_values.specs.declared.ids.EnvId.{EnvId}
use Rattle.js_values.specs.declared.value.Value.{Value}
use Rattle.page_meaning.specs.Store.{Store}
use Rattle.early_rules.specs.EarlyRules.{early_rule}
use Rattle.script_rules.specs.Form.{in_form}
use Rattle.scope_analysis.specs.Needs.{needed_variables}
use Rattle.scope_analysis.specs.Identifiers.{is_reserved}
use Rattle.early_rules.specs.Limits.{function_height_limit}
use Rattle.scope_analysis.specs.Nodes.{Node, expr_any, expression, stmt_any, stmts_any, statement, exprs_any}
use Rattle.scope_analysis.specs.Uses.{Use, expr_uses}
use Rattle.heap_walker.specs.Still.{IsFunctionAtRest}
use Rattle.heap_walker.specs.Things.{bound_values, needs_of}
use Rattle.rebuild_plan.specs.Compact.{moved_needs}
use Rattle.page_writer.specs.Statements.{binder, giving, need_names}

-- the call of the function that binds these names and gives the function, as a script
abbrev pub call_binding : tree.Code → List (List ℕ) → tree.Stmts
call_binding c names = then_stmt (expr (call (func (code None names (giving c))) no_exprs)) no_stmts

-- and that of the function that binds the needed variables
abbrev pub called : tree.Code → List (List ℕ × Value) → tree.Stmts
called c needs = call_binding c (need_names needs)

pub record IsFormFunction (c : tree.Code) (needs : List (List ℕ × Value)) : Type 0 where
  pub formed : in_form (called c needs) ≡ true
  pub orderly : early_rule (called c needs) ≡ None
  pub reserved : list_all is_reserved (need_names needs) ≡ true
  pub low : code_height c + 1 ≤ function_height_limit

-- ---- what no node of that call passes, none of the binding function passes, and none of the function

-- neither the function nor the one that binds its needed variables has a node that passes
abbrev pub NonePass : (Node → Bool) → tree.Code → List (List ℕ × Value) → Type 0
NonePass t c needs = (expr_any t true (func (binder c needs)) ≡ false) × (expr_any t false (func c) ≡ false)

pub none_pass : (t : Node → Bool) (c : tree.Code) (needs : List (List ℕ × Value)) → stmts_any t (called c needs) ≡ false → NonePass t c needs
none_pass t c needs e =
    let callee : tree.Expr = func (binder c needs) in
    let whole = or_parts (stmt_any t (expr (call callee no_exprs))) false e in
    let inner = or_parts (t (statement (expr (call callee no_exprs)))) (expr_any t false (call callee no_exprs)) whole.0 in
    let parts = or_parts (t (expression false (call callee no_exprs))) (expr_any t true callee || exprs_any t no_exprs) inner.1 in
    let bound = (or_parts (expr_any t true callee) (exprs_any t no_exprs) parts.1).0 in
    let body = or_parts (t (expression true callee)) (stmts_any t (giving c)) bound in
    let gives = or_parts (stmt_any t (return (one_expr (func c)))) false body.1 in
    let given = or_parts (t (statement (return (one_expr (func c))))) (expr_any t false (func c)) gives.0 in
    (bound, given.1)

-- ---- needed variables are reserved names

module _ (p : List ℕ → Bool) where
  inserted : (ks : List (List ℕ)) (x : List ℕ) → list_all p ks ≡ true → p x ≡ true → list_all p (insert_key bytes_eq ks x) ≡ true
  inserted ks x h e = chosen (list_any (bytes_eq x) ks)
    where
      chosen : (b : Bool) → list_all p (if b then ks else (ks ++ x ∷ [])) ≡ true
      chosen true = h
      chosen false = list_all-append p ks (x ∷ []) ∙ and_from (list_all p ks) (list_all p (x ∷ [])) h (and_from (p x) true e refl)

  all_inserted : (ks xs : List (List ℕ)) → list_all p ks ≡ true → list_all p xs ≡ true → list_all p (insert_all bytes_eq ks xs) ≡ true
  all_inserted ks [] h e = h
  all_inserted ks (x ∷ xs) h e =
      let parts = and_parts (p x) (list_all p xs) e in
      all_inserted (insert_key bytes_eq ks x) xs (inserted ks x h parts.0) parts.1

  filtered : (xs : List (List ℕ)) → list_all p (filter p xs) ≡ true
  filtered [] = refl
  filtered (x ∷ xs) = by (p x) refl (filtered xs)
    where
      by : (b : Bool) → p x ≡ b → list_all p (filter p xs) ≡ true → list_all p (cond b (x ∷ filter p xs) (filter p xs)) ≡ true
      by true is h = and_from (p x) (list_all p (filter p xs)) is h
      by false is h = h

needed_are_reserved : (c : tree.Code) → list_all is_reserved (needed_variables c) ≡ true
needed_are_reserved c =
    let names : List (List ℕ) = map (λ (u : Use). u.name) (expr_uses (func c)) in
    all_inserted is_reserved [] (filter is_reserved names) refl (filtered is_reserved names)

-- ---- a function at rest

names_moved : (s : Store) (env : Option EnvId) (things : List ℕ) (xs : List (List ℕ)) → need_names (moved_needs things (bound_values s env xs)) ≡ xs
names_moved s env things [] = refl
names_moved s env things (x ∷ xs) = ap (λ ys. x ∷ ys) (names_moved s env things xs)

-- a function at rest is one, with what its needed variables hold
pub form_function : (s : Store) (things : List ℕ) (k : ℕ) (c : tree.Code) (env : Option EnvId) → IsFunctionAtRest s k c env
    → IsFormFunction c (moved_needs things (needs_of s env c))
form_function s things k c env rest =
    let same : needed_variables c ≡ need_names (moved_needs things (needs_of s env c)) = sym (names_moved s env things (needed_variables c)) in
    record {
      formed = subst (λ names. in_form (call_binding c names) ≡ true) same rest.formed;
      orderly = subst (λ names. early_rule (call_binding c names) ≡ None) same rest.orderly;
      reserved = subst (λ names. list_all is_reserved names ≡ true) same (needed_are_reserved c);
      low = rest.low;
    }
