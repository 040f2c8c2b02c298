-- The tests of nodes that no node of a script of a form page passes, and what of them holds of the parts of a piece.
use Rattle.std.proofs.Common.{◌≡◌, ap, ◌∙◌, ℕ, Bool, true, false, not, ◌&&◌, ◌||◌, List, ◌++◌, Option, Some, None}
use Rattle.std.specs.List.{list_any}
use Rattle.std.proofs.lemmas.Bool.{or_from, or_parts}
use Rattle.std.proofs.Math.Bool.{and-true}
use Rattle.js_core.specs.Tree as tree
use Rattle.js_core.specs.Tree.{code, func, function, one_catch}
use Rattle.early_rules.specs.EarlyRules.{assigns_own_name, deletes_name, has_bad_target, has_restricted_name, has_stray_jump, repeats_field, repeats_formal}
use Rattle.script_rules.specs.Form.{are_variables_in_form, is_clause_out_of_form, is_expression_out_of_form, scope_out_of_form}
use Rattle.early_rules.specs.FormNodes.{is_declaration}
use Rattle.scope_analysis.specs.Identifiers.{is_restricted}
use Rattle.scope_analysis.specs.Names.{code_body}
use Rattle.scope_analysis.specs.Nodes.{Node, catch_any, code_any, expr_any, stmt_any, stmts_any}
use Rattle.scope_analysis.specs.Uses.{Use, catch_uses, declarator_uses, expr_uses, maybe_expr_uses, stmt_uses, stmts_uses, target_uses}
use Rattle.page_rest.proofs.Assigning.{assigns_round, clause_calm, function_calm, left_calm, right_calm, target_calm, value_calm}

-- the tests of the early rules, and that of form
pub data Test : Type 0 where
  Formals : Test
  Fields : Test
  Deleted : Test
  Restricted : Test
  Jumps : Test
  Targets : Test
  Own : Test
  Scopes : Test

abbrev pub test_of : Test → Node → Bool
test_of Formals n = repeats_formal n
test_of Fields n = repeats_field n
test_of Deleted n = deletes_name n
test_of Restricted n = has_restricted_name n
test_of Jumps n = has_stray_jump n
test_of Targets n = has_bad_target n
test_of Own n = assigns_own_name n
test_of Scopes n = scope_out_of_form n

-- no node of the piece passes one of them, or is a function declaration, where this is what says of a test whether one does; and no function in
-- it assigns to a reserved name that it leaves to the scopes round the piece, whose uses are these
pub record Kept (any : (Node → Bool) → Bool) (uses : List Use) : Type 0 where
  pub each : (r : Test) → any (test_of r) ≡ false
  pub plain : any is_declaration ≡ false
  pub calm : assigns_round uses ≡ false

-- ---- parts

pub left : {us : List Use} (vs : List Use) (f g : (Node → Bool) → Bool) → Kept (λ t. f t || g t) (us ++ vs) → Kept f us
left {us = us} vs f g h = record {
  each = λ r. (or_parts (f (test_of r)) (g (test_of r)) (h.each r)).0;
  plain = (or_parts (f is_declaration) (g is_declaration) h.plain).0;
  calm = left_calm us vs h.calm;
}

pub right : {vs : List Use} (us : List Use) (f g : (Node → Bool) → Bool) → Kept (λ t. f t || g t) (us ++ vs) → Kept g vs
right {vs = vs} us f g h = record {
  each = λ r. (or_parts (f (test_of r)) (g (test_of r)) (h.each r)).1;
  plain = (or_parts (f is_declaration) (g is_declaration) h.plain).1;
  calm = right_calm us vs h.calm;
}

-- what stands in a node
pub inner : {us : List Use} (f g : (Node → Bool) → Bool) → Kept (λ t. f t || g t) us → Kept g us
inner f g h = record {
  each = λ r. (or_parts (f (test_of r)) (g (test_of r)) (h.each r)).1;
  plain = (or_parts (f is_declaration) (g is_declaration) h.plain).1;
  calm = h.calm;
}

-- a target, and a value that a variable begins with
pub targeted : (any : (Node → Bool) → Bool) (e : tree.Expr) → Kept any (target_uses e (expr_uses e)) → Kept any (expr_uses e)
targeted any e h = record { each = h.each; plain = h.plain; calm = target_calm e h.calm }

pub begun : (any : (Node → Bool) → Bool) (x : List ℕ) (e : tree.MaybeExpr) → Kept any (declarator_uses x e) → Kept any (maybe_expr_uses e)
begun any x e h = record { each = h.each; plain = h.plain; calm = value_calm x e h.calm }

-- ---- functions and catch clauses

pub in_function : (b : Bool) (c : tree.Code) → Kept (λ t. expr_any t b (func c)) (expr_uses (func c))
    → Kept (λ t. code_any t c) (stmts_uses (code_body c))
in_function b c h =
    let formed = or_parts (is_expression_out_of_form c) (code_any scope_out_of_form c) (h.each Scopes) in
    let below = inner _ (λ t. code_any t c) h in
    record { each = below.each; plain = below.plain; calm = function_calm c formed.0 h.calm }

pub in_clause : (x : List ℕ) (ss : tree.Stmts) → Kept (λ t. catch_any t (one_catch x ss)) (catch_uses (one_catch x ss))
    → Kept (λ t. stmts_any t ss) (stmts_uses ss)
in_clause x ss h =
    let formed = or_parts (is_clause_out_of_form x ss) (stmts_any scope_out_of_form ss) (h.each Scopes) in
    let below = inner _ (λ t. stmts_any t ss) h in
    record { each = below.each; plain = below.plain; calm = clause_calm x ss formed.0 h.calm }

uncalled_at : (r : Test) (b : Bool) (c : tree.Code) → expr_any (test_of r) b (func c) ≡ false → expr_any (test_of r) false (func c) ≡ false
uncalled_at Formals b c e = e
uncalled_at Fields b c e = e
uncalled_at Deleted b c e = e
uncalled_at Restricted b c e = e
uncalled_at Jumps b c e = e
uncalled_at Targets b c e = e
uncalled_at Own b c e = e
uncalled_at Scopes b c e = e

-- whether a function is called is nothing to them
pub uncalled : (b : Bool) (c : tree.Code) → Kept (λ t. expr_any t b (func c)) (expr_uses (func c))
    → Kept (λ t. expr_any t false (func c)) (expr_uses (func c))
uncalled b c h = record { each = λ r. uncalled_at r b c (h.each r); plain = h.plain; calm = h.calm }

with_no_name : (x : Option (List ℕ)) (formals : List (List ℕ)) (body : tree.Stmts)
    → stmt_any has_restricted_name (function (code x formals body)) ≡ false
    → expr_any has_restricted_name false (func (code None formals body)) ≡ false
with_no_name None formals body e = e
with_no_name (Some x) formals body e =
    let restricted : Bool = list_any is_restricted formals in
    let parts = or_parts (is_restricted x || restricted) (stmts_any has_restricted_name body) e in
    or_from restricted (stmts_any has_restricted_name body) (or_parts (is_restricted x) restricted parts.0).1 parts.1

unnamed_at : (r : Test) (x : Option (List ℕ)) (formals : List (List ℕ)) (body : tree.Stmts)
    → stmt_any (test_of r) (function (code x formals body)) ≡ false → expr_any (test_of r) false (func (code None formals body)) ≡ false
unnamed_at Formals x formals body e = e
unnamed_at Fields x formals body e = e
unnamed_at Deleted x formals body e = e
unnamed_at Restricted x formals body e = with_no_name x formals body e
unnamed_at Jumps x formals body e = e
unnamed_at Targets x formals body e = e
unnamed_at Own x formals body e = e
unnamed_at Scopes x formals body e =
    let formed : Bool = are_variables_in_form (code x formals body) (stmts_uses body) in
    let parts = or_parts (not formed) (stmts_any scope_out_of_form body) e in
    or_from (not (formed && true)) (stmts_any scope_out_of_form body) (ap not (and-true formed) ∙ parts.0) parts.1

-- a declared function, as an expression without its name
pub unnamed : (x : Option (List ℕ)) (formals : List (List ℕ)) (body : tree.Stmts)
    → ((r : Test) → stmt_any (test_of r) (function (code x formals body)) ≡ false) → code_any is_declaration (code x formals body) ≡ false
    → assigns_round (stmt_uses (function (code x formals body))) ≡ false
    → Kept (λ t. expr_any t false (func (code None formals body))) (expr_uses (func (code None formals body)))
unnamed x formals body e i calm = record { each = λ r. unnamed_at r x formals body (e r); plain = i; calm = calm }
