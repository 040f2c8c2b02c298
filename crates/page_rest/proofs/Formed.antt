-- In a script of a form page each function is in form and breaks no early rule, in a call that binds its needed variables.
use Rattle.std.proofs.Common.{◌≡◌, refl, false, None}
use Rattle.std.proofs.lemmas.Bool.{or_from, or_parts}
use Rattle.js_core.specs.Tree as tree
use Rattle.js_core.specs.Tree.{code, func, function, no_stmts, then_stmt}
use Rattle.early_rules.specs.EarlyRules.{has_stray_jump}
use Rattle.script_rules.specs.Form.{any_is_reserved, any_use_is_reserved, declares_inside, has_inner_declaration}
use Rattle.early_rules.specs.Jumps.{strays}
use Rattle.scope_analysis.specs.Names.{declared_names}
use Rattle.scope_analysis.specs.Nodes.{stmt_any, stmts_any}
use Rattle.scope_analysis.specs.Uses.{stmt_uses, stmts_uses}
use Rattle.page_rest.proofs.Assigning.{assigns_round, closed_calm, left_calm, right_calm}
use Rattle.page_rest.proofs.FormParts.{FormParts, form_parts}
use Rattle.early_rules.proofs.Callers.{KeepsRules, rules_are_kept}
use Rattle.page_rest.proofs.Pieces.{expr_formed, stmt_formed}
use Rattle.page_rest.proofs.Tests.{Deleted, Fields, Formals, Jumps, Own, Restricted, Scopes, Targets, Test, test_of, unnamed}
use Rattle.page_rest.specs.Asks.{FunctionsAreFormed, is_unformed}

-- ---- statements at the top of a script, which may be function declarations

stmt_at_top : (s : tree.Stmt) → ((r : Test) → stmt_any (test_of r) s ≡ false) → declares_inside s ≡ false → assigns_round (stmt_uses s) ≡ false
    → stmt_any is_unformed s ≡ false
stmt_at_top (function (code x formals body)) e i calm = expr_formed false (func (code None formals body)) (unnamed x formals body e i calm)
stmt_at_top s e i calm = stmt_formed s (record { each = e; plain = i; calm = calm })

stmts_at_top : (ss : tree.Stmts) → ((r : Test) → stmts_any (test_of r) ss ≡ false) → has_inner_declaration ss ≡ false
    → assigns_round (stmts_uses ss) ≡ false → stmts_any is_unformed ss ≡ false
stmts_at_top no_stmts e i calm = refl
stmts_at_top (then_stmt s ss) e i calm =
    let plain = or_parts (declares_inside s) (has_inner_declaration ss) i in
    or_from _ _ (stmt_at_top s (λ r. (or_parts (stmt_any (test_of r) s) (stmts_any (test_of r) ss) (e r)).0) plain.0 (left_calm (stmt_uses s) (stmts_uses ss) calm))
    (stmts_at_top ss (λ r. (or_parts (stmt_any (test_of r) s) (stmts_any (test_of r) ss) (e r)).1) plain.1 (right_calm (stmt_uses s) (stmts_uses ss) calm))

-- ---- scripts

none_passes : (script : tree.Stmts) → KeepsRules script → FormParts script → (r : Test) → stmts_any (test_of r) script ≡ false
none_passes script k f Formals = k.formals
none_passes script k f Fields = k.fields
none_passes script k f Deleted = k.deleted
none_passes script k f Restricted = k.restricted
none_passes script k f Jumps = (or_parts (strays script) (stmts_any has_stray_jump script) k.jumps).1
none_passes script k f Targets = k.targets
none_passes script k f Own = k.own
none_passes script k f Scopes = f.scopes

pub functions_are_formed : FunctionsAreFormed
functions_are_formed script is =
    let form : FormParts script = form_parts script is.formed in
    let closed = or_parts (any_use_is_reserved (stmts_uses script)) (any_is_reserved (declared_names script)) form.closed in
    stmts_at_top script (none_passes script (rules_are_kept script is.orderly) form) form.top (closed_calm (stmts_uses script) closed.0)
