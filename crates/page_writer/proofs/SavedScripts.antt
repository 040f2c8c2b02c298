-- The script of a saved page is one of a form page.
use Rattle.std.proofs.Common.{◌≡◌, refl, ap, ◌∙◌, ◌≤◌, ℕ, true, false, not, ◌&&◌, ◌||◌, All, List, [], ◌∷◌, ◌++◌, arith}
use Rattle.std.proofs.lemmas.Bool.{and_from, and_parts, not-true, not_from_false, or_from, or_parts}
use Rattle.std.proofs.lemmas.List.{append-nil}
use Rattle.std.proofs.lemmas.List.Elements.{All-head, All-tail}
use Rattle.js_core.specs.Height.{stmts_height}
use Rattle.js_core.specs.Tree as tree
use Rattle.js_core.specs.Tree.{then_stmt}
use Rattle.js_grammar.specs.Syntax.{AreStmts, IsSyntax}
use Rattle.js_values.specs.declared.value.Value.{Value}
use Rattle.rebuild_plan.specs.Compact.{compact}
use Rattle.rebuild_plan.specs.Plan.{plan}
use Rattle.rebuild_plan.specs.declared.statement.Rebuild.{Rebuild}
use Rattle.early_rules.specs.EarlyRules.{assigns_own_name, deletes_name, has_bad_target, has_restricted_name, has_stray_jump, repeats_field, repeats_formal}
use Rattle.script_rules.specs.Form.{any_is_reserved, any_use_is_reserved, has_inner_declaration, has_open_reserved, in_form, is_clause_out_of_form, scope_out_of_form}
use Rattle.early_rules.specs.FormNodes.{is_declaration, is_high_function}
use Rattle.script_rules.specs.FormScripts.{IsFormScript}
use Rattle.early_rules.specs.Jumps.{leaves, strays}
use Rattle.early_rules.specs.Limits.{form_height_limit}
use Rattle.scope_analysis.specs.Names.{declared_names}
use Rattle.scope_analysis.specs.Nodes.{stmts_any}
use Rattle.scope_analysis.specs.Uses.{Use, is_captured, leaving_clause, stmts_uses}
use Rattle.early_rules.specs.declared.jump.Jump.{Jump}
use Rattle.early_rules.specs.declared.jump.Jump.TheVariants as jump
use Rattle.page_writer.proofs.FormFunctions.{IsFormFunction, called, none_pass}
use Rattle.page_writer.proofs.FormPlans.{IsInForm, plan_in_form}
use Rattle.early_rules.proofs.Callers.{KeepsRules, none_is_broken, rules_are_kept}
use Rattle.page_writer.proofs.LowFunctions.{functions_are_low}
use Rattle.page_writer.proofs.OwnUses.{body_own, clause_leaves, list_is_not_captured, list_name}
use Rattle.page_writer.proofs.QuietParts.{script_quiet}
use Rattle.page_writer.proofs.QuietTests.{declarations_quiet, deleted_quiet, fields_quiet, form_quiet, formals_quiet, high_quiet, jumps_quiet, own_quiet, restricted_quiet, targets_quiet}
use Rattle.page_writer.proofs.Syntax.{clearing_fits, rebuild_fits}
use Rattle.page_writer.proofs.Words.{list_is_identifier}
use Rattle.page_writer.specs.FormScripts.{SavedScriptsAreForm}
use Rattle.page_writer.specs.Script.{clearing, saved_script, statements}
use Rattle.page_writer.specs.Writable.{IsWritable}

-- ---- it is a tree that tokens have, and low

statements_fit : (rs : List Rebuild) → All IsWritable rs → AreStmts false (statements rs) × (stmts_height (statements rs) ≤ 405)
statements_fit [] all = (tt, omega arith)
statements_fit (r ∷ rs) all =
    let one = rebuild_fits r (All-head IsWritable r rs all) in
    let more = statements_fit rs (All-tail IsWritable r rs all) in
    ((one.0, more.0), omega (arith, one.1, more.1))

-- the statements after the one that takes the nodes out
abbrev body : List Rebuild → tree.Stmts
body rs = then_stmt clearing (statements rs)

script_is_syntax : (rs : List Rebuild) → AreStmts false (statements rs) → IsSyntax (saved_script rs)
script_is_syntax rs h = (refl, ((refl, (tt, tt), (list_is_identifier, (clearing_fits, h)), tt), tt))

script_is_low : (rs : List Rebuild) → stmts_height (statements rs) ≤ 405 → stmts_height (saved_script rs) ≤ form_height_limit
script_is_low rs h = omega (arith, h)

-- ---- it breaks no early rule

statements_leave : (j : Jump) (rs : List Rebuild) → leaves j (statements rs) ≡ false
statements_leave j [] = refl
statements_leave j (r ∷ rs) = statements_leave j rs

script_leaves : (j : Jump) (rs : List Rebuild) → leaves j (saved_script rs) ≡ false
script_leaves j rs = or_from (leaves j (statements rs) || false) false (or_from (leaves j (statements rs)) false (statements_leave j rs) refl) refl

rules_of : (c : tree.Code) (needs : List (List ℕ × Value)) → IsFormFunction c needs → KeepsRules (called c needs)
rules_of c needs f = rules_are_kept (called c needs) f.orderly

jumps_of : (c : tree.Code) (needs : List (List ℕ × Value)) → IsFormFunction c needs → stmts_any has_stray_jump (called c needs) ≡ false
jumps_of c needs f = (or_parts (strays (called c needs)) (stmts_any has_stray_jump (called c needs)) (rules_of c needs f).jumps).1

script_keeps : (rs : List Rebuild) → All IsInForm rs → KeepsRules (saved_script rs)
script_keeps rs all = record {
  formals = script_quiet repeats_formal formals_quiet (λ c needs f. none_pass repeats_formal c needs (rules_of c needs f).formals) rs all refl;
  fields = script_quiet repeats_field fields_quiet (λ c needs f. none_pass repeats_field c needs (rules_of c needs f).fields) rs all refl;
  deleted = script_quiet deletes_name deleted_quiet (λ c needs f. none_pass deletes_name c needs (rules_of c needs f).deleted) rs all refl;
  restricted = script_quiet has_restricted_name restricted_quiet
      (λ c needs f. none_pass has_restricted_name c needs (rules_of c needs f).restricted) rs all refl;
  returns = script_leaves jump.Return rs;
  jumps = or_from (strays (saved_script rs)) (stmts_any has_stray_jump (saved_script rs))
      (or_from (leaves jump.Break (saved_script rs)) (leaves jump.Continue (saved_script rs)) (script_leaves jump.Break rs)
      (script_leaves jump.Continue rs))
      (script_quiet has_stray_jump jumps_quiet (λ c needs f. none_pass has_stray_jump c needs (jumps_of c needs f)) rs all refl);
  targets = script_quiet has_bad_target targets_quiet (λ c needs f. none_pass has_bad_target c needs (rules_of c needs f).targets) rs all refl;
  own = script_quiet assigns_own_name own_quiet (λ c needs f. none_pass assigns_own_name c needs (rules_of c needs f).own) rs all refl;
  globals = refl;
}

-- ---- it is in form

record FormParts (script : tree.Stmts) : Type 0 where
  closed : has_open_reserved script ≡ false
  top : has_inner_declaration script ≡ false
  scopes : stmts_any scope_out_of_form script ≡ false

form_parts : (script : tree.Stmts) → in_form script ≡ true → FormParts script
form_parts script e =
    let whole = and_parts (not (has_open_reserved script) && not (has_inner_declaration script)) (not (stmts_any scope_out_of_form script)) e in
    let parts = and_parts (not (has_open_reserved script)) (not (has_inner_declaration script)) whole.0 in
    record {
      closed = not-true (has_open_reserved script) parts.0;
      top = not-true (has_inner_declaration script) parts.1;
      scopes = not-true (stmts_any scope_out_of_form script) whole.1;
    }

from_parts : (script : tree.Stmts) → FormParts script → in_form script ≡ true
from_parts script p =
    and_from (not (has_open_reserved script) && not (has_inner_declaration script)) (not (stmts_any scope_out_of_form script))
    (and_from (not (has_open_reserved script)) (not (has_inner_declaration script)) (not_from_false (has_open_reserved script) p.closed)
    (not_from_false (has_inner_declaration script) p.top))
    (not_from_false (stmts_any scope_out_of_form script) p.scopes)

none_declared : (rs : List Rebuild) → declared_names (statements rs) ≡ []
none_declared [] = refl
none_declared (r ∷ rs) = none_declared rs

script_is_closed : (rs : List Rebuild) → All IsInForm rs → has_open_reserved (saved_script rs) ≡ false
script_is_closed rs all =
    let us : List Use = stmts_uses (body rs) in
    let left : List Use = leaving_clause list_name us in
    let same : (left ++ []) ++ [] ≡ left = append-nil (left ++ []) ∙ append-nil left in
    or_from (any_use_is_reserved (stmts_uses (saved_script rs))) (any_is_reserved (declared_names (saved_script rs)))
    (ap any_use_is_reserved same ∙ clause_leaves us (body_own rs all).each)
    (ap (λ names. any_is_reserved ((names ++ []) ++ [])) (none_declared rs))

uncaptured : (x : List ℕ) (ss : tree.Stmts) → is_captured x (stmts_uses ss) ≡ false → is_clause_out_of_form x ss ≡ false
uncaptured x ss e = rw e refl

script_has_form : (rs : List Rebuild) → All IsInForm rs → FormParts (saved_script rs)
script_has_form rs all =
    let caught : is_clause_out_of_form list_name (body rs) ≡ false =
    uncaptured list_name (body rs) (list_is_not_captured (stmts_uses (body rs)) (body_own rs all).each)
    in
    record {
      closed = script_is_closed rs all;
      top = script_quiet is_declaration declarations_quiet
          (λ c needs f. none_pass is_declaration c needs (form_parts (called c needs) f.formed).top) rs all refl;
      scopes = script_quiet scope_out_of_form form_quiet
          (λ c needs f. none_pass scope_out_of_form c needs (form_parts (called c needs) f.formed).scopes) rs all caught;
    }

-- ---- the law

pub saved_scripts_are_form : SavedScriptsAreForm
saved_scripts_are_form s things still walk written =
    let rs : List Rebuild = plan (compact s things) in
    let all : All IsInForm rs = plan_in_form s things still walk in
    let fit = statements_fit rs written in
    let form : IsFormScript (saved_script rs) =
    record {
      formed = from_parts (saved_script rs) (script_has_form rs all);
      orderly = none_is_broken (saved_script rs) (script_keeps rs all);
      low = script_is_low rs fit.1;
    } in
    (script_is_syntax rs fit.0, record { form = form; functions = script_quiet is_high_function high_quiet functions_are_low rs all refl })
