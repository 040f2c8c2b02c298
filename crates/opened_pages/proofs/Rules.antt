-- Opened scripts of plain pages keep the rules of form pages.
use Rattle.std.proofs.Common.{◌≡◌, ap, sym, subst, ◌∙◌, ℕ, ◌+◌, ◌≤◌, Bool, ◌||◌, List, [], ◌∷◌, Result, Ok, Err, IfOk}
use Rattle.std.specs.List.{All}
use Rattle.std.proofs.lemmas.Bool.{le-ltb, ltb-false, not-true}
use Rattle.std.proofs.lemmas.List.Elements.{All-cons, All-head, All-nil, All-tail, All-weaker}
use Rattle.js_core.specs.Height.{stmts_height}
use Rattle.js_core.specs.Tree as tree
use Rattle.instrumenter.specs.Counting.{stmts_scopes}
use Rattle.instrumenter.specs.Opened.{IsPlainScript, OpenedScriptsAreForm}
use Rattle.instrumenter.specs.Opening.{open_from, open_script, open_scripts}
use Rattle.js_grammar.specs.Syntax.{IsSyntax}
use Rattle.page_check.specs.Rules.{AllKeepRules, KeepsRules}
use Rattle.page_check.specs.declared.page.Kind.TheVariants.{Form, Plain}
use Rattle.script_rules.specs.Form.{has_high_function, has_reserved_name}
use Rattle.script_rules.specs.FormScripts.{IsFormPageScript}
use Rattle.early_rules.specs.Limits.{form_height_limit, plain_height_limit}

low_of : (script : tree.Stmts) → KeepsRules Plain script → stmts_height script ≤ plain_height_limit
low_of script keeps = ltb-false plain_height_limit (stmts_height script) keeps.low

plain_of : (script : tree.Stmts) → KeepsRules Plain script → IsPlainScript script
plain_of script keeps = record {
  syntax = keeps.syntax;
  orderly = keeps.orderly;
  low = low_of script keeps;
  plain = not-true (has_reserved_name script) keeps.formed;
}

form_of : (script : tree.Stmts) → IsSyntax script → IsFormPageScript script → KeepsRules Form script
form_of script syntax form = record {
  syntax = syntax;
  orderly = form.form.orderly;
  low = ap (λ (b : Bool). b || has_high_function script) (le-ltb form_height_limit (stmts_height script) form.form.low) ∙ form.functions;
  formed = form.form.formed;
}

pub all_low : (scripts : List tree.Stmts) → AllKeepRules Plain scripts → All (λ body. stmts_height body ≤ plain_height_limit) scripts
all_low scripts keep = All-weaker (KeepsRules Plain) (λ body. stmts_height body ≤ plain_height_limit) low_of scripts keep

all_form : OpenedScriptsAreForm → (n : ℕ) (scripts : List tree.Stmts) → AllKeepRules Plain scripts → AllKeepRules Form (open_from n scripts)
all_form formed n [] keep = All-nil (KeepsRules Form)
all_form formed n (body ∷ bodies) keep =
    let is = formed n body (plain_of body (All-head (KeepsRules Plain) body bodies keep)) in
    All-cons (KeepsRules Form) (open_script n body) (open_from (n + stmts_scopes body) bodies) (form_of (open_script n body) is.0 is.1)
    (all_form formed (n + stmts_scopes body) bodies (All-tail (KeepsRules Plain) body bodies keep))

-- where they may be wanting
pub opened_rules : {T E : Type 0} → OpenedScriptsAreForm → (scripts : List tree.Stmts) (items : T → List tree.Stmts) (r : Result T E) → AllKeepRules Plain scripts
    → IfOk r (λ opened. items opened ≡ open_scripts scripts) → IfOk r (λ opened. AllKeepRules Form (items opened))
opened_rules formed scripts items (Ok opened) keep e = subst (AllKeepRules Form) (sym e) (all_form formed 1 scripts keep)
opened_rules formed scripts items (Err f) keep e = tt
