-- An accepted script that is in form is one of a form page.
use Rattle.std.proofs.Common.{◌≡◌, ℕ, ◌≤◌, true, false, nat_lt, List, [], ◌∷◌, arith}
use Rattle.std.specs.List.{All, list_all}
use Rattle.std.proofs.lemmas.Bool.{and_parts, ltb-false, or_parts}
use Rattle.std.proofs.lemmas.List.Elements.{All-cons, All-head, All-nil, All-tail}
use Rattle.js_core.specs.Height.{stmts_height}
use Rattle.js_core.specs.Tree as tree
use Rattle.js_grammar.specs.Scripts.{TokensHaveSyntax}
use Rattle.js_grammar.specs.Syntax.{IsSyntax}
use Rattle.js_print.specs.Written.{TokensCanBeWritten}
use Rattle.page_check.specs.Accept.{ArePageScripts, IsPageScript, is_too_deep, texts_of}
use Rattle.page_check.specs.declared.page.Kind.{Kind}
use Rattle.page_check.specs.declared.page.Kind.TheVariants.{Plain, Form}
use Rattle.page_rest.specs.Laws.{IsInForm}
use Rattle.printed_pages.proofs.Callers.{TextsHaveUnits, accepted_scripts_have_syntax}
use Rattle.script_rules.proofs.Callers.{has_no_high_function}
use Rattle.script_rules.specs.Form.{has_high_function, in_form}
use Rattle.early_rules.specs.Limits.{form_height_limit, plain_height_limit}
use Rattle.moved_pages.specs.Moved.{AcceptedScriptsAreInForm}

low_of : (kind : Kind) (script : tree.Stmts) → is_too_deep kind script ≡ false → stmts_height script ≤ form_height_limit
low_of Plain script h = omega (arith, ltb-false plain_height_limit (stmts_height script) h)
low_of Form script h = ltb-false form_height_limit (stmts_height script) (or_parts (nat_lt form_height_limit (stmts_height script)) (has_high_function script) h).0

no_high_of : (kind : Kind) (script : tree.Stmts) → is_too_deep kind script ≡ false → has_high_function script ≡ false
no_high_of Plain script h = has_no_high_function script (omega (arith, ltb-false plain_height_limit (stmts_height script) h))
no_high_of Form script h = (or_parts (nat_lt form_height_limit (stmts_height script)) (has_high_function script) h).1

one_in_form : (kind : Kind) (text : List ℕ) (script : tree.Stmts) → IsPageScript kind text script → in_form script ≡ true → IsSyntax script → IsInForm script
one_in_form kind text script is formed syntax = (
  record {
    form = record { formed = formed; orderly = is.low.orderly.orderly; low = low_of kind script is.low.low };
    functions = no_high_of kind script is.low.low;
  },
  syntax,
)

all_in_form : (kind : Kind) (texts : List (List ℕ)) (scripts : List tree.Stmts) → ArePageScripts kind texts scripts → list_all in_form scripts ≡ true
    → All IsSyntax scripts → All IsInForm scripts
all_in_form kind [] [] read formed syntax = All-nil IsInForm
all_in_form kind (text ∷ texts) (script ∷ scripts) read formed syntax =
    let parts = and_parts (in_form script) (list_all in_form scripts) formed in
    All-cons IsInForm script scripts (one_in_form kind text script read.0 parts.0 (All-head IsSyntax script scripts syntax))
    (all_in_form kind texts scripts read.1 parts.1 (All-tail IsSyntax script scripts syntax))
all_in_form kind [] (script ∷ scripts) read formed syntax = absurd read
all_in_form kind (text ∷ texts) [] read formed syntax = absurd read

pub accepted_scripts_in_form : TokensCanBeWritten → TokensHaveSyntax → TextsHaveUnits → AcceptedScriptsAreInForm
accepted_scripts_in_form written syntax units bytes page is formed =
    all_in_form page.kind (texts_of is.texts) page.scripts is.read formed (accepted_scripts_have_syntax written syntax units bytes page is)
