-- In a script of a form page that some tokens have, each function but one that is called at once to bind names is asked so, and low.
use Rattle.std.proofs.Common.{◌≡◌, refl, ap, ℕ, ◌+◌, Bool, true, false, not, ◌&&◌, nat_le, nat_lt}
use Rattle.std.proofs.lemmas.Bool.{le-leb, ltb-false}
use Rattle.agreement.specs.Formed.{is_unasked, nameless}
use Rattle.instrumenter.proofs.Callers.{stmts_narrow}
use Rattle.js_core.specs.Height.{code_height}
use Rattle.js_core.specs.Tree as tree
use Rattle.js_core.specs.Tree.{code, func, function}
use Rattle.js_grammar.specs.Syntax.{IsSyntax}
use Rattle.early_rules.specs.FormNodes.{is_factory, is_high_function}
use Rattle.script_rules.specs.FormScripts.{IsFormPageScript}
use Rattle.early_rules.specs.Limits.{function_height_limit}
use Rattle.scope_analysis.specs.Nodes.{Node, expression, statement, stmts_any}
use Rattle.page_rest.proofs.AskedTrees.{functions_are_asked}
use Rattle.page_rest.specs.Asks.{is_asked, is_asked_low, is_low, is_not_asked}

low_of : (n : ℕ) → nat_lt function_height_limit n ≡ false → nat_le n function_height_limit ≡ true
low_of n e = le-leb n function_height_limit (ltb-false function_height_limit n e)

both_if : (asked low : Bool) → not asked ≡ false → low ≡ true → not (asked && low) ≡ false
both_if true low e f = ap not f
both_if false low e f = absurd (cc e)

called : (spared asked : Bool) (n : ℕ) → not asked ≡ false → (not spared && nat_lt function_height_limit n) ≡ false
    → (not spared && not (asked && nat_le n function_height_limit)) ≡ false
called true asked n e f = refl
called false asked n e f = both_if asked (nat_le n function_height_limit) e (low_of n f)

asked_low : (n : Node) → is_not_asked n ≡ false → is_high_function n ≡ false → is_unasked is_asked_low n ≡ false
asked_low (expression is_callee (func c)) e f = called (is_callee && is_factory c) (is_asked c) (code_height c + 1) e f
asked_low (statement (function (code x formals body))) e f =
    both_if (is_asked (nameless (code x formals body))) (is_low (code x formals body)) e (low_of (code_height (code x formals body) + 1) f)
asked_low n e f = refl

pub functions_are_low : (script : tree.Stmts) → IsFormPageScript script → IsSyntax script → stmts_any (is_unasked is_asked_low) script ≡ false
functions_are_low script is syntax =
    stmts_narrow is_not_asked is_high_function (is_unasked is_asked_low) asked_low script (functions_are_asked script is.form syntax) is.functions
