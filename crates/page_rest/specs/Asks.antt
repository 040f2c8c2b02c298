-- What holds of each function in a script of a form page, wherever it stands: alone in a call that binds its needed variables, it is a script of
-- a form page, too.
use Rattle.std.specs.Prelude.{◌≡◌, ◌+◌, Bool, true, false, not, ◌&&◌, nat_le, Option, Some, None}
use Rattle.agreement.specs.Formed.{nameless}
use Rattle.heap_walker.specs.Still.{wrapped}
use Rattle.js_core.specs.Height.{code_height}
use Rattle.js_core.specs.Tree as tree
use Rattle.js_core.specs.Tree.{func, function}
use Rattle.js_grammar.specs.Syntax.{IsSyntax}
use Rattle.page_rest.specs.Trees.{keeps_code}
use Rattle.early_rules.specs.EarlyRules.{early_rule}
use Rattle.script_rules.specs.Form.{in_form}
use Rattle.script_rules.specs.FormScripts.{IsFormScript}
use Rattle.early_rules.specs.Limits.{function_height_limit}
use Rattle.scope_analysis.specs.Nodes.{Node, expression, statement, stmts_any}

abbrev pub is_no : {A : Type 0} → Option A → Bool
is_no None = true
is_no (Some x) = false

abbrev pub is_formed : tree.Code → Bool
is_formed c = in_form (wrapped c) && is_no (early_rule (wrapped c))

-- it keeps the rules on trees, too
abbrev pub is_asked : tree.Code → Bool
is_asked c = keeps_code c && is_formed c

-- and, as an expression, it is no higher than a function of a form page
abbrev pub is_low : tree.Code → Bool
is_low c = nat_le (code_height c + 1) function_height_limit

abbrev pub is_asked_low : tree.Code → Bool
is_asked_low c = is_asked c && is_low c

-- the node is a function for which that does not hold
abbrev pub is_unformed : Node → Bool
is_unformed (expression is_callee (func c)) = not (is_formed c)
is_unformed (statement (function c)) = not (is_formed (nameless c))
is_unformed n = false

-- the node is a function that is not asked so
abbrev pub is_not_asked : Node → Bool
is_not_asked (expression is_callee (func c)) = not (is_asked c)
is_not_asked (statement (function c)) = not (is_asked (nameless c))
is_not_asked n = false

-- no function in a script of a form page is such a one
abbrev pub FunctionsAreFormed : Type 0
FunctionsAreFormed = (script : tree.Stmts) → IsFormScript script → stmts_any is_unformed script ≡ false

abbrev pub FunctionsAreAsked : Type 0
FunctionsAreAsked = (script : tree.Stmts) → IsFormScript script → IsSyntax script → stmts_any is_not_asked script ≡ false
