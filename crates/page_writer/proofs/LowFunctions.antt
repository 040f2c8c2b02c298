-- No function of a saved page is higher than a form page may have it.
use Rattle.std.proofs.Common.{◌≡◌, refl, ℕ, ◌+◌, true, false, not, ◌&&◌, List, nat_lt}
use Rattle.std.proofs.lemmas.Bool.{and_left, and_from, not_from_true, or_from}
use Rattle.js_core.specs.Height.{code_height}
use Rattle.js_core.specs.Tree as tree
use Rattle.js_core.specs.Tree.{func}
use Rattle.js_values.specs.declared.value.Value.{Value}
use Rattle.script_rules.proofs.Callers.{expr_has_no_high_function}
use Rattle.early_rules.specs.FormNodes.{is_factory, is_high_function}
use Rattle.early_rules.specs.Limits.{function_height_limit}
use Rattle.scope_analysis.specs.Nodes.{expr_any}
use Rattle.page_writer.proofs.FormFunctions.{IsFormFunction, NonePass}
use Rattle.page_writer.specs.Statements.{binder}

-- the function that binds needed variables is a factory, and the function is low
pub functions_are_low : (c : tree.Code) (needs : List (List ℕ × Value)) → IsFormFunction c needs → NonePass is_high_function c needs
functions_are_low c needs f =
    let own : expr_any is_high_function false (func c) ≡ false = expr_has_no_high_function false (func c) f.low in
    let factory : is_factory (binder c needs) ≡ true = and_from _ true f.reserved refl in
    let callee : (not (true && is_factory (binder c needs)) && nat_lt function_height_limit (code_height (binder c needs) + 1)) ≡ false =
    and_left (not (is_factory (binder c needs))) (nat_lt function_height_limit (code_height (binder c needs) + 1)) (not_from_true (is_factory (binder c needs)) factory)
    in
    (or_from _ _ callee (or_from _ _ own refl), own)
