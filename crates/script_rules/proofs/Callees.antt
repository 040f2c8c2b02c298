-- The tests on functions and catch clauses do not ask whether an expression is a callee.
use Rattle.std.proofs.Common.{◌≡◌, true, false, refl}
use Rattle.js_core.specs.Tree as tree
use Rattle.js_core.specs.Tree.{name, num, text, bool, null, this, list, literal, func, member, index, call, construct, unary, update, binary, logical_and, logical_or, conditional, assign, comma}
use Rattle.script_rules.specs.declared.scope_test.ScopeTest.{ScopeTest}
use Rattle.scope_analysis.specs.Nodes.{expr_any}
use Rattle.script_rules.specs.ScopeTests.{scope_passes}

pub same_at_callee : (test : ScopeTest) (e : tree.Expr) → expr_any (scope_passes test) true e ≡ expr_any (scope_passes test) false e
same_at_callee test (name x) = refl
same_at_callee test e = refl
