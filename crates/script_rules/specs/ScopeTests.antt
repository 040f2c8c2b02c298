-- The tests that functions and catch clauses are put to, for which the uses inside are found.
use Rattle.std.specs.Prelude.{ℕ, Bool, false, List}
use Rattle.js_core.specs.Tree as tree
use Rattle.script_rules.specs.declared.scope_test.ScopeTest.{ScopeTest}
use Rattle.script_rules.specs.declared.scope_test.ScopeTest.TheVariants as test
use Rattle.scope_analysis.specs.Nodes.{Node, of_scopes}
use Rattle.early_rules.specs.EarlyRules.{assigns_own}
use Rattle.script_rules.specs.Form.{is_expression_out_of_form, is_declaration_out_of_form, is_clause_out_of_form}

abbrev pub expression_scope : ScopeTest → tree.Code → Bool
expression_scope test.AssignsOwnName c = assigns_own c
expression_scope test.IsOutOfForm c = is_expression_out_of_form c

abbrev pub declaration_scope : ScopeTest → tree.Code → Bool
declaration_scope test.AssignsOwnName c = false
declaration_scope test.IsOutOfForm c = is_declaration_out_of_form c

abbrev pub clause_scope : ScopeTest → List ℕ → tree.Stmts → Bool
clause_scope test.AssignsOwnName x ss = false
clause_scope test.IsOutOfForm x ss = is_clause_out_of_form x ss

abbrev pub scope_passes : ScopeTest → Node → Bool
scope_passes t n = of_scopes (expression_scope t) (declaration_scope t) (clause_scope t) n
