-- The clauses of a `switch` as cases of a tree, and the count of those that are `default`.
use Rattle.std.proofs.Common.{◌≡◌, Bool, true, false, List, [], ◌∷◌, ◌++◌, Some, None, refl, ap}
use Rattle.std.specs.Prelude.{not, if◌then◌else◌}
use Rattle.js_core.specs.Tree as tree
use Rattle.js_core.specs.Tree.{maybe_expr, stmts_of}
use Rattle.js_core.specs.Views.{cases_of}
use Rattle.js_core.specs.declared.syntax.Case.{Case}
use Rattle.js_grammar.specs.Statements.{Clause, cases_from, has_default, has_one_default}
use Rattle.script_parser.specs.Clauses.{clause_of, clauses_of}

pub same_cases : (cs : List Case) → cases_from (clauses_of cs) ≡ cases_of cs
same_cases [] = refl
same_cases (c ∷ cs) = ap (tree.then_case (maybe_expr c.test) (stmts_of c.body.items)) (same_cases cs)

pub clauses_pushed : (cs : List Case) (c : Case) → clauses_of (cs ++ c ∷ []) ≡ clauses_of cs ++ clause_of c ∷ []
clauses_pushed [] c = refl
clauses_pushed (d ∷ cs) c = ap (λ ds. clause_of d ∷ ds) (clauses_pushed cs c)

-- whether the rest has no second `default`, where one was found or not
abbrev pub one_default : Bool → List Clause → Bool
one_default true cs = not (has_default cs)
one_default false cs = has_one_default cs
