-- The clauses of a `switch`, as the code holds them.
use Rattle.std.specs.Prelude.{◌≡◌, ◌≢◌, List, [], ◌∷◌, Option, Some, None, Result, Ok, Err}
use Rattle.std.specs.declared.alloc.Global.{Global}
use Rattle.std.specs.declared.vec.Vec.{Vec}
use Rattle.js_core.specs.declared.syntax.Case.{Case}
use Rattle.js_grammar.specs.Parser.{Outcome}
use Rattle.js_grammar.specs.Statements.{Clause}
use Rattle.js_grammar.specs.Symbols.{Lexeme}
use Rattle.js_core.specs.declared.memory.Failure.{Failure}
use Rattle.expression_parser.specs.declared.fault.NotScript.{NotScript}
use Rattle.js_core.specs.declared.memory.Failure.TheVariants.{OutOfMemory}

abbrev pub clause_of : Case → Clause
clause_of c = (c.test, c.body.items)

abbrev pub clauses_of : List Case → List Clause
clauses_of [] = []
clauses_of (c ∷ cs) = clause_of c ∷ clauses_of cs

-- the reader's clause and the lexemes behind it, unless memory fails
abbrev pub ReadsClause : Outcome Clause → Result Case (Failure NotScript) → List Lexeme → Type 0
ReadsClause outcome (Ok c) new = outcome ≡ Some (clause_of c, new)
ReadsClause outcome (Err e) new = e ≢ OutOfMemory → outcome ≡ None

-- the same of a list
abbrev pub ReadsClauses : Outcome (List Clause) → Result (Vec Case Global) (Failure NotScript) → List Lexeme → Type 0
ReadsClauses outcome (Ok found) new = outcome ≡ Some (clauses_of found.items, new)
ReadsClauses outcome (Err e) new = e ≢ OutOfMemory → outcome ≡ None
