-- What a function that reads ensures.
use Rattle.std.specs.Prelude.{◌≡◌, ◌≢◌, Bool, List, [], ◌∷◌, Option, Some, None, Result, Ok, Err}
use Rattle.std.specs.declared.alloc.Global.{Global}
use Rattle.std.specs.declared.vec.Vec.{Vec}
use denote.Ref.{MutBor}
use Rattle.std.specs.Borrow.{Bor}
use Rattle.js_grammar.specs.Parser.{Outcome, Parser}
use Rattle.js_grammar.specs.Symbols.{Lexeme}
use Rattle.js_core.specs.declared.memory.Failure.{Failure}
use Rattle.expression_parser.specs.declared.fault.NotScript.{NotScript}
use Rattle.js_core.specs.declared.memory.Failure.TheVariants.{OutOfMemory}

-- the reader's outcome and the lexemes behind it, unless memory fails
abbrev pub Reads : {A : Type 0} → Outcome A → Result A (Failure NotScript) → List Lexeme → Type 0
Reads outcome (Ok a) new = outcome ≡ Some (a, new)
Reads outcome (Err e) new = e ≢ OutOfMemory → outcome ≡ None

-- the same of a list
abbrev pub ReadsAll : {A : Type 0} → Outcome (List A) → Result (Vec A Global) (Failure NotScript) → List Lexeme → Type 0
ReadsAll outcome (Ok found) new = outcome ≡ Some (found.items, new)
ReadsAll outcome (Err e) new = e ≢ OutOfMemory → outcome ≡ None

-- the same without lexemes behind
abbrev pub Gives : {A : Type 0} → Option A → Result A (Failure NotScript) → Type 0
Gives outcome (Ok a) = outcome ≡ Some a
Gives outcome (Err e) = e ≢ OutOfMemory → outcome ≡ None

-- whether a line end stands before the next symbol, where there is one
abbrev pub after_line : List Lexeme → Option Bool
after_line [] = None
after_line (t ∷ ts) = Some t.1

-- what a function value ensures that tests what comes next
abbrev pub Tests : (List Lexeme → Bool) → (Bor (List Lexeme) → Bool → Type 0) → Type 0
Tests asks post = (i : Bor (List Lexeme)) (r : Bool) → post i r → r ≡ asks i.now

-- what a function value ensures that reads an item
abbrev pub ReadsItems : {A : Type 0} → Parser A → (MutBor (List Lexeme) → Result A (Failure NotScript) → MutBor (List Lexeme) → Type 0) → Type 0
ReadsItems reader post = (old : MutBor (List Lexeme)) (r : Result _ (Failure NotScript)) (new : MutBor (List Lexeme)) → post old r new → Reads (reader old.now) r new.now
