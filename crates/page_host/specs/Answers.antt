-- What calls answer.
use Rattle.std.specs.Prelude.{Option, Some, None, Result, Ok, Err}
use Rattle.dom_tree.specs.declared.fault.DomError.{DomError}

-- the error, if there is one
abbrev pub answer_of : Option DomError → Result (Unit {0}) DomError
answer_of None = Ok tt
answer_of (Some e) = Err e
