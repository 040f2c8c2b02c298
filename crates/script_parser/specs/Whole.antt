-- What reading a whole script gives.
use Rattle.std.specs.Prelude.{◌≡◌, ◌≢◌, Option, Some, None, Result, Ok, Err}
use Rattle.std.specs.declared.alloc.Global.{Global}
use Rattle.std.specs.declared.vec.Vec.{Vec}
use Rattle.js_core.specs.Tree as tree
use Rattle.js_core.specs.Tree.{stmts_of}
use Rattle.js_core.specs.declared.memory.Failure.{Failure}
use Rattle.expression_parser.specs.declared.fault.NotScript.{NotScript}
use Rattle.js_core.specs.declared.memory.Failure.TheVariants.{OutOfMemory}

-- the statements of the script, or that there is none, unless memory fails
abbrev pub GivesBody : Option tree.Stmts → Result (Vec tree.Stmt Global) (Failure NotScript) → Type 0
GivesBody outcome (Ok found) = outcome ≡ Some (stmts_of found.items)
GivesBody outcome (Err e) = e ≢ OutOfMemory → outcome ≡ None
