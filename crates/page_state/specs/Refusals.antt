-- What the heap refused.
use Rattle.std.specs.Prelude.{◌≡◌, Option, Some, None, Result, Ok, Err}
use Rattle.js_core.specs.declared.memory.OutOfMemory.{OutOfMemory}
use Rattle.js_values.specs.declared.throw.Throw.{Throw}
use Rattle.js_core.specs.declared.memory.Failure.{Failure}
use Rattle.js_core.specs.declared.memory.Failure.TheVariants as fault

-- the answer of a call on the heap tells which error is thrown, if one is; want of memory tells nothing
abbrev pub Refuses : Result (Unit {0}) (Failure Throw) → Result (Option Throw) OutOfMemory → Type 0
Refuses (Ok u) (Ok t) = t ≡ None
Refuses (Err (fault.Cause e)) (Ok t) = t ≡ Some e
Refuses (Err fault.OutOfMemory) (Ok t) = ⊥
Refuses answer (Err e) = Unit {0}
