-- Want of memory, of which no clause says when it comes.
use Rattle.std.specs.Prelude.{Ok, Err, Result, ⊤}
use Rattle.js_core.specs.declared.memory.Failure.{Failure}
use Rattle.js_core.specs.declared.memory.Failure.TheVariants.{Cause, OutOfMemory}

-- P of the cause, where a call failed for one
abbrev pub IfCause : {T C : Type 0} → Result T (Failure C) → (C → Type 0) → Type 0
IfCause (Ok v) P = ⊤
IfCause (Err (Cause c)) P = P c
IfCause (Err OutOfMemory) P = ⊤
