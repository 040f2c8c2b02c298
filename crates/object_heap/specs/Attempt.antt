-- What is tried on a thing that can refuse.
use Rattle.std.specs.Prelude.{◌≡◌, Option, Some, None, Result, Ok, Err}
use Rattle.js_values.specs.declared.throw.Throw.{Throw}
use Rattle.js_core.specs.declared.memory.Failure.{Failure}
use Rattle.js_core.specs.declared.memory.Failure.TheVariants as fault

-- the thing as it is afterwards, and the error that is thrown, if one is
pub record Attempt (A : Type 0) : Type 0 where
  pub after : A
  pub thrown : Option Throw

abbrev pub done : {A : Type 0} → A → Attempt A
done a = record { after = a; thrown = None }

abbrev pub throws : {A : Type 0} → A → Throw → Attempt A
throws a t = record { after = a; thrown = Some t }

-- a call did what was tried; after want of memory all is as before
abbrev pub Follows : {A : Type 0} → Attempt A → A → A → Result (Unit {0}) (Failure Throw) → Type 0
Follows attempt old new (Ok u) = (new ≡ attempt.after) × (attempt.thrown ≡ None)
Follows attempt old new (Err (fault.Cause t)) = (new ≡ attempt.after) × (attempt.thrown ≡ Some t)
Follows attempt old new (Err fault.OutOfMemory) = new ≡ old
