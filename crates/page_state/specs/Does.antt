-- What is done at once: acts that take no step and run no part of a script.
use Rattle.std.specs.Prelude.{◌≡◌, ℕ, Result, Ok, Err}
use Rattle.js_values.specs.declared.value.Value.{Value}
use Rattle.js_values.specs.declared.value.Value.TheVariants.{Undefined}
use Rattle.page_meaning.specs.declared.signal.Signal.TheVariants.{Value as Val, Thrown}
use Rattle.page_meaning.specs.Act.{Act, ActOf, Calls, Ended}
use Rattle.page_meaning.specs.Store.{Store}
use Rattle.js_core.specs.declared.memory.Failure.{Failure}
use Rattle.js_core.specs.declared.memory.Failure.TheVariants as fault

-- whatever calls may be made and however many steps are left, the act ends with this, leaves that page and takes no step
pub record Does {A : Type 0} (act : Calls → ActOf A) (s : Store) (a : A) (t : Store) : Type 0 where
  pub is : (calls : Calls) (n : ℕ) → (act calls).run s n ≡ Ended a t n

-- it throws this; nothing is said where memory ran out
abbrev pub Raises : (Calls → Act) → Store → Store → Failure Value → Type 0
Raises act s t (fault.Cause v) = Does act s (Thrown v) t
Raises act s t fault.OutOfMemory = Unit {0}

-- it gives what stands for this value, or throws
abbrev pub Gives : {A : Type 0} → (A → Value) → (Calls → Act) → Store → Store → Result A (Failure Value) → Type 0
Gives f act s t (Ok a) = Does act s (Val (f a)) t
Gives f act s t (Err e) = Raises act s t e

-- the value itself
abbrev pub itself : Value → Value
itself v = v

-- an end that no value tells
abbrev pub no_value : Unit {0} → Value
no_value u = Undefined
