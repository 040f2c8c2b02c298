-- What arguments come to, and then whatever is done with it.
use Rattle.std.specs.Prelude.{◌≡◌, ℕ, Result, Ok, Err}
use Rattle.js_core.specs.declared.memory.Failure.{Failure}
use Rattle.js_core.specs.declared.memory.Failure.TheVariants as fault
use Rattle.js_values.specs.declared.value.Value.{Value}
use Rattle.page_meaning.specs.declared.signal.Signal.TheVariants.{Thrown}
use Rattle.page_meaning.specs.Act.{Act, Calls, Ended}
use Rattle.page_meaning.specs.Store.{Store}

-- whatever calls may be made and whatever comes next, the act goes on with this, or throws, and takes no step
abbrev pub Comes : (A : Type 0) → (Calls → (A → Act) → Act) → Store → Store → Result A (Failure Value) → Type 0
Comes A act s t (Ok a) = (calls : Calls) (next : A → Act) (n : ℕ) → (act calls next).run s n ≡ (next a).run t n
Comes A act s t (Err (fault.Cause u)) = (calls : Calls) (next : A → Act) (n : ℕ) → (act calls next).run s n ≡ Ended (Thrown u) t n
Comes A act s t (Err fault.OutOfMemory) = Unit {0}
