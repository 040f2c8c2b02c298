-- What is done at once but for steps that it takes.
use Rattle.std.specs.Prelude.{◌≡◌, ℕ, suc, Result, Ok, Err}
use Rattle.js_values.specs.declared.value.Value.{Value}
use Rattle.page_meaning.specs.declared.signal.Signal.TheVariants.{Value as Val, Thrown}
use Rattle.page_meaning.specs.Act.{Act, ActOf, Calls, Outcome, Ended, Stopped}
use Rattle.page_meaning.specs.Store.{Store}
use Rattle.js_core.specs.declared.memory.Failure.TheVariants as fault
use Rattle.page_state.specs.declared.turns.Halt.{Halt}
use Rattle.page_state.specs.declared.turns.Halt.TheVariants as halt

-- a step was taken, or none was left
abbrev pub Turned : ℕ → ℕ → Result (Unit {0}) Halt → Type 0
Turned n m (Ok u) = n ≡ suc m
Turned n m (Err e) = (n ≡ 0) × ((m ≡ 0) × (e ≡ halt.Stopped))

-- whatever calls may be made, the act comes to this from that page with so many steps left
pub record Comes {A : Type 0} (act : Calls → ActOf A) (s : Store) (n : ℕ) (o : Outcome A) : Type 0 where
  pub is : (calls : Calls) → (act calls).run s n ≡ o

-- it throws this or stops; nothing is said where memory ran out
abbrev pub Halts : (Calls → Act) → Store → ℕ → Store → ℕ → Halt → Type 0
Halts act s n t m (halt.Fault (fault.Cause v)) = Comes act s n (Ended (Thrown v) t m)
Halts act s n t m (halt.Fault fault.OutOfMemory) = Unit {0}
Halts act s n t m halt.Stopped = Comes act s n (Stopped t)

-- it gives what stands for this value, leaves that page and so many steps, or halts
abbrev pub Ends : {A : Type 0} → (A → Value) → (Calls → Act) → Store → ℕ → Store → ℕ → Result A Halt → Type 0
Ends f act s n t m (Ok a) = Comes act s n (Ended (Val (f a)) t m)
Ends f act s n t m (Err e) = Halts act s n t m e

-- it tells this, or stops; it throws nothing
abbrev pub Tells : {A : Type 0} → (Calls → ActOf A) → Store → ℕ → Store → ℕ → Result A Halt → Type 0
Tells act s n t m (Ok a) = Comes act s n (Ended a t m)
Tells act s n t m (Err (halt.Fault (fault.Cause v))) = ⊥
Tells act s n t m (Err (halt.Fault fault.OutOfMemory)) = Unit {0}
Tells act s n t m (Err halt.Stopped) = Comes act s n (Stopped t)
