-- What takes steps, and what is done at once, one after another.
use Rattle.std.proofs.Common.{◌≡◌, refl, ℕ, Result, Ok, Err}
use Rattle.std.specs.Result.{IsErr, IsErrAnd}
use Rattle.js_values.specs.declared.value.Value.{Value}
use Rattle.page_meaning.specs.declared.signal.Signal.TheVariants.{Value as Val}
use Rattle.page_meaning.specs.Act.{Act, ActOf, Calls, also, bind, give}
use Rattle.page_meaning.specs.Store.{Store}
use Rattle.js_core.specs.declared.memory.Failure.{Failure}
use Rattle.js_core.specs.declared.memory.Failure.TheVariants as fault
use Rattle.page_state.specs.declared.turns.Halt.{Halt}
use Rattle.page_state.specs.declared.turns.Halt.TheVariants as halt
use Rattle.page_state.specs.Does.{Does, Gives, Raises, itself}
use Rattle.page_state.specs.Turns.{Ends, Halts}
use Rattle.page_state.proofs.Callers.{also_ends, also_halts, bind_ends, does_comes, faults, gives_ends, hands_on, raises_halts}
use Rattle.builtin_list.specs.Lists.{lifted}

-- the same act, whatever calls may be made
pub same_ends : {B : Type 0} (act other : Calls → Act) (f : B → Value) (s t : Store) (n j : ℕ) (r : Result B Halt) → ((c : Calls) → act c ≡ other c) → Ends f other s n t j r → Ends f act s n t j r
same_ends act other f s t n j (Ok b) e d = record { is = λ c. rw (e c) (d.is c) }
same_ends act other f s t n j (Err (halt.Fault (fault.Cause v))) e d = record { is = λ c. rw (e c) (d.is c) }
same_ends act other f s t n j (Err (halt.Fault fault.OutOfMemory)) e d = tt
same_ends act other f s t n j (Err halt.Stopped) e d = record { is = λ c. rw (e c) (d.is c) }

-- what is done at once, and then ends so
pub did_on : {B : Type 0} (m : Calls → Act) (k : Calls → Value → Act) (f : B → Value) (v : Value) (s t u : Store) (n j : ℕ) (r : Result B Halt)
    → Does m s (Val v) t → Ends f (λ c. k c v) t n u j r → Ends f (λ c. also (m c) (k c)) s n u j r
did_on m k f v s t u n j r d e = also_ends m k f v s t u n n j r (does_comes m s t n (Val v) d) e

pub made_on : {A B : Type 0} (m : Calls → ActOf A) (k : Calls → A → Act) (f : B → Value) (a : A) (s t u : Store) (n j : ℕ) (r : Result B Halt)
    → Does m s a t → Ends f (λ c. k c a) t n u j r → Ends f (λ c. bind (m c) (k c)) s n u j r
made_on m k f a s t u n j r d e = bind_ends m k f a s t u n n j r (does_comes m s t n a d) e

-- what is done at once threw, and what would come next is passed over
pub failed_at : {B : Type 0} (m : Calls → Act) (k : Calls → Value → Act) (f : B → Value) (s t : Store) (n : ℕ) (e : Failure Value) (r : Result B Halt)
    → Raises m s t e → IsErr r × IsErrAnd r (λ d. d ≡ halt.Fault e) → Ends f (λ c. also (m c) (k c)) s n t n r
failed_at m k f s t n e r d h = hands_on f (λ c. also (m c) (k c)) s t n n (halt.Fault e) r (h.1) (also_halts m k s t n n (halt.Fault e) (raises_halts m s t n e d))

-- what takes steps halted
pub halted : {B : Type 0} (m : Calls → Act) (k : Calls → Value → Act) (f : B → Value) (s t : Store) (n j : ℕ) (e : Halt) (r : Result B Halt)
    → Halts m s n t j e → IsErr r × IsErrAnd r (λ d. d ≡ e) → Ends f (λ c. also (m c) (k c)) s n t j r
halted m k f s t n j e r d h = hands_on f (λ c. also (m c) (k c)) s t n j e r (h.1) (also_halts m k s t n j e d)

-- what was done at once threw, and its fault is handed on
pub fault_ends : {B : Type 0} (f : B → Value) (m : Calls → Act) (s t : Store) (n : ℕ) (e : Failure Value) (r : Result B Halt) → Raises m s t e → IsErr r × IsErrAnd r (λ d. d ≡ halt.Fault e) → Ends f m s n t n r
fault_ends f m s t n e r d h = faults f m s t n e r (h.1) d

-- a value that is there
pub gave : (v : Value) (s : Store) (n : ℕ) → Ends itself (λ _. give v) s n s n (Ok v)
gave v s n = record { is = λ c. refl }

-- what is done at once, and is told as what takes steps
pub at_once_ends : (m : Calls → Act) (s t : Store) (n : ℕ) (r : Result Value (Failure Value)) → Gives itself m s t r → Ends itself m s n t n (lifted r)
at_once_ends m s t n (Ok v) d = gives_ends itself m s t n v d
at_once_ends m s t n (Err e) d = raises_halts m s t n e d

pub same_gives : {B : Type 0} (act other : Calls → Act) (f : B → Value) (s t : Store) (r : Result B (Failure Value)) → ((c : Calls) → act c ≡ other c) → Gives f other s t r → Gives f act s t r
same_gives act other f s t (Ok b) e d = record { is = λ c n. rw (e c) (d.is c n) }
same_gives act other f s t (Err (fault.Cause v)) e d = record { is = λ c n. rw (e c) (d.is c n) }
same_gives act other f s t (Err fault.OutOfMemory) e d = tt

pub gave_for : {B : Type 0} (f : B → Value) (b : B) (s : Store) (n : ℕ) → Ends f (λ _. give (f b)) s n s n (Ok b)
gave_for f b s n = record { is = λ c. refl }
