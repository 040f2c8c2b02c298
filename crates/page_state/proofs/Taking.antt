-- What takes steps, one thing after another.
use Rattle.std.proofs.Common.{◌≡◌, refl, ap, ◌∙◌, ℕ, suc, Result, Ok, Err}
use Rattle.std.specs.Result.{IsErrAnd}
use Rattle.std.proofs.lemmas.Result.{err_from_is_err_and}
use Rattle.js_values.specs.declared.value.Value.{Value}
use Rattle.page_meaning.specs.declared.signal.Signal.{Signal}
use Rattle.page_meaning.specs.declared.signal.Signal.TheVariants.{Value as Val, Thrown}
use Rattle.page_meaning.specs.Act.{Act, ActOf, Calls, Outcome, Ended, Stopped, asking, also, bind, ret}
use Rattle.page_meaning.specs.Primitives.{take_step}
use Rattle.page_meaning.specs.Store.{Store}
use Rattle.js_core.specs.declared.memory.Failure.{Failure}
use Rattle.js_core.specs.declared.memory.Failure.TheVariants as fault
use Rattle.page_state.specs.declared.turns.Halt.{Halt}
use Rattle.page_state.specs.declared.turns.Halt.TheVariants as halt
use Rattle.page_state.specs.Does.{Does, Gives, Raises}
use Rattle.page_state.specs.Turns.{Comes, Ends, Halts, Tells, Turned}

-- what is done at once takes no step
pub does_comes : {A : Type 0} (m : Calls → ActOf A) (s t : Store) (n : ℕ) (a : A) → Does m s a t → Comes m s n (Ended a t n)
does_comes m s t n a d = record { is = λ c. d.is c n }

pub raises_halts : (m : Calls → Act) (s t : Store) (n : ℕ) (e : Failure Value) → Raises m s t e → Halts m s n t n (halt.Fault e)
raises_halts m s t n (fault.Cause v) d = record { is = λ c. d.is c n }
raises_halts m s t n fault.OutOfMemory d = tt

pub gives_ends : {A : Type 0} (f : A → Value) (m : Calls → Act) (s t : Store) (n : ℕ) (a : A) → Gives f m s t (Ok a) → Ends f m s n t n (Ok a)
gives_ends f m s t n a d = record { is = λ c. d.is c n }

-- a fault that is handed on by `?`
pub faults : {A : Type 0} (f : A → Value) (m : Calls → Act) (s t : Store) (n : ℕ) (e : Failure Value) (r : Result A Halt) → IsErrAnd r (λ d. d ≡ halt.Fault e) → Raises m s t e → Ends f m s n t n r
faults f m s t n e r h d = let p = err_from_is_err_and r h in rw (p.1, p.2) (raises_halts m s t n e d)

-- what halts is handed on by `?`
pub hands_on : {A : Type 0} (f : A → Value) (m : Calls → Act) (s t : Store) (n j : ℕ) (e : Halt) (r : Result A Halt) → IsErrAnd r (λ d. d ≡ e) → Halts m s n t j e → Ends f m s n t j r
hands_on f m s t n j e r h d = let p = err_from_is_err_and r h in rw (p.1, p.2) d

-- memory ran out
pub no_memory : {A : Type 0} (f : A → Value) (m : Calls → Act) (s t : Store) (n j : ℕ) (r : Result A Halt) → IsErrAnd r (λ d. d ≡ halt.Fault fault.OutOfMemory) → Ends f m s n t j r
no_memory f m s t n j r h = let p = err_from_is_err_and r h in rw (p.1, p.2) tt

-- ---- one after another

pub bind_halts : {A : Type 0} (m : Calls → ActOf A) (k : Calls → A → Act) (a : A) (s t u : Store) (n i j : ℕ) (e : Halt)
    → Comes m s n (Ended a t i) → Halts (λ c. k c a) t i u j e → Halts (λ c. bind (m c) (k c)) s n u j e
bind_halts m k a s t u n i j (halt.Fault (fault.Cause v)) d h = record { is = λ c. rw (d.is c) (h.is c) }
bind_halts m k a s t u n i j (halt.Fault fault.OutOfMemory) d h = tt
bind_halts m k a s t u n i j halt.Stopped d h = record { is = λ c. rw (d.is c) (h.is c) }

pub bind_ends : {A B : Type 0} (m : Calls → ActOf A) (k : Calls → A → Act) (f : B → Value) (a : A) (s t u : Store) (n i j : ℕ) (r : Result B Halt)
    → Comes m s n (Ended a t i) → Ends f (λ c. k c a) t i u j r → Ends f (λ c. bind (m c) (k c)) s n u j r
bind_ends m k f a s t u n i j (Ok b) d h = record { is = λ c. rw (d.is c) (h.is c) }
bind_ends m k f a s t u n i j (Err e) d h = bind_halts m k a s t u n i j e d h

pub also_halts_on : (m : Calls → Act) (k : Calls → Value → Act) (v : Value) (s t u : Store) (n i j : ℕ) (e : Halt)
    → Comes m s n (Ended (Val v) t i) → Halts (λ c. k c v) t i u j e → Halts (λ c. also (m c) (k c)) s n u j e
also_halts_on m k v s t u n i j (halt.Fault (fault.Cause w)) d h = record { is = λ c. rw (d.is c) (h.is c) }
also_halts_on m k v s t u n i j (halt.Fault fault.OutOfMemory) d h = tt
also_halts_on m k v s t u n i j halt.Stopped d h = record { is = λ c. rw (d.is c) (h.is c) }

-- goes on with a value
pub also_ends : {B : Type 0} (m : Calls → Act) (k : Calls → Value → Act) (f : B → Value) (v : Value) (s t u : Store) (n i j : ℕ) (r : Result B Halt)
    → Comes m s n (Ended (Val v) t i) → Ends f (λ c. k c v) t i u j r → Ends f (λ c. also (m c) (k c)) s n u j r
also_ends m k f v s t u n i j (Ok b) d h = record { is = λ c. rw (d.is c) (h.is c) }
also_ends m k f v s t u n i j (Err e) d h = also_halts_on m k v s t u n i j e d h

-- what halts passes over what would come next
pub also_halts : (m : Calls → Act) (k : Calls → Value → Act) (s t : Store) (n j : ℕ) (e : Halt) → Halts m s n t j e → Halts (λ c. also (m c) (k c)) s n t j e
also_halts m k s t n j (halt.Fault (fault.Cause v)) d = record { is = λ c. rw (d.is c) refl }
also_halts m k s t n j (halt.Fault fault.OutOfMemory) d = tt
also_halts m k s t n j halt.Stopped d = record { is = λ c. rw (d.is c) refl }

-- what the store tells is known
pub asked_ends : {A B : Type 0} (h : Store → A) (k : Calls → A → Act) (f : B → Value) (s t : Store) (n j : ℕ) (r : Result B Halt)
    → Ends f (λ c. k c (h s)) s n t j r → Ends f (λ c. asking h (k c)) s n t j r
asked_ends h k f s t n j (Ok b) d = record { is = λ c. d.is c }
asked_ends h k f s t n j (Err (halt.Fault (fault.Cause v))) d = record { is = λ c. d.is c }
asked_ends h k f s t n j (Err (halt.Fault fault.OutOfMemory)) d = tt
asked_ends h k f s t n j (Err halt.Stopped) d = record { is = λ c. d.is c }

-- ---- turns

-- the step of a turn is taken
pub turn_ends : {B : Type 0} (k : Calls → Act) (f : B → Value) (s u : Store) (n i j : ℕ) (r : Result B Halt) → n ≡ suc i → Ends f k s i u j r → Ends f (λ c. bind take_step (λ _. k c)) s n u j r
turn_ends k f s u n i j r e h = rw e (bind_ends (λ _. take_step) (λ c _. k c) f tt s s u (suc i) i j r (record { is = λ c. refl }) h)

-- none is left
pub no_turn : {B : Type 0} (k : Calls → Act) (f : B → Value) (s : Store) (n j : ℕ) (e : Halt) (r : Result B Halt) → n ≡ 0 → e ≡ halt.Stopped → IsErrAnd r (λ d. d ≡ e) → Ends f (λ c. bind take_step (λ _. k c)) s n s j r
no_turn k f s n j e r is stopped h = let p = err_from_is_err_and r h in rw (p.1, p.2, is, stopped) (record { is = λ c. refl })

-- ---- what is told

pub turn_tells : {A : Type 0} (k : Calls → ActOf A) (s u : Store) (n i j : ℕ) (r : Result A Halt) → n ≡ suc i → Tells k s i u j r → Tells (λ c. bind take_step (λ _. k c)) s n u j r
turn_tells k s u n i j (Ok a) e h = rw e (record { is = λ c. h.is c })
turn_tells k s u n i j (Err (halt.Fault (fault.Cause v))) e h = h
turn_tells k s u n i j (Err (halt.Fault fault.OutOfMemory)) e h = tt
turn_tells k s u n i j (Err halt.Stopped) e h = rw e (record { is = λ c. h.is c })

pub no_turn_tells : {A : Type 0} (k : Calls → ActOf A) (s : Store) (n j : ℕ) (e : Halt) (r : Result A Halt) → n ≡ 0 → e ≡ halt.Stopped → IsErrAnd r (λ d. d ≡ e) → Tells (λ c. bind take_step (λ _. k c)) s n s j r
no_turn_tells {A} k s n j e r is stopped h =
    let p = err_from_is_err_and r h in
    let none : Tells (λ c. bind take_step (λ _. k c)) s 0 s j (Err halt.Stopped) = record { is = λ c. refl } in
    let halted : r ≡ Err halt.Stopped = p.1 ∙ ap (λ x. Err x) (p.2 ∙ stopped) in
    rw (halted, is) none

pub asked_tells : {A B : Type 0} (h : Store → A) (k : Calls → A → ActOf B) (s u : Store) (n j : ℕ) (r : Result B Halt) → Tells (λ c. k c (h s)) s n u j r → Tells (λ c. asking h (k c)) s n u j r
asked_tells h k s u n j (Ok b) d = record { is = λ c. d.is c }
asked_tells h k s u n j (Err (halt.Fault (fault.Cause v))) d = d
asked_tells h k s u n j (Err (halt.Fault fault.OutOfMemory)) d = tt
asked_tells h k s u n j (Err halt.Stopped) d = record { is = λ c. d.is c }

pub no_memory_tells : {A : Type 0} (k : Calls → ActOf A) (s t : Store) (n j : ℕ) (r : Result A Halt) → IsErrAnd r (λ d. d ≡ halt.Fault fault.OutOfMemory) → Tells k s n t j r
no_memory_tells k s t n j r h = let p = err_from_is_err_and r h in rw (p.1, p.2) tt
