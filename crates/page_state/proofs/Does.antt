-- What is done at once, one thing after another.
use Rattle.std.proofs.Common.{◌≡◌, refl, ℕ, List, Option, Some, None, Result, Ok, Err}
use Rattle.std.specs.Result.{IsErr, IsErrAnd}
use Rattle.js_values.specs.declared.ids.ObjId.{ObjId}
use Rattle.js_values.specs.declared.throw.Throw.{Throw}
use Rattle.js_values.specs.declared.value.Value.TheVariants.{Object}
use Rattle.js_values.specs.declared.value.Value.{Value}
use Rattle.page_meaning.specs.declared.signal.Signal.{Signal}
use Rattle.page_meaning.specs.declared.signal.Signal.TheVariants.{Value as Val, Thrown}
use Rattle.page_meaning.specs.Act.{Act, ActOf, Calls, asking, also, bind, give, ret}
use Rattle.page_meaning.specs.Errors.{error_fit, error_object, raise, unless}
use Rattle.page_meaning.specs.Primitives.{make}
use Rattle.page_meaning.specs.Properties.{property_of, read_property}
use Rattle.page_meaning.specs.Store.{Store}
use Rattle.js_core.specs.declared.memory.Failure.{Failure}
use Rattle.js_core.specs.declared.memory.Failure.TheVariants as fault
use Rattle.page_state.specs.Does.{Does, Gives, Raises}

pub bind_does : {A B : Type 0} (m : Calls → ActOf A) (k : Calls → A → ActOf B) (a : A) (b : B) (s t u : Store)
    → Does m s a t → Does (λ c. k c a) t b u → Does (λ c. bind (m c) (k c)) s b u
bind_does m k a b s t u d e = record { is = λ c n. rw (d.is c n) (e.is c n) }

pub bind_gives : {A B : Type 0} (m : Calls → ActOf A) (k : Calls → A → Act) (f : B → Value) (a : A) (s t u : Store) (r : Result B (Failure Value))
    → Does m s a t → Gives f (λ c. k c a) t u r → Gives f (λ c. bind (m c) (k c)) s u r
bind_gives m k f a s t u (Ok b) d g = record { is = λ c n. rw (d.is c n) (g.is c n) }
bind_gives m k f a s t u (Err (fault.Cause v)) d g = record { is = λ c n. rw (d.is c n) (g.is c n) }
bind_gives m k f a s t u (Err fault.OutOfMemory) d g = tt

-- goes on with a value
pub also_gives : {B : Type 0} (m : Calls → Act) (k : Calls → Value → Act) (f : B → Value) (v : Value) (s t u : Store) (r : Result B (Failure Value))
    → Does m s (Val v) t → Gives f (λ c. k c v) t u r → Gives f (λ c. also (m c) (k c)) s u r
also_gives m k f v s t u (Ok b) d g = record { is = λ c n. rw (d.is c n) (g.is c n) }
also_gives m k f v s t u (Err (fault.Cause w)) d g = record { is = λ c n. rw (d.is c n) (g.is c n) }
also_gives m k f v s t u (Err fault.OutOfMemory) d g = tt

-- an exception passes over what would come next
pub also_raises : (m : Calls → Act) (k : Calls → Value → Act) (s t : Store) (e : Failure Value) → Raises m s t e → Raises (λ c. also (m c) (k c)) s t e
also_raises m k s t (fault.Cause v) d = record { is = λ c n. rw (d.is c n) refl }
also_raises m k s t fault.OutOfMemory d = tt

-- what the store tells is known
pub asked_does : {A B : Type 0} (h : Store → A) (k : Calls → A → ActOf B) (b : B) (s t : Store) → Does (λ c. k c (h s)) s b t → Does (λ c. asking h (k c)) s b t
asked_does h k b s t d = record { is = λ c n. d.is c n }

pub asked_gives : {A B : Type 0} (h : Store → A) (k : Calls → A → Act) (f : B → Value) (s t : Store) (r : Result B (Failure Value))
    → Gives f (λ c. k c (h s)) s t r → Gives f (λ c. asking h (k c)) s t r
asked_gives h k f s t (Ok b) d = record { is = λ c n. d.is c n }
asked_gives h k f s t (Err (fault.Cause v)) d = record { is = λ c n. d.is c n }
asked_gives h k f s t (Err fault.OutOfMemory) d = tt

-- a value that is there
pub given : (v : Value) (s : Store) → Does (λ _. give v) s (Val v) s
given v s = record { is = λ c n. refl }

-- nothing was refused
pub passed : (m : ActOf (Option Throw)) (v : Value) (s t : Store) → Does (λ _. m) s None t → Does (λ _. unless m (give v)) s (Val v) t
passed m v s t d = record { is = λ c n. rw (d.is c n) refl }

-- what was refused is thrown
pub refused : (m : ActOf (Option Throw)) (next : Act) (what : Throw) (s t u : Store) (e : Failure Value)
    → Does (λ _. m) s (Some what) t → Raises (λ _. raise what) t u e → Raises (λ _. unless m next) s u e
refused m next what s t u (fault.Cause v) d r = record { is = λ c n. rw (d.is c n) (r.is c n) }
refused m next what s t u fault.OutOfMemory d r = tt

pub raised : (what : Throw) (at : ObjId) (s t : Store) → Does (λ _. make (error_object what) (error_fit what) refl) s at t → Does (λ _. raise what) s (Thrown (Object at)) t
raised what at s t d =
    bind_does (λ _. make (error_object what) (error_fit what) refl) (λ _ k. ret (Thrown (Object k))) at (Thrown (Object at)) s t t d (record { is = λ c n. refl })

-- what comes before threw, and its fault is handed on
pub failed : {B : Type 0} (m : Calls → Act) (k : Calls → Value → Act) (f : B → Value) (s t : Store) (e : Failure Value) (r : Result B (Failure Value))
    → Raises m s t e → IsErr r × IsErrAnd r (λ d. d ≡ e) → Gives f (λ c. also (m c) (k c)) s t r
failed m k f s t e (Ok b) d h = cc (h.0)
failed m k f s t e (Err x) d h = rw (h.1) (also_raises m k s t e d)

pub asked_raises : {A : Type 0} (h : Store → A) (k : Calls → A → Act) (s t : Store) (e : Failure Value) → Raises (λ c. k c (h s)) s t e → Raises (λ c. asking h (k c)) s t e
asked_raises h k s t (fault.Cause v) d = record { is = λ c n. d.is c n }
asked_raises h k s t fault.OutOfMemory d = tt

pub told_property : (base : Value) (x : List ℕ) (s : Store) (v : Value) → Ok v ≡ property_of s base x → Does (λ _. read_property base x) s (Val v) s
told_property base x s v e = record { is = λ c n. rw (← e) refl }
