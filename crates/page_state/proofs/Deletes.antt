-- Deletes, at a name that the object has of the host and at others.
use Rattle.std.proofs.Common.{◌≡◌, ℕ, Bool, true, false, List, Result, Ok, Err}
use Rattle.js_values.specs.declared.ids.ObjId.{ObjId}
use Rattle.js_values.specs.declared.throw.Throw.TheVariants.{CannotDelete}
use Rattle.js_values.specs.declared.value.Value.{Value}
use Rattle.js_values.specs.declared.value.Value.TheVariants.{Bool as Truth, Object}
use Rattle.page_meaning.specs.Act.{give}
use Rattle.page_meaning.specs.Errors.{raise, unless}
use Rattle.page_meaning.specs.Primitives.{delete_at}
use Rattle.page_meaning.specs.Properties.{delete_member, has_own_host}
use Rattle.page_meaning.specs.Store.{Store}
use Rattle.js_core.specs.declared.memory.Failure.{Failure}
use Rattle.js_core.specs.declared.memory.Failure.TheVariants as fault
use Rattle.page_state.specs.Does.{Gives, Raises}

pub delete_kept : (at : ObjId) (x : List ℕ) (s t : Store) (e : Failure Value) → true ≡ has_own_host s at x → Raises (λ _. raise CannotDelete) s t e → Raises (λ _. delete_member (Object at) x) s t e
delete_kept at x s t (fault.Cause v) h r = record { is = λ c n. rw (← h) (r.is c n) }
delete_kept at x s t fault.OutOfMemory h r = tt

pub delete_goes : (at : ObjId) (x : List ℕ) (s t : Store) (r : Result Bool (Failure Value)) → false ≡ has_own_host s at x
    → Gives Truth (λ _. unless (delete_at at x) (give (Truth true))) s t r → Gives Truth (λ _. delete_member (Object at) x) s t r
delete_goes at x s t (Ok b) h g = record { is = λ c n. rw (← h) (g.is c n) }
delete_goes at x s t (Err (fault.Cause v)) h g = record { is = λ c n. rw (← h) (g.is c n) }
delete_goes at x s t (Err fault.OutOfMemory) h g = tt
