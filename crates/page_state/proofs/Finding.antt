-- What rows ask of `this` and of arguments is found, and the row goes on; or it is a wrong argument.
use Rattle.std.proofs.Common.{subst, Option, Result, Ok, Err}
use Rattle.js_core.specs.declared.memory.Failure.{Failure}
use Rattle.js_core.specs.declared.memory.Failure.TheVariants as fault
use Rattle.js_values.specs.declared.value.Value.{Value}
use Rattle.page_meaning.specs.Act.{Act, Calls, asking}
use Rattle.page_meaning.specs.NodeRows.{or_wrong}
use Rattle.page_meaning.specs.Store.{Store}
use Rattle.page_state.specs.Does.{Gives, Raises}
use Rattle.page_state.specs.Finding.{IsFound, IsWrong}

pub found_gives : {A B : Type 0} (f : B → Value) (o : Store → Option A) (g : Calls → A → Act) (a : A) (s t u : Store) (r : Result B (Failure Value))
    → IsFound (o s) s a t → Gives f (λ c. g c a) t u r → Gives f (λ c. asking o (or_wrong (g c))) s u r
found_gives f o g a s t u (Ok b) k d = let e = subst (λ w. Gives f (λ c. g c a) w u (Ok b)) k.same d in record { is = λ c n. rw k.found (e.is c n) }
found_gives f o g a s t u (Err (fault.Cause v)) k d =
    let e = subst (λ w. Gives f (λ c. g c a) w u (Err (fault.Cause v))) k.same d in record { is = λ c n. rw k.found (e.is c n) }
found_gives f o g a s t u (Err fault.OutOfMemory) k d = tt

pub wrong_raises : {A : Type 0} (o : Store → Option A) (g : Calls → A → Act) (s t : Store) (e : Failure Value)
    → IsWrong (o s) s e t → Raises (λ c. asking o (or_wrong (g c))) s t e
wrong_raises o g s t (fault.Cause v) k = record { is = λ c n. rw k.none (k.raised.is c n) }
wrong_raises o g s t fault.OutOfMemory k = tt
