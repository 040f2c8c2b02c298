-- An exception passes through a `?` at the end of what is done.
use Rattle.std.proofs.Common.{◌≡◌, Result}
use Rattle.std.specs.Result.{IsErrAnd}
use Rattle.std.proofs.lemmas.Result.{err_from_is_err_and}
use Rattle.js_values.specs.declared.value.Value.{Value}
use Rattle.page_meaning.specs.Act.{Act, Calls}
use Rattle.page_meaning.specs.Store.{Store}
use Rattle.js_core.specs.declared.memory.Failure.{Failure}
use Rattle.page_state.specs.Does.{Gives, Raises}

pub passes : {B : Type 0} (m : Calls → Act) (f : B → Value) (s t : Store) (r : Result B (Failure Value)) (e : Failure Value)
    → IsErrAnd r (λ y. y ≡ e) → Raises m s t e → Gives f m s t r
passes m f s t r e h d = let p = err_from_is_err_and r h in rw (p.1, p.2) d
