-- A fault that is handed on.
use Rattle.std.proofs.Common.{◌≡◌, Result, Ok, Err}
use Rattle.std.specs.Result.{IsErr, IsErrAnd}
use Rattle.js_values.specs.declared.value.Value.{Value}
use Rattle.page_meaning.specs.Act.{Act, Calls}
use Rattle.page_meaning.specs.Store.{Store}
use Rattle.js_core.specs.declared.memory.Failure.{Failure}
use Rattle.page_state.specs.Does.{Gives, Raises}

pub handed : {B : Type 0} (act : Calls → Act) (f : B → Value) (s t : Store) (e : Failure Value) (r : Result B (Failure Value)) → Raises act s t e → IsErr r × IsErrAnd r (λ d. d ≡ e) → Gives f act s t r
handed act f s t e (Ok x) d h = cc (h.0)
handed act f s t e (Err x) d h = rw (h.1) d
