-- What is said of a cause that is handed on.
use Rattle.std.proofs.Common.{◌≡◌, Result, Ok, Err}
use Rattle.std.specs.Prelude.{IsErr, IsErrAnd}
use Rattle.js_core.specs.Memory.{IfCause}
use Rattle.js_core.specs.declared.memory.Failure.{Failure}
use Rattle.js_core.specs.declared.memory.Failure.TheVariants.{Cause, OutOfMemory}

-- what a result's cause shows, where it has one
pub shown : {T C : Type 0} {P Q : C → Type 0} (r : Result T (Failure C)) → IfCause r P → ((c : C) → P c → Q c) → IfCause r Q
shown (Ok v) h f = tt
shown (Err (Cause c)) h f = f c h
shown (Err OutOfMemory) h f = tt

-- the same of a result that hands on the failure of another
pub handed : {T U C : Type 0} {P Q : C → Type 0} (q : Result U (Failure C)) (e : Failure C) (r : Result T (Failure C)) → IfCause q P → q ≡ Err e → IsErr r × IsErrAnd r (λ d. d ≡ e) → ((c : C) → P c → Q c) → IfCause r Q
handed (Ok v) e r h was is f = absurd (cc)
handed q e (Ok v) h was is f = tt
handed (Err (Cause d)) e (Err (Cause c)) h was is f = let same : d ≡ c = cc in f c (rw same at h)
handed (Err OutOfMemory) e (Err (Cause c)) h was is f = absurd (cc)
handed q e (Err OutOfMemory) h was is f = tt
