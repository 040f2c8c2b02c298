-- What is said of a part of a page that is put.
use Rattle.std.specs.Prelude.{◌≡◌, ◌≤◌, ℕ, List, Result, Ok, Err}
use Rattle.page_io.specs.Faults.{Rose}
use Rattle.page_io.specs.Seen.{SinkSeen}
use Rattle.page_io.specs.Taken.{Takes, TakesFront}
use Rattle.js_core.specs.declared.memory.Failure.{Failure}
use Rattle.page_writer.specs.declared.save_fault.NotSaved.{NotSaved}
use Rattle.js_core.specs.declared.memory.Failure.TheVariants.{Cause, OutOfMemory}
use Rattle.page_writer.specs.declared.save_fault.NotSaved.TheVariants.{WriteFault}

-- the whole of it was put, or after a fault a prefix of it, which may be nothing; it is never too large
abbrev pub Puts : SinkSeen → SinkSeen → List ℕ → Result (Unit {0}) (Failure NotSaved) → Type 0
Puts old new text (Ok done) = Takes old.taken new.taken text × (new.faults ≡ old.faults)
Puts old new text (Err (Cause WriteFault)) = TakesFront old.taken new.taken text × (Rose old.faults new.faults × (old.faults ≤ new.faults))
Puts old new text (Err OutOfMemory) = TakesFront old.taken new.taken text × (new.faults ≡ old.faults)
Puts old new text (Err fault) = ⊥
