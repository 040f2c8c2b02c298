-- Which pages are too large to be saved, and what is told of that.
use Rattle.std.specs.Prelude.{◌≡◌, ℕ, ◌<◌, ◌≤◌, List, Result, Ok, Err}
use Rattle.heap_walker.specs.Things.{IsWalk}
use Rattle.heap_walker.specs.Weight.{load_of, told}
use Rattle.heap_walker.specs.declared.weight.Weight.{Weight}
use Rattle.page_io.specs.Faults.{Rose}
use Rattle.page_io.specs.Seen.{SinkSeen}
use Rattle.page_io.specs.Taken.{Takes, TakesFront}
use Rattle.page_meaning.specs.Store.{Store}
use Rattle.page_writer.specs.Page.{saved_page}
use Rattle.js_core.specs.declared.memory.Failure.{Failure}
use Rattle.page_writer.specs.declared.save_fault.NotSaved.{NotSaved}
use Rattle.js_core.specs.declared.memory.Failure.TheVariants.{Cause, OutOfMemory}
use Rattle.page_writer.specs.declared.save_fault.NotSaved.TheVariants.{TooMany, TooLong, WriteFault}

-- the most things that a saved page may have, and the most bytes of text
abbrev pub things_limit : ℕ
things_limit = 75000

abbrev pub text_limit : ℕ
text_limit = 4194304

-- what is answered, where the page weighs so much
pub data Judged (w : Weight) (old new : SinkSeen) (page : List ℕ) : Result (Unit {0}) (Failure NotSaved) → Type 0 where
  -- the page was put
  put : w.things ≤ things_limit → w.text ≤ text_limit → Takes old.taken new.taken page → Judged w old new page (Ok tt)
  -- it is too large, and nothing was put
  many : things_limit < w.things → new ≡ old → Judged w old new page (Err (Cause (TooMany w)))
  long : w.things ≤ things_limit → text_limit < w.text → new ≡ old → Judged w old new page (Err (Cause (TooLong w)))
  -- a prefix of the page was put
  fault : w.things ≤ things_limit → w.text ≤ text_limit → TakesFront old.taken new.taken page → Rose old.faults new.faults → Judged w old new page (Err (Cause WriteFault))
  -- out of memory, after a prefix of the page or nothing; of a page that is too large nothing was put
  memory : (things_limit < w.things → new ≡ old) → (text_limit < w.text → new ≡ old) → TakesFront old.taken new.taken page → Judged w old new page (Err OutOfMemory)

-- the answer of saving, by what can be reached
abbrev pub IsSaved : Store → SinkSeen → SinkSeen → Result (Unit {0}) (Failure NotSaved) → Type 0
IsSaved s old new answer = (things : List ℕ) → IsWalk s things → Judged (told (load_of s things)) old new (saved_page s things) answer
