-- What is answered where a page is saved as it is, by what can be reached of it.
use Rattle.std.specs.Prelude.{ℕ, ◌≡◌, ◌⊎◌, List, Result, Ok, Err}
use Rattle.heap_walker.specs.Things.{IsWalk}
use Rattle.heap_walker.specs.Weight.{load_of, told}
use Rattle.heap_walker.specs.declared.weight.Weight.{Weight}
use Rattle.page_io.specs.Faults.{Rose}
use Rattle.page_io.specs.Seen.{SinkSeen}
use Rattle.page_io.specs.Taken.{Takes, TakesFront}
use Rattle.page_meaning.specs.Store.{Store}
use Rattle.page_writer.specs.Page.{saved_page}
use Rattle.outcomes.specs.declared.status.Status.{Status}
use Rattle.outcomes.specs.declared.status.Status.TheVariants as status
use Rattle.migrate.specs.Saving.{CanBeSaved, IsTooMuch}
use Rattle.migrate.specs.declared.unsaved.Unsaved.{Unsaved}
use Rattle.migrate.specs.declared.unsaved.Unsaved.TheVariants.{WriteFault, TooLarge, OutOfMemory}

-- the things of a page that is too large
pub record IsOverweight (s : Store) (things : List ℕ) (w : Weight) : Type 0 where
  pub walked : IsWalk s things
  pub weighed : w ≡ told (load_of s things)
  pub more : IsTooMuch w

-- those of one that is not
pub record IsLight (s : Store) (things : List ℕ) : Type 0 where
  pub walked : IsWalk s things
  pub little : ¬ IsTooMuch (told (load_of s things))

-- an answer, and what was put with it
abbrev pub IsAnswer : Store → SinkSeen → SinkSeen → Result (Unit {0}) Unsaved → Type 0
IsAnswer s old new (Ok done) = (things : List ℕ) × CanBeSaved s things × Takes old.taken new.taken (saved_page s things)
IsAnswer s old new (Err WriteFault) =
    (things : List ℕ) × CanBeSaved s things × TakesFront old.taken new.taken (saved_page s things) × Rose old.faults new.faults
IsAnswer s old new (Err (TooLarge w)) = (new ≡ old) × ((things : List ℕ) × IsOverweight s things w)
-- memory may run out after a front of the page, which is not too large then
IsAnswer s old new (Err OutOfMemory) =
    (new ≡ old) ⊎ ((things : List ℕ) × IsLight s things × TakesFront old.taken new.taken (saved_page s things))

-- the whole text of a page that can be saved
abbrev pub IsSaved : Store → List ℕ → Type 0
IsSaved s text = (things : List ℕ) × CanBeSaved s things × (text ≡ saved_page s things)

-- why there is none: it is too large, or memory ran out
abbrev pub IsNotSaved : Store → Unsaved → Type 0
IsNotSaved s (TooLarge w) = (things : List ℕ) × IsOverweight s things w
IsNotSaved s OutOfMemory = Unit {0}
IsNotSaved s WriteFault = ⊥

-- how a command ends where a page is not saved
abbrev pub unsaved_status : Unsaved → Status
unsaved_status (TooLarge w) = status.TooLarge w
unsaved_status WriteFault = status.WriteFault
unsaved_status OutOfMemory = status.OutOfMemory
