-- The stages of a command, in the order of the work, and what ends it at each.
use Rattle.std.specs.Prelude.{◌≡◌, ℕ, ◌⊎◌, Bool, false, ◌||◌, List, [], ◌∷◌, ◌++◌}
use Rattle.page_io.specs.Faults.{Rose}
use Rattle.page_io.specs.Seen.{SinkSeen}
use Rattle.outcomes.specs.Seen.{Seen}
use Rattle.outcomes.specs.declared.status.Status.{Status}
use Rattle.outcomes.specs.declared.status.Status.TheVariants.{Ok, Usage, WriteFault, OutOfMemory}

-- What a command does in turn, before it writes its text. It stands in the crate of the command, and no list of all stages is anywhere.
pub record Stage : Type 1 where
  -- the files whose bytes it speaks of
  pub files : List (List ℕ)
  -- whether it asks the keeper
  pub asks : Bool
  -- which status ends a command at it, and why
  pub stops : Status → Seen → Type 0
  -- what lets a command go on after it
  pub passes : Seen → Type 0

-- What ends a command at a stage. Want of memory is free; and no stage writes, or asks what the words are.
abbrev pub StopsAt : Stage → Status → Seen → Type 0
StopsAt g Ok seen = ⊥
StopsAt g Usage seen = ⊥
StopsAt g WriteFault seen = ⊥
StopsAt g OutOfMemory seen = Unit {0}
StopsAt g status seen = g.stops status seen

-- it is ended at one of the stages, and passes all before that
abbrev pub EndsAt : List Stage → Status → Seen → Type 0
EndsAt [] status seen = ⊥
EndsAt (g ∷ gs) status seen = StopsAt g status seen ⊎ (g.passes seen × EndsAt gs status seen)

-- it passes all of the stages
abbrev pub PassesAll : List Stage → Seen → Type 0
PassesAll [] seen = Unit {0}
PassesAll (g ∷ gs) seen = g.passes seen × PassesAll gs seen

-- how it ends where it has its text, which it writes, unless memory runs out
abbrev pub StopsWriting : Status → SinkSeen → SinkSeen → Type 0
StopsWriting Ok before now = Unit {0}
StopsWriting WriteFault before now = Rose before.faults now.faults
StopsWriting OutOfMemory before now = Unit {0}
StopsWriting status before now = ⊥

-- it ends at one of the stages, or passes all and writes its text
abbrev pub EndsBy : List Stage → Status → Seen → SinkSeen → SinkSeen → Type 0
EndsBy gs status seen out out_now = EndsAt gs status seen ⊎ (PassesAll gs seen × StopsWriting status out out_now)

-- ---- what a command asks for

-- the files that stages speak of
abbrev pub names_of : List Stage → List (List ℕ)
names_of [] = []
names_of (g ∷ gs) = g.files ++ names_of gs

-- whether one of them asks the keeper
abbrev pub ask_keeper : List Stage → Bool
ask_keeper [] = false
ask_keeper (g ∷ gs) = g.asks || ask_keeper gs

-- a keeper stays where no stage asks it
abbrev pub Keeps : {K : Type 0} → List Stage → K → K → Type 0
Keeps stages keeper keeper_now = ask_keeper stages ≡ false → keeper_now ≡ keeper

-- and files stay where no stage speaks of one
abbrev pub Spares : {F : Type 0} → List Stage → F → F → Type 0
Spares stages files files_now = names_of stages ≡ [] → files_now ≡ files

-- the command ended for a cause that has to do neither with the output nor with memory, and not well
abbrev pub IsRefusal : Status → Type 0
IsRefusal Ok = ⊥
IsRefusal WriteFault = ⊥
IsRefusal OutOfMemory = ⊥
IsRefusal status = Unit {0}
