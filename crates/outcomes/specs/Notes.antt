-- The note of each status: one line, put to the notes.
use Rattle.std.specs.Prelude.{ℕ, ◌⊎◌, List, [], ◌∷◌, ◌++◌, codes, Option, Some, None, Result, OnOk, OnErr}
use Rattle.std.specs.Fmt.{decimal}
use Rattle.page_io.specs.declared.sink.PutFault.{PutFault}
use Rattle.page_io.specs.declared.sink.PutFault.TheVariants.{Failed}
use Rattle.page_io.specs.Faults.{Rose, CountsFaults}
use Rattle.page_io.specs.Seen.{SinkSeen}
use Rattle.page_io.specs.Taken.{Takes, TakesFront}
use Rattle.outcomes.specs.declared.status.Status.{Status}
use Rattle.outcomes.specs.declared.status.Status.TheVariants.{Ok, PageRefused, Usage, EventsRefused, ReadFault, WriteFault, TooLarge, OutOfMemory, KeeperFault, NoSession, VersionsUsed}
use Rattle.page_check.specs.declared.page.Refusal.{Refusal}
use Rattle.page_check.specs.declared.page.Refusal.TheVariants.{NotUtf8, NotPage, NotTokens, NotScript, NotStrict, Early, TooDeep, ReservedName, NotForm}
use Rattle.early_rules.specs.EarlyRules.{rule_number}

-- the script of this number, and the cause
abbrev pub script_words : ℕ → List ℕ → List ℕ
script_words k cause = codes "script " ++ decimal k ++ codes ": " ++ cause

-- why a page is refused
abbrev pub refusal_words : Option Refusal → List ℕ
refusal_words None = codes "too long"
refusal_words (Some NotUtf8) = codes "not utf-8"
refusal_words (Some NotPage) = codes "not a page"
refusal_words (Some (NotTokens k)) = script_words k (codes "not tokens")
refusal_words (Some (NotScript k)) = script_words k (codes "not a script")
refusal_words (Some (NotStrict k)) = script_words k (codes "not strict")
refusal_words (Some (Early k rule)) = script_words k (codes "early error " ++ decimal (rule_number rule))
refusal_words (Some (TooDeep k)) = script_words k (codes "too deep")
refusal_words (Some (ReservedName k)) = script_words k (codes "reserved name")
refusal_words (Some (NotForm k)) = script_words k (codes "not in form")

abbrev pub note_words : Status → List ℕ
note_words Ok = []
note_words (PageRefused r) = codes "page refused: " ++ refusal_words r
note_words Usage = codes "usage: imagen check P, replay P E, instrument P, save P E, stress N"
note_words (EventsRefused i) = codes "events refused: " ++ decimal i
note_words ReadFault = codes "read fault"
note_words WriteFault = codes "write fault"
note_words (TooLarge w) = codes "too large: " ++ (decimal w.things ++ (codes " things, " ++ (decimal w.text ++ codes " text")))
note_words OutOfMemory = codes "out of memory"
note_words KeeperFault = codes "keeper fault"
note_words NoSession = codes "no such session"
note_words VersionsUsed = codes "no version left"

-- the words and LF; nothing where the command ended well
abbrev pub note_of : Status → List ℕ
note_of Ok = []
note_of status = note_words status ++ 10 ∷ []

-- the note of a page whose script of this number is refused for this cause, and what stands first in it
abbrev pub script_note : ℕ → List ℕ → List ℕ
script_note k cause = (codes "page refused: " ++ script_words k cause) ++ 10 ∷ []

abbrev pub script_start : ℕ → List ℕ
script_start k = codes "page refused: script " ++ (decimal k ++ codes ": ")

-- what stands first in the note of a page that is too large
abbrev pub things_start : ℕ → List ℕ
things_start things = codes "too large: " ++ (decimal things ++ codes " things, ")

-- what a put of a text says: the whole of it was appended, or a front of it, and a fault is counted
abbrev pub PutWhole : SinkSeen → SinkSeen → List ℕ → Result (Unit {0}) PutFault → Type 0
PutWhole before now text result = OnOk result (Takes before.taken now.taken text)

abbrev pub PutFront : SinkSeen → SinkSeen → List ℕ → Result (Unit {0}) PutFault → Type 0
PutFront before now text result = OnErr result (TakesFront before.taken now.taken text)

abbrev pub PutCounts : SinkSeen → SinkSeen → Result (Unit {0}) PutFault → Type 0
PutCounts before now result = CountsFaults Failed before.faults now.faults result

-- a front of the note was appended, and the whole of it where the count of faults did not rise
pub record Noted (note : List ℕ) (before now : SinkSeen) : Type 0 where
  pub front : TakesFront before.taken now.taken note
  pub whole : Rose before.faults now.faults ⊎ Takes before.taken now.taken note
