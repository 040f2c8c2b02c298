-- What reading a file of a command says.
use Rattle.std.specs.Prelude.{◌≡◌, ℕ, ◌<◌, ◌≤◌, List, length, Some, None, Result, Err}
use Rattle.page_io.specs.Content.{Told}
use Rattle.page_io.specs.Faults.{Rose}
use Rattle.page_io.specs.Seen.{FilesSeen, KeeperSeen}
use Rattle.dom_tree.specs.Sound.{IsSound}
use Rattle.page_check.specs.Accept.{IsRefused}
use Rattle.outcomes.specs.declared.status.Status.{Status}
use Rattle.outcomes.specs.declared.status.Status.TheVariants.{PageRefused, EventsRefused, ReadFault, OutOfMemory}
use Rattle.js_values.specs.declared.event.Event.{Event}
use Rattle.read_files.specs.Page.{page_limit, Page, IsPage}
use Rattle.read_files.specs.Replay.{IsEventFile}
use Rattle.outcomes.specs.Seen.{Of, seen_between}
use Rattle.outcomes.specs.Stages.{EndsAt}
use Rattle.read_files.specs.Stages.{IsNoEventFile, reading}

-- what a page file holds, where that is not too long
pub record IsPageFile (held bytes : List ℕ) : Type 0 where
  pub fits : length held ≤ page_limit
  pub same : bytes ≡ held

-- why reading the page ends the command
abbrev pub StopsAtPage : Status → Told → Type 0
StopsAtPage (PageRefused None) page = Of page (λ bytes. page_limit < length bytes)
StopsAtPage (PageRefused (Some r)) page = Of page (λ bytes. (length bytes ≤ page_limit) × IsRefused bytes r)
StopsAtPage ReadFault page = Unit {0}
StopsAtPage OutOfMemory page = Unit {0}
StopsAtPage status page = ⊥

-- the bytes are not taken as a page, for this cause; want of memory is free
abbrev pub IsUntaken : List ℕ → Status → Type 0
IsUntaken bytes (PageRefused (Some r)) = IsRefused bytes r
IsUntaken bytes OutOfMemory = Unit {0}
IsUntaken bytes status = ⊥

-- why reading the events ends the command
abbrev pub StopsAtEvents : Status → Told → Type 0
StopsAtEvents (EventsRefused i) file = Of file (λ bytes. IsNoEventFile bytes i)
StopsAtEvents ReadFault file = Unit {0}
StopsAtEvents OutOfMemory file = Unit {0}
StopsAtEvents status file = ⊥

-- the count never falls, and a read of this name that ends the command with `ReadFault` failed in the call
pub record CountsReads {T : Type 0} (before now : FilesSeen) (name : List ℕ) (result : Result T Status) : Type 0 where
  pub later : before.faults ≤ now.faults
  pub rose : result ≡ Err ReadFault → Rose before.faults now.faults × (now.failed ≡ Some name)

-- the page and the events that two files hold; its nodes are sound, as all that are read
pub record AreRead (page file : Told) (of : Page) (events : List Event) : Type 0 where
  pub of_page : Of page (λ bytes. IsPage bytes of)
  pub sound : IsSound of.nodes
  pub of_file : Of file (λ content. IsEventFile content events)

-- reading both ends the command, whatever becomes of the keeper
abbrev pub StopsReading : List ℕ → List ℕ → Status → FilesSeen → FilesSeen → Type 0
StopsReading p e status before now = (keeper keeper_now : KeeperSeen) → EndsAt (reading p e) status (seen_between before now keeper keeper_now)
