-- The stages of a page that is read, and of its events.
use Rattle.std.specs.Prelude.{◌≡◌, ℕ, ◌<◌, ◌≤◌, ◌⊎◌, false, List, [], ◌∷◌, length, Some, None, Err}
use Rattle.page_io.specs.Content.{Told}
use Rattle.page_io.specs.Seen.{FilesSeen}
use Rattle.page_check.specs.Accept.{IsRefused}
use Rattle.js_values.specs.declared.event.Event.{Event}
use Rattle.event_file.specs.Events.{events_of}
use Rattle.outcomes.specs.Seen.{Held, Of, ReadFailed}
use Rattle.outcomes.specs.Stages.{Stage}
use Rattle.outcomes.specs.declared.status.Status.{Status}
use Rattle.outcomes.specs.declared.status.Status.TheVariants.{PageRefused, EventsRefused, ReadFault}
use Rattle.read_files.specs.Page.{page_limit, event_file_limit, Page, IsAccepted}
use Rattle.read_files.specs.Replay.{IsEventFile}

-- the file is too long, or it is not and holds no list of events
abbrev pub IsNoEventFile : List ℕ → ℕ → Type 0
IsNoEventFile file i = ((event_file_limit < length file) × (i ≡ 0)) ⊎ ((length file ≤ event_file_limit) × (events_of file ≡ Err i))

-- ---- what ends a command at a stage, and how; no status has another cause

abbrev pub StopsAtPageFile : List ℕ → Status → FilesSeen → FilesSeen → Type 0
StopsAtPageFile p ReadFault before now = ReadFailed p before now
StopsAtPageFile p (PageRefused None) before now = Of (before.content p) (λ bytes. page_limit < length bytes)
StopsAtPageFile p status before now = ⊥

abbrev pub StopsAtAcceptance : Status → Told → Type 0
StopsAtAcceptance (PageRefused (Some r)) page = Of page (λ bytes. IsRefused bytes r)
StopsAtAcceptance status page = ⊥

abbrev pub StopsAtEventFile : List ℕ → Status → FilesSeen → FilesSeen → Type 0
StopsAtEventFile e ReadFault before now = ReadFailed e before now
StopsAtEventFile e (EventsRefused i) before now = Of (before.content e) (λ file. IsNoEventFile file i)
StopsAtEventFile e status before now = ⊥

-- ---- the stages

-- it reads the page file of this name
abbrev pub page_file : List ℕ → Stage
page_file p = record {
  files = p ∷ [];
  asks = false;
  stops = λ status seen. StopsAtPageFile p status seen.files_before seen.files_now;
  passes = λ seen. Held seen p (λ bytes. length bytes ≤ page_limit);
}

-- it accepts what the file holds
abbrev pub acceptance : List ℕ → Stage
acceptance p = record {
  files = p ∷ [];
  asks = false;
  stops = λ status seen. StopsAtAcceptance status (seen.files_before.content p);
  passes = λ seen. Held seen p (λ bytes. (page : Page) × IsAccepted bytes page);
}

-- it reads the event file of this name
abbrev pub event_file : List ℕ → Stage
event_file e = record {
  files = e ∷ [];
  asks = false;
  stops = λ status seen. StopsAtEventFile e status seen.files_before seen.files_now;
  passes = λ seen. Held seen e (λ file. (events : List Event) × IsEventFile file events);
}

-- those of a page
abbrev pub accepting : List ℕ → List Stage
accepting p = page_file p ∷ acceptance p ∷ []

-- and of a page that is run
abbrev pub reading : List ℕ → List ℕ → List Stage
reading p e = page_file p ∷ acceptance p ∷ event_file e ∷ []
