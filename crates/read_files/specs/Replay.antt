-- The events of a file, and what `replay` writes.
use Rattle.std.specs.Prelude.{◌≡◌, ℕ, ◌≤◌, List, length, Ok}
use Rattle.js_values.specs.Line.{lines_text}
use Rattle.js_values.specs.declared.event.Event.{Event}
use Rattle.event_file.specs.Events.{events_of}
use Rattle.page_meaning.specs.Pages.{lines_of_run}
use Rattle.outcomes.specs.Seen.{Seen, Held}
use Rattle.read_files.specs.Page.{event_file_limit, Page, IsPage, running}

-- the file is not too long, and holds these events
pub record IsEventFile (file : List ℕ) (events : List Event) : Type 0 where
  pub fits : length file ≤ event_file_limit
  pub holds : events_of file ≡ Ok events

-- the bytes of a page file and of an event file are a page and events of which this holds
pub record AreBoth (bytes file : List ℕ) (P : Page → List Event → Type 0) : Type 0 where
  pub page : Page
  pub events : List Event
  pub of_page : IsPage bytes page
  pub of_file : IsEventFile file events
  pub holds : P page events

-- so are those that two names held
abbrev pub HeldBoth : Seen → List ℕ → List ℕ → (Page → List Event → Type 0) → Type 0
HeldBoth seen p e P = Held seen p (λ bytes. Held seen e (λ file. AreBoth bytes file P))

-- the text of the lines that the scripts of the page put out, by the meaning of the whole language, and then of those of the events
abbrev pub Replays : Page → List Event → List ℕ → Type 0
Replays page events text = text ≡ lines_text (lines_of_run (running page) events)
