-- What an accepted page reaches can be written.
use Rattle.std.specs.Prelude.{◌≡◌, ℕ, ◌≤◌, List, length, Ok}
use Rattle.event_file.specs.Events.{events_of}
use Rattle.js_values.specs.declared.event.Event.{Event}
use Rattle.literal_values.specs.Events.{LiteralEvents}
use Rattle.literal_pages.specs.Literal.{event_file_limit, page_limit}
use Rattle.page_check.specs.Accept.{IsAccepted}
use Rattle.page_check.specs.Rules.{Page}
use Rattle.page_meaning.specs.Pages.{Page as RunningPage, run_of}
use Rattle.page_writer.specs.Literals.{CanBeWritten}

-- what an accepted page is when it runs: its nodes and its scripts
abbrev pub running : Page → RunningPage
running page = record { nodes = page.nodes; scripts = page.scripts }

-- so it is under events whose texts can be written
abbrev pub AcceptedPagesAreWritten : Type 0
AcceptedPagesAreWritten =
    (bytes : List ℕ) (page : Page) (events : List Event) → IsAccepted bytes page → length bytes ≤ page_limit → LiteralEvents events
    → CanBeWritten (run_of (running page) events)

-- and under events that a file holds
abbrev pub ReadPagesAreWritten : Type 0
ReadPagesAreWritten =
    (bytes file : List ℕ) (page : Page) (events : List Event) → IsAccepted bytes page → length bytes ≤ page_limit
    → events_of file ≡ Ok events → length file ≤ event_file_limit → CanBeWritten (run_of (running page) events)
