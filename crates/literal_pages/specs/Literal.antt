-- What accepted pages and files of events hold.
use Rattle.std.specs.Prelude.{◌≡◌, ℕ, ◌≤◌, List, length, Ok}
use Rattle.event_file.specs.Events.{events_of}
use Rattle.js_values.specs.declared.event.Event.{Event}
use Rattle.literal_values.specs.Events.{LiteralEvents}
use Rattle.literal_values.specs.Nodes.{LiteralNodes}
use Rattle.literal_values.specs.Trees.{LiteralScripts}
use Rattle.page_check.specs.Accept.{IsAccepted}
use Rattle.page_check.specs.Rules.{Page}

-- the size in bytes of the largest file that is read as a page
abbrev pub page_limit : ℕ
page_limit = 16777216

-- the size in bytes of the largest file of events
abbrev pub event_file_limit : ℕ
event_file_limit = 4194304

-- the names, texts and numbers of an accepted page's nodes and scripts can be written
abbrev pub AcceptedPagesAreLiteral : Type 0
AcceptedPagesAreLiteral =
    (bytes : List ℕ) (page : Page) → IsAccepted bytes page → length bytes ≤ page_limit → LiteralNodes page.nodes × LiteralScripts page.scripts

-- and so can the texts of events that are read
abbrev pub ReadEventsAreLiteral : Type 0
ReadEventsAreLiteral =
    (bytes : List ℕ) (events : List Event) → events_of bytes ≡ Ok events → length bytes ≤ event_file_limit → LiteralEvents events
