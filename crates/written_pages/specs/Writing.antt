-- What a page reaches can be written.
use Rattle.std.specs.Prelude.{List}
use Rattle.js_values.specs.declared.event.Event.{Event}
use Rattle.page_meaning.specs.Pages.{Page, run_of}
use Rattle.page_writer.specs.Literals.{CanBeWritten}
use Rattle.literal_values.specs.Events.{LiteralEvents}
use Rattle.literal_values.specs.Nodes.{LiteralNodes}
use Rattle.literal_values.specs.Trees.{LiteralScripts}

-- what a page with literal nodes, scripts and events reaches can be written
abbrev pub PagesCanBeWritten : Type 0
PagesCanBeWritten =
    (page : Page) (events : List Event) → LiteralNodes page.nodes → LiteralScripts page.scripts → LiteralEvents events
    → CanBeWritten (run_of page events)
