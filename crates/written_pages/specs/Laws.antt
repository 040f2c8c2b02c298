-- A page stays literal.
use Rattle.std.specs.Prelude.{List}
use Rattle.js_values.specs.declared.event.Event.{Event}
use Rattle.page_meaning.specs.Pages.{Page, run_of}
use Rattle.literal_values.specs.Events.{LiteralEvents}
use Rattle.literal_values.specs.Nodes.{LiteralNodes}
use Rattle.literal_values.specs.Stores.{LiteralStore}
use Rattle.literal_values.specs.Trees.{LiteralScripts}

-- a page whose nodes, scripts and events are literal stays so
abbrev pub PagesStayLiteral : Type 0
PagesStayLiteral =
    (page : Page) (events : List Event) → LiteralNodes page.nodes → LiteralScripts page.scripts → LiteralEvents events → LiteralStore (run_of page events)
