-- Two pages that agree go on agreeing.
use Rattle.std.specs.Prelude.{◌≡◌, Bool, true, false, List, drop, length, ◌+◌, ◌<◌, ◌^◌}
use Rattle.agreement.specs.Opened.{AgreesStanding, Demand, opening, scripts_stand}
use Rattle.instrumenter.specs.Counting.{scripts_scopes}
use Rattle.instrumenter.specs.Opened.{IsPlainScript}
use Rattle.instrumenter.specs.Opening.{open_scripts}
use Rattle.std.specs.List.{All}
use Rattle.dom_tree.specs.Sound.{IsSound}
use Rattle.js_values.specs.declared.built_in.BuiltIn.{BuiltIn}
use Rattle.js_values.specs.declared.event.Event.{Event}
use Rattle.js_values.specs.declared.value.Value.{Value}
use Rattle.page_meaning.specs.Act.{Calls}
use Rattle.page_meaning.specs.Pages.{Page, run_all, run_of, lines_of_run}
use Rattle.page_meaning.specs.Rows.{row_of}
use Rattle.page_meaning.specs.Store.{Store}
use Rattle.heap_relations.specs.Naming.{named, World}
use Rattle.heap_relations.specs.Related.{Each, ValueRel}
use Rattle.agreement.specs.Acts.{Agrees, CallsRel, StoreRel}
use Rattle.agreement.specs.Trees.{AgreesWithItself, HasEqualTrees}

-- each built-in function, where what it calls agrees: on related values it does the same in pages that agree, and they agree after it
abbrev pub RowsAgree : Type 0
RowsAgree =
    (W : World) (c d : Calls) (construct : Bool) (which : BuiltIn) (this that : Value) (vs ws : List Value)
    → CallsRel W c d → ValueRel (named W) this that → Each (ValueRel (named W)) vs ws
    → Agrees W (row_of c construct which this vs) (row_of d construct which that ws)

-- the same events add the same lines to pages that agree, as many and whichever they are
abbrev pub EventsAgree : Type 0
EventsAgree =
    (W : World) (s t : Store) (es : List Event) → HasEqualTrees W → StoreRel W s t
    → drop (length s.lines) (run_all s es).lines ≡ drop (length t.lines) (run_all t es).lines

-- each page agrees with itself after its scripts and any events
abbrev pub PagesAgree : Type 0
PagesAgree = (page : Page) (es : List Event) → IsSound page.nodes → AgreesWithItself (run_of page es)

-- where each script stands, and nothing is opened, so do the functions that the page holds
abbrev pub StandingPagesAgree : Type 0
StandingPagesAgree =
    (d : Demand) (page : Page) (es : List Event)
    → IsSound page.nodes → d.opens ≡ false → scripts_stand d 1 page.scripts ≡ true → AgreesStanding d (run_of page es)

-- the page with its scopes opened
abbrev pub opened_page : Page → Page
opened_page page = record { nodes = page.nodes; scripts = open_scripts page.scripts }

-- a page and the same with its scopes opened put out the same lines, where its scripts may be opened
abbrev pub OpenedPagesAgree : Type 0
OpenedPagesAgree =
    (page : Page) (es : List Event)
    → IsSound page.nodes → scripts_stand opening 1 page.scripts ≡ true → lines_of_run page es ≡ lines_of_run (opened_page page) es

-- so it is of each page of plain scripts whose scope objects have numbers that the program can count to
abbrev pub PlainPagesAgree : Type 0
PlainPagesAgree =
    (page : Page) (es : List Event) → IsSound page.nodes → All IsPlainScript page.scripts → 1 + scripts_scopes page.scripts < 2 ^ 64
    → lines_of_run (opened_page page) es ≡ lines_of_run page es
