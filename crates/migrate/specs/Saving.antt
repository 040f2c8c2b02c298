-- What is saved of a page after events, and that it goes on as the page would.
use Rattle.std.specs.Prelude.{ℕ, ◌≡◌, ◌<◌, ◌⊎◌, List, [], ◌+◌, ◌*◌, ◌≤◌, length}
use Rattle.dom_tree.specs.Sound.{IsSound}
use Rattle.heap_walker.specs.Things.{IsWalk}
use Rattle.heap_walker.specs.Weight.{load_of, told}
use Rattle.heap_walker.specs.declared.weight.Weight.{Weight}
use Rattle.js_values.specs.declared.event.Event.{Event}
use Rattle.opened_pages.specs.Opened.{HaveNumbers}
use Rattle.page_check.specs.declared.page.Kind.TheVariants.{Form}
use Rattle.page_meaning.specs.Pages.{lines_after, lines_of_run, run_of}
use Rattle.page_meaning.specs.Store.{Store}
use Rattle.page_writer.specs.Literals.{HaveLiterals}
use Rattle.page_writer.specs.Page.{saved_page}
use Rattle.page_writer.specs.Sizes.{text_limit, things_limit}
use Rattle.rebuild_plan.specs.Compact.{compact}
use Rattle.rebuild_plan.specs.Plan.{plan}
use Rattle.rebuilding.specs.Laws.{LoadsWithin}
use Rattle.read_files.specs.Page.{Page, IsAccepted, IsPage, opened, running}

-- ---- what is saved

-- the page, with opened scopes, after the events, and its things: those that can still be reached, by age
pub record IsAfter (page : Page) (events : List Event) (s : Store) (things : List ℕ) : Type 0 where
  pub state : s ≡ run_of (opened page) events
  pub walked : IsWalk s things

abbrev pub IsTooMuch : Weight → Type 0
IsTooMuch w = (things_limit < w.things) ⊎ (text_limit < w.text)

-- there are more things or there is more text than a saved page may have, and so much they are
pub record IsTooLarge (page : Page) (events : List Event) (w : Weight) : Type 0 where
  pub state : Store
  pub things : List ℕ
  pub after : IsAfter page events state things
  pub weighed : w ≡ told (load_of state things)
  pub more : IsTooMuch w

-- there are no more, and no more text: it can be saved
pub record IsMovable (page : Page) (events : List Event) : Type 0 where
  pub state : Store
  pub things : List ℕ
  pub after : IsAfter page events state things
  pub little : ¬ IsTooMuch (told (load_of state things))

-- ---- how it goes on

-- a form page goes on as a page after the earlier events: it loads without a line, and puts out, under every list of
-- later events, exactly the lines that the page puts out for them after the earlier ones
pub record GoesOn (page : Page) (earlier : List Event) (moved : Page) : Type 0 where
  pub form : moved.kind ≡ Form
  pub silent : lines_of_run (running moved) [] ≡ []
  pub same : (later : List Event) → lines_after (running moved) [] later ≡ lines_after (running page) earlier later

-- **A moved page behaves as if it had never moved.** The saved bytes are a page, which is not too long to be read, and whichever page
-- they are accepted as goes on as whichever page the bytes are accepted as. It is saved again, without events, as the same bytes, and is never
-- too large for that.
pub record MovesTo (bytes : List ℕ) (earlier : List Event) (saved : List ℕ) : Type 0 where
  pub moved : Page
  pub page : IsPage saved moved
  pub goes_on : (before now : Page) → IsAccepted bytes before → IsAccepted saved now → GoesOn before earlier now
  pub again : (now : Page) (things : List ℕ) → IsAccepted saved now → IsWalk (run_of (opened now) []) things → saved_page (run_of (opened now) []) things ≡ saved
  pub little : (now : Page) (things : List ℕ) → IsAccepted saved now → IsWalk (run_of (opened now) []) things → ¬ IsTooMuch (told (load_of (run_of (opened now) []) things))

-- the page that is saved after the events, to which the page moves, from whichever bytes it is accepted
pub record Saves (page : Page) (events : List Event) (text : List ℕ) : Type 0 where
  pub state : Store
  pub things : List ℕ
  pub after : IsAfter page events state things
  pub saved : text ≡ saved_page state things
  -- at most 160 bytes for each thing, besides its text, and 4,096 more
  pub short : length text ≤ 160 * (load_of state things).things + (load_of state things).text + 4096
  -- and each of its scripts at most four steps for each thing, and four, when it loads
  pub steps : (now : Page) → IsAccepted text now → LoadsWithin (running now) (4 * (load_of state things).things + 4)
  pub moves : (bytes : List ℕ) → IsAccepted bytes page → MovesTo bytes events text

-- the page of which a front may have been put before memory ran out: it is not too large
pub record Begins (page : Page) (events : List Event) (text : List ℕ) : Type 0 where
  pub state : Store
  pub things : List ℕ
  pub after : IsAfter page events state things
  pub little : ¬ IsTooMuch (told (load_of state things))
  pub saved : text ≡ saved_page state things

-- ---- that what is saved of an accepted page is such a page

-- the things of a page that can be saved
pub record CanBeSaved (s : Store) (things : List ℕ) : Type 0 where
  pub walked : IsWalk s things
  pub little : ¬ IsTooMuch (told (load_of s things))
  pub literals : HaveLiterals (plan (compact s things))

abbrev pub SavedPagesMove : Type 0
SavedPagesMove =
    (bytes : List ℕ) (page : Page) (events : List Event) (things : List ℕ) → IsAccepted bytes page → IsSound page.nodes
    → HaveNumbers page.kind page.scripts → CanBeSaved (run_of (opened page) events) things
    → Saves page events (saved_page (run_of (opened page) events) things)
