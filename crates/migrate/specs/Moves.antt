-- A page that is moved any number of times.
use Rattle.std.specs.Prelude.{◌≡◌, ℕ, List, [], ◌∷◌, ◌++◌}
use Rattle.js_values.specs.declared.event.Event.{Event}
use Rattle.js_values.specs.declared.line.Line.{Line}
use Rattle.moved_pages.specs.Moved.{FollowsFrom}
use Rattle.page_meaning.specs.Pages.{Page, lines_of_run}
use Rattle.read_files.specs.Page.{IsAccepted, running}
use Rattle.read_files.specs.Page.{Page as Accepted}
use Rattle.migrate.specs.Saving.{MovesTo}

-- all events of some lists, one after another
abbrev pub joined : List (List Event) → List Event
joined [] = []
joined (events ∷ more) = events ++ joined more

-- a page that runs on each of the lists in turn, and is moved after each, to the last page
pub data Moves : Page → List (List Event) → Page → Type 0 where
  once : (page : Page) (events : List Event) (moved : Page) → FollowsFrom page events moved → Moves page (events ∷ []) moved
  more : (page : Page) (events : List Event) (moved : Page) (rest : List (List Event)) (last : Page) → FollowsFrom page events moved → Moves moved rest last
      → Moves page (events ∷ rest) last

-- the lines that it puts out before each move, together
abbrev pub lines_of_moves : {page : Page} {lists : List (List Event)} {last : Page} → Moves page lists last → List Line
lines_of_moves (once page events moved follows) = lines_of_run page events
lines_of_moves (more page events moved rest last follows moves) = lines_of_run page events ++ lines_of_moves moves

-- **any number of moves gives the lines of none**
pub record IsUnmoved (page : Page) (lists : List (List Event)) (last : Page) (moves : Moves page lists last) : Type 0 where
  pub follows : FollowsFrom page (joined lists) last
  pub lines : lines_of_moves moves ≡ lines_of_run page (joined lists)

abbrev pub AnyMovesJoin : Type 0
AnyMovesJoin = (page last : Page) (lists : List (List Event)) (moves : Moves page lists last) → IsUnmoved page lists last moves

-- a saved page is such a page
abbrev pub SavedPagesFollow : Type 0
SavedPagesFollow =
    (bytes saved : List ℕ) (events : List Event) (page moved : Accepted) → MovesTo bytes events saved → IsAccepted bytes page → IsAccepted saved moved
    → FollowsFrom (running page) events (running moved)
