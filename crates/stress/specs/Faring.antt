-- What running, saving and moving a generated page answers.
use Rattle.std.specs.Prelude.{ℕ, ◌≡◌, List, Some, length}
use Rattle.js_values.specs.declared.event.Event.{Event}
use Rattle.opened_pages.specs.Opened.{HaveNumbers}
use Rattle.page_check.specs.Accept.{IsRefused}
use Rattle.page_check.specs.declared.page.Refusal.{Refusal}
use Rattle.page_meaning.specs.Pages.{lines_of_run, run_of}
use Rattle.page_meaning.specs.Store.{Store}
use Rattle.page_writer.specs.Page.{saved_page}
use Rattle.migrate.specs.Moving.{IsOverweight}
use Rattle.migrate.specs.Saving.{CanBeSaved}
use Rattle.read_files.specs.Page.{Page, IsAccepted, opened, running}
use Rattle.stress.specs.Stress.{IsMade}
use Rattle.stress.specs.Works.{StopsHalfway}
use Rattle.outcomes.specs.declared.status.Status.{Status}
use Rattle.outcomes.specs.declared.status.Status.TheVariants.{PageRefused, TooLarge, OutOfMemory}

-- the generated page after all of its events
pub record IsWhole (n : ℕ) (s : Store) : Type 0 where
  pub page : Page
  pub events : List Event
  pub made : IsMade n page events
  pub state : s ≡ run_of (running page) events

-- how many lines the page of these bytes puts out under the events
pub record CountsLines (bytes : List ℕ) (events : List Event) (count : ℕ) : Type 0 where
  pub page : Page
  pub accepted : IsAccepted bytes page
  pub is : count ≡ length (lines_of_run (running page) events)

-- the page that is saved after the earlier events is accepted, and puts out so many lines under the later ones; so many bytes it has
pub record IsMovedBy (page : Page) (earlier later : List Event) (lines bytes : ℕ) : Type 0 where
  pub things : List ℕ
  pub can : CanBeSaved (run_of (opened page) earlier) things
  pub numbered : HaveNumbers page.kind page.scripts
  pub counts : CountsLines (saved_page (run_of (opened page) earlier) things) later lines
  pub size : bytes ≡ length (saved_page (run_of (opened page) earlier) things)

-- the page that is saved is refused, which never comes
pub record IsSavedInVain (page : Page) (earlier : List Event) (cause : Refusal) : Type 0 where
  pub things : List ℕ
  pub can : CanBeSaved (run_of (opened page) earlier) things
  pub numbered : HaveNumbers page.kind page.scripts
  pub refused : IsRefused (saved_page (run_of (opened page) earlier) things) cause

-- why it is not moved
abbrev pub IsUnmoved : Page → List Event → Status → Type 0
IsUnmoved page earlier (TooLarge w) = (things : List ℕ) × IsOverweight (run_of (opened page) earlier) things w
IsUnmoved page earlier (PageRefused (Some r)) = IsSavedInVain page earlier r
IsUnmoved page earlier OutOfMemory = Unit {0}
IsUnmoved page earlier status = ⊥

-- why a generated page has no line: it is too large to be moved, or memory ran out
abbrev pub HasNoLine : ℕ → Status → Type 0
HasNoLine n OutOfMemory = Unit {0}
HasNoLine n status = StopsHalfway n status
