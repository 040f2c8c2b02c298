-- Which pages the commands take.
use Rattle.std.specs.Prelude.{ℕ, ◌≤◌, List, length}
pub use Rattle.opened_pages.specs.Opened.{opened_page, running}
pub use Rattle.page_check.specs.Accept.{IsAccepted}
pub use Rattle.page_check.specs.Rules.{Page}
use Rattle.page_meaning.specs.Pages.{Page as RunningPage}

-- a page file and an event file have at most so many bytes
abbrev pub page_limit : ℕ
page_limit = 16777216

abbrev pub event_file_limit : ℕ
event_file_limit = 4194304

-- the bytes are not too long, and accepted as this page, and as no other (`law_one_answer` of page_check)
pub record IsPage (bytes : List ℕ) (page : Page) : Type 0 where
  pub fits : length bytes ≤ page_limit
  pub accepted : IsAccepted bytes page

-- the page with opened scopes when it runs, as it is saved
abbrev pub opened : Page → RunningPage
opened page = running (opened_page page)
