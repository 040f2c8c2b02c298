-- What `instrument` writes.
use Rattle.std.specs.Prelude.{ℕ, List}
use Rattle.dom_tree.specs.Sound.{IsSound}
use Rattle.opened_pages.specs.Opened.{HaveNumbers, Opens, PutOutTheSame}
use Rattle.read_files.specs.Page.{Page, IsAccepted, IsPage, opened, opened_page, running}

-- the text of the accepted page of these bytes with opened scopes
pub record IsOpened (bytes text : List ℕ) : Type 0 where
  pub page : Page
  pub accepted : IsAccepted bytes page
  pub sound : IsSound page.nodes
  pub opens : Opens bytes page text
  pub numbered : HaveNumbers page.kind page.scripts

-- so it is, of bytes that are not too long; it is accepted as a form page, which puts out the lines of the page under all events
pub record OpensTo (bytes text : List ℕ) : Type 0 where
  pub page : Page
  pub of_page : IsPage bytes page
  pub opens : Opens bytes page text
  pub accepted : IsAccepted text (opened_page page)
  pub same : PutOutTheSame (opened page) (running page)
