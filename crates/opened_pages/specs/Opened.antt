-- The text of a page with opened scopes.
use Rattle.std.specs.Prelude.{◌≡◌, ◌+◌, ◌<◌, ◌^◌, ℕ, List, map, ⊤}
use Rattle.dom_tree.specs.Sound.{IsSound}
use Rattle.js_core.specs.Tree as tree
use Rattle.instrumenter.specs.Counting.{scripts_scopes}
use Rattle.instrumenter.specs.Opening.{open_scripts}
use Rattle.js_print.specs.Printing.{script_text}
use Rattle.js_values.specs.declared.event.Event.{Event}
use Rattle.page_check.specs.Accept.{IsAccepted}
use Rattle.page_check.specs.Rules.{Page}
use Rattle.page_check.specs.declared.page.Kind.{Kind}
use Rattle.page_check.specs.declared.page.Kind.TheVariants.{Plain, Form}
use Rattle.page_meaning.specs.Pages.{Page as RunningPage, lines_after, lines_of_run}
use Rattle.page_reader.specs.declared.page.Place.{Place}
use Rattle.page_reader.specs.Replacing.{as_form_page, places_of}
use Rattle.printed_pages.specs.Printed.{form_page}

-- the mark of form pages and a plain page's own bytes, without a byte order mark, with the texts of its opened scripts in the places of its
-- own
abbrev pub opened_text : List ℕ → List Place → List tree.Stmts → List ℕ
opened_text bytes places scripts = as_form_page bytes places (map script_text (open_scripts scripts))

-- the text that opens the scopes of an accepted page, by its kind: those of a form page are open
abbrev pub OpensAs : Kind → List ℕ → Page → List ℕ → Type 0
OpensAs Form bytes page text = text ≡ bytes
OpensAs Plain bytes page text = (is : IsAccepted bytes page) × (text ≡ opened_text bytes (places_of is.texts) page.scripts)

abbrev pub Opens : List ℕ → Page → List ℕ → Type 0
Opens bytes page text = OpensAs page.kind bytes page text

-- the scripts of the page that it is
abbrev pub opened_scripts : Kind → List tree.Stmts → List tree.Stmts
opened_scripts Form scripts = scripts
opened_scripts Plain scripts = open_scripts scripts

-- that page
abbrev pub opened_page : Page → Page
opened_page page = form_page page.nodes (opened_scripts page.kind page.scripts)

-- the text is accepted as this page
abbrev pub OpenedPagesAreAccepted : Type 0
OpenedPagesAreAccepted = (bytes : List ℕ) (page : Page) (text : List ℕ) → IsAccepted bytes page → Opens bytes page text → IsAccepted text (opened_page page)

-- the objects of its scopes have numbers that the program can count to
abbrev pub HaveNumbers : Kind → List tree.Stmts → Type 0
HaveNumbers Form scripts = ⊤
HaveNumbers Plain scripts = 1 + scripts_scopes scripts < 2 ^ 64

-- what it is when it runs: its nodes and its scripts
abbrev pub running : Page → RunningPage
running page = record { nodes = page.nodes; scripts = page.scripts }

-- under all events this page puts out what that one does
pub record PutOutTheSame (page other : RunningPage) : Type 0 where
  pub all : (events : List Event) → lines_of_run page events ≡ lines_of_run other events
  pub after : (earlier later : List Event) → lines_after page earlier later ≡ lines_after other earlier later

-- **an opened page puts out the lines of the page**
abbrev pub OpenedPagesPutOutTheSame : Type 0
OpenedPagesPutOutTheSame =
    (bytes : List ℕ) (page : Page) → IsAccepted bytes page → IsSound page.nodes → HaveNumbers page.kind page.scripts
    → PutOutTheSame (running (opened_page page)) (running page)
