-- What `check` writes.
use Rattle.std.specs.Prelude.{ℕ, ◌≡◌, List, codes}
use Rattle.page_check.specs.declared.page.Kind.{Kind}
use Rattle.page_check.specs.declared.page.Kind.TheVariants.{Plain, Form}
use Rattle.read_files.specs.Page.{Page, IsPage}

-- the kind of a page, and LF
unfoldable pub kind_line : Kind → List ℕ
kind_line Plain = codes "plain\n"
kind_line Form = codes "form\n"

-- the line of the page's kind
pub record Tells (bytes text : List ℕ) : Type 0 where
  pub page : Page
  pub of_page : IsPage bytes page
  pub line : text ≡ kind_line page.kind
