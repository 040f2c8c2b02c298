-- That generated pages are accepted.
use Rattle.std.specs.Prelude.{◌≤◌, ℕ, true, [], ◌∷◌}
use Rattle.js_core.specs.Tree as tree
use Rattle.js_core.specs.Whole.{largest}
use Rattle.page_check.specs.Accept.{IsAccepted}
use Rattle.page_check.specs.Rules.{Page}
use Rattle.page_check.specs.declared.page.Kind.TheVariants.{Plain}
use Rattle.page_maker.specs.Page.{page}
use Rattle.page_reader.specs.Laws.{script_page}

-- the plain page with an empty body and this script
abbrev pub plain_page : tree.Stmts → Page
plain_page script = record { kind = Plain; nodes = script_page true; scripts = script ∷ [] }

-- the page with n parts is accepted as such a page, where n is a number of the language
abbrev pub PagesAreAccepted : Type 0
PagesAreAccepted = (n : ℕ) → n ≤ largest → (script : tree.Stmts) × IsAccepted (page n) (plain_page script)
