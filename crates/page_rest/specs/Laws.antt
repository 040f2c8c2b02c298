-- That pages are at rest between two events, and have walks.
use Rattle.std.specs.Prelude.{◌≡◌, ℕ, List, Option}
use Rattle.std.specs.List.{All}
use Rattle.dom_tree.specs.Sound.{IsSound}
use Rattle.heap_walker.specs.Remade.{AllCanBeRemade}
use Rattle.heap_walker.specs.Still.{Still}
use Rattle.heap_walker.specs.Things.{IsWalk, Reach}
use Rattle.js_core.specs.Tree as tree
use Rattle.js_core.specs.Tree.{func}
use Rattle.js_grammar.specs.Syntax.{IsExpr, IsSyntax}
use Rattle.js_values.specs.declared.event.Event.{Event}
use Rattle.js_values.specs.declared.ids.EnvId.{EnvId}
use Rattle.object_heap.specs.Chain.{object_at}
use Rattle.object_heap.specs.declared.object.Class.TheVariants as class
use Rattle.page_host.specs.Sound.{ArePlain}
use Rattle.page_meaning.specs.Pages.{Page, run_of}
use Rattle.page_meaning.specs.Store.{Store}
use Rattle.script_rules.specs.FormScripts.{IsFormPageScript}

-- a script of a form page, as tokens have it
abbrev pub IsInForm : tree.Stmts → Type 0
IsInForm script = IsFormPageScript script × IsSyntax script

-- the code of each function that can be reached is a tree that some tokens have
abbrev pub HasSyntax : Store → Type 0
HasSyntax s =
    (k : ℕ) (c : tree.Code) (env : Option EnvId) → Reach s k → (object_at s.heap.objects k).class ≡ class.Page c env → IsExpr (func c)

-- after its scripts and any events a page in form is at rest, its functions can be made again, and their codes have tokens. No attribute's name begins
-- with `on` where it was read
abbrev pub PagesRest : Type 0
PagesRest =
    (page : Page) (es : List Event) (things : List ℕ) → IsSound page.nodes → ArePlain page.nodes → All IsInForm page.scripts → IsWalk (run_of page es) things
    → Still (run_of page es) × HasSyntax (run_of page es) × AllCanBeRemade (run_of page es) things

-- the reachable things of a page, each once, oldest first
pub record HasWalk (s : Store) : Type 0 where
  pub things : List ℕ
  pub walk : IsWalk s things

-- every page has a walk, at rest or not
abbrev pub PagesHaveWalks : Type 0
PagesHaveWalks = (s : Store) → HasWalk s
