-- A moved page behaves as if it had never moved.
use Rattle.std.specs.Prelude.{◌≡◌, ℕ, ◌≤◌, true, List, [], ◌∷◌, length, ◌++◌, ◌+◌, ◌*◌}
use Rattle.std.specs.List.{All, list_all}
use Rattle.dom_tree.specs.Sound.{IsSound}
use Rattle.heap_walker.specs.Things.{IsWalk}
use Rattle.heap_walker.specs.Weight.{load_of}
use Rattle.js_core.specs.Tree as tree
use Rattle.js_values.specs.declared.event.Event.{Event}
use Rattle.page_check.specs.Accept.{IsAccepted}
use Rattle.page_check.specs.Rules.{Page as Accepted}
use Rattle.page_host.specs.Sound.{ArePlain}
use Rattle.page_meaning.specs.Pages.{Page, lines_after, lines_of_run, run_of}
use Rattle.page_meaning.specs.Store.{Store}
use Rattle.page_rest.specs.Laws.{IsInForm}
use Rattle.page_writer.specs.Literals.{HaveLiterals}
use Rattle.page_writer.specs.Page.{saved_page}
use Rattle.page_writer.specs.Script.{in_frame}
use Rattle.page_writer.specs.Sizes.{text_limit, things_limit}
use Rattle.printed_pages.specs.Printed.{framed_page}
use Rattle.rebuild_plan.specs.Compact.{compact}
use Rattle.rebuild_plan.specs.Plan.{plan}
use Rattle.rebuilding.specs.Laws.{LoadsWithin}
use Rattle.script_rules.specs.Form.{in_form}

-- a page with scripts of form pages, after whose events these things can be reached; what they write can be written, and they and their text
-- are no more than a saved page may have
pub record CanBeMoved (page : Page) (earlier : List Event) (things : List ℕ) : Type 0 where
  pub sound : IsSound page.nodes
  pub plain : ArePlain page.nodes
  pub in_form : All IsInForm page.scripts
  pub walked : IsWalk (run_of page earlier) things
  pub literals : HaveLiterals (plan (compact (run_of page earlier) things))
  pub few : (load_of (run_of page earlier) things).things ≤ things_limit
  pub short : (load_of (run_of page earlier) things).text ≤ text_limit

-- these things and their text are no more than a saved page may have
abbrev pub IsLittle : Store → List ℕ → Type 0
IsLittle s things = ((load_of s things).things ≤ things_limit) × ((load_of s things).text ≤ text_limit)

-- no page has more bytes
abbrev pub longest_page : ℕ
longest_page = 16777216

-- the text is short enough, and accepted as a form page with this script, which is in form; the page loads without a line, and puts out, under
-- every list of later events, exactly the lines that the page puts out for them after the earlier ones
pub record GoesOnAs (text : List ℕ) (page : Page) (earlier : List Event) (script : tree.Stmts) : Type 0 where
  pub fits : length text ≤ longest_page
  pub accepted : IsAccepted text (framed_page script)
  pub formed : in_form script ≡ true
  pub silent : lines_of_run (in_frame (script ∷ [])) [] ≡ []
  pub same : (later : List Event) → lines_after (in_frame (script ∷ [])) [] later ≡ lines_after page earlier later
  -- saved again, without events, it has the same text, and is little enough for that
  pub again : (things : List ℕ) → IsWalk (run_of (in_frame (script ∷ [])) []) things → saved_page (run_of (in_frame (script ∷ [])) []) things ≡ text
  pub little : (things : List ℕ) → IsWalk (run_of (in_frame (script ∷ [])) []) things → IsLittle (run_of (in_frame (script ∷ [])) []) things

-- so does some script, and the page takes at most so many steps when it loads
pub record GoesOn (text : List ℕ) (page : Page) (earlier : List Event) (steps : ℕ) : Type 0 where
  pub script : tree.Stmts
  pub within : LoadsWithin (in_frame (script ∷ [])) steps
  pub goes_on : GoesOnAs text page earlier script

-- the saved page takes at most 160 bytes for each thing, besides its text, and 4,096 more
abbrev pub IsShort : Store → List ℕ → Type 0
IsShort s things = length (saved_page s things) ≤ 160 * (load_of s things).things + (load_of s things).text + 4096

abbrev pub MovedPagesGoOn : Type 0
MovedPagesGoOn =
    (page : Page) (earlier : List Event) (things : List ℕ) → CanBeMoved page earlier things
    → GoesOn (saved_page (run_of page earlier) things) page earlier (4 * (load_of (run_of page earlier) things).things + 4)
    × IsShort (run_of page earlier) things

-- a page goes on as another one after the earlier events, without a line of its own before
pub record FollowsFrom (page : Page) (earlier : List Event) (moved : Page) : Type 0 where
  pub silent : lines_of_run moved [] ≡ []
  pub same : (later : List Event) → lines_after moved [] later ≡ lines_after page earlier later

-- a page that was moved and then moved again goes on as the first one after all events: any number of moves gives the lines of none
abbrev pub MovesJoin : Type 0
MovesJoin =
    (page moved again : Page) (earlier between : List Event) → FollowsFrom page earlier moved → FollowsFrom moved between again
    → FollowsFrom page (earlier ++ between) again

-- an accepted script that is in form is one of a form page
abbrev pub AcceptedScriptsAreInForm : Type 0
AcceptedScriptsAreInForm =
    (bytes : List ℕ) (page : Accepted) → IsAccepted bytes page → list_all in_form page.scripts ≡ true → All IsInForm page.scripts

-- no attribute of an accepted page has a name that begins with `on`
abbrev pub AcceptedPagesArePlain : Type 0
AcceptedPagesArePlain = (bytes : List ℕ) (page : Accepted) → IsAccepted bytes page → ArePlain page.nodes
