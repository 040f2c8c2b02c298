-- That the script of a saved page is one of a form page.
use Rattle.std.specs.Prelude.{ℕ, List}
use Rattle.std.specs.List.{All}
use Rattle.heap_walker.specs.Still.{Still}
use Rattle.heap_walker.specs.Things.{IsWalk}
use Rattle.js_grammar.specs.Syntax.{IsSyntax}
use Rattle.page_meaning.specs.Store.{Store}
use Rattle.rebuild_plan.specs.Compact.{compact}
use Rattle.rebuild_plan.specs.Plan.{plan}
use Rattle.script_rules.specs.FormScripts.{IsFormPageScript}
use Rattle.page_writer.specs.Script.{saved_script}
use Rattle.page_writer.specs.Writable.{IsWritable}

-- the statements of the plan can be written
abbrev pub AreWritten : Store → List ℕ → Type 0
AreWritten s things = All IsWritable (plan (compact s things))

-- where those of a page at rest are, its script is a tree that some tokens have, and what a form page asks
abbrev pub SavedScriptsAreForm : Type 0
SavedScriptsAreForm =
    (s : Store) (things : List ℕ) → Still s → IsWalk s things → AreWritten s things
    → IsSyntax (saved_script (plan (compact s things))) × IsFormPageScript (saved_script (plan (compact s things)))
