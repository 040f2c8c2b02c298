-- That the text of a saved page is accepted as a form page, with its script.
use Rattle.std.specs.Prelude.{ℕ, List}
use Rattle.heap_walker.specs.Still.{Still}
use Rattle.heap_walker.specs.Things.{IsWalk}
use Rattle.page_check.specs.Accept.{IsAccepted}
use Rattle.page_meaning.specs.Store.{Store}
use Rattle.page_writer.specs.FormScripts.{AreWritten}
use Rattle.page_writer.specs.Page.{saved_page}
use Rattle.page_writer.specs.Script.{saved_script}
use Rattle.printed_pages.specs.Printed.{framed_page}
use Rattle.rebuild_plan.specs.Compact.{compact}
use Rattle.rebuild_plan.specs.Plan.{plan}

-- so is that of each page at rest, where its statements can be written
abbrev pub SavedPagesAreAccepted : Type 0
SavedPagesAreAccepted =
    (s : Store) (things : List ℕ) → Still s → IsWalk s things → AreWritten s things
    → IsAccepted (saved_page s things) (framed_page (saved_script (plan (compact s things))))
