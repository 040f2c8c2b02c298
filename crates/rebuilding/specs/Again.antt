-- A page that was rebuilt is saved as the one that it was rebuilt from: its plan is the same, and with it the text that is written.
use Rattle.std.specs.Prelude.{◌≡◌, ℕ, List}
use Rattle.heap_walker.specs.Things.{IsWalk}
use Rattle.page_meaning.specs.Pages.{load_of}
use Rattle.page_meaning.specs.Store.{Store}
use Rattle.page_writer.specs.Script.{saved_in_frame}
use Rattle.rebuild_plan.specs.Compact.{compact}
use Rattle.rebuild_plan.specs.Plan.{plan}
use Rattle.rebuilding.specs.Laws.{CanBeRebuilt}

abbrev pub SavedAgain : Type 0
SavedAgain =
    (s : Store) (things again : List ℕ) → CanBeRebuilt s things
    → let t = load_of (saved_in_frame (plan (compact s things))) in
    IsWalk t again → compact t again ≡ compact s things
