-- How long a saved page is.
use Rattle.std.specs.Prelude.{ℕ, ◌+◌, ◌*◌, ◌≤◌, List, length}
use Rattle.heap_walker.specs.Still.{Still}
use Rattle.heap_walker.specs.Things.{IsWalk}
use Rattle.heap_walker.specs.Weight.{load_of}
use Rattle.page_meaning.specs.Store.{Store}
use Rattle.rebuild_plan.specs.Compact.{compact}
use Rattle.rebuild_plan.specs.Plan.{plan}
use Rattle.page_writer.specs.Literals.{HaveLiterals}
use Rattle.page_writer.specs.Page.{saved_page}
use Rattle.page_writer.specs.Sizes.{things_limit}

-- a page at rest, with no more things than may be saved, takes at most 160 bytes for each thing,
-- besides its text, and 4,096 more
abbrev pub PagesAreShort : Type 0
PagesAreShort =
    (s : Store) (things : List ℕ) → Still s → IsWalk s things → (load_of s things).things ≤ things_limit
    → HaveLiterals (plan (compact s things))
    → length (saved_page s things) ≤ 160 * (load_of s things).things + (load_of s things).text + 4096
