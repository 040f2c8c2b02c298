-- How many statements a plan has.
use Rattle.std.specs.Prelude.{ℕ, ◌+◌, ◌*◌, ◌≤◌, List, length}
use Rattle.heap_walker.specs.Still.{Still}
use Rattle.heap_walker.specs.Things.{IsWalk}
use Rattle.heap_walker.specs.Weight.{load_of}
use Rattle.page_meaning.specs.Store.{Store}
use Rattle.rebuild_plan.specs.Compact.{compact}
use Rattle.rebuild_plan.specs.Plan.{plan}

-- at most four for each thing, property, argument and so on that is saved, and one for the document
abbrev pub PlansAreFew : Type 0
PlansAreFew =
    (s : Store) (things : List ℕ) → Still s → IsWalk s things
    → length (plan (compact s things)) ≤ 4 * (load_of s things).things + 1
