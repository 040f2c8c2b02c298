-- What follows where two pages at rest agree, and when they do.
use Rattle.std.specs.Prelude.{◌≡◌, ℕ, List, drop, length}
use Rattle.heap_relations.specs.Naming.{Pair}
use Rattle.heap_walker.specs.Still.{Still}
use Rattle.heap_walker.specs.Things.{IsWalk}
use Rattle.js_values.specs.declared.event.Event.{Event}
use Rattle.page_meaning.specs.Pages.{load_of, run_all}
use Rattle.page_meaning.specs.Store.{Store}
use Rattle.page_writer.specs.FormScripts.{AreWritten}
use Rattle.page_writer.specs.Script.{saved_in_frame}
use Rattle.rebuild_plan.specs.Compact.{compact}
use Rattle.rebuild_plan.specs.Plan.{plan}
use Rattle.rebuilding.specs.Laws.{CanBeRebuilt}
use Rattle.page_agreement.specs.Agree.{Agree, AreReached, pairs}

-- under each list of later events they put out the same lines
abbrev pub AgreeingPagesGoOn : Type 0
AgreeingPagesGoOn =
    (m : List Pair) (s t : Store) (later : List Event) → Still s → Still t → Agree m s t
    → drop (length s.lines) (run_all s later).lines ≡ drop (length t.lines) (run_all t later).lines

-- two pages with the same compact page agree, whatever the order in which their things are told
abbrev pub EqualCompactsAgree : Type 0
EqualCompactsAgree =
    (s t : Store) (ks js : List ℕ) → Still s → Still t → AreReached s ks → AreReached t js → compact s ks ≡ compact t js → Agree (pairs ks js) s t

-- the page that a saved page loads as, where the statements of its plan can be written, is at rest, and agrees with the one that was saved
abbrev pub RebuiltPagesAgree : Type 0
RebuiltPagesAgree =
    (s : Store) (things again : List ℕ) → CanBeRebuilt s things → AreWritten s things
    → let t = load_of (saved_in_frame (plan (compact s things))) in
    IsWalk t again → Still t × Agree (pairs things again) s t
