-- A saved page goes on as the page that was saved.
use Rattle.std.specs.Prelude.{◌≡◌, ℕ, ◌<◌, List, [], ◌∷◌, drop, length, ◌+◌, ◌≤◌, ⊤}
use Rattle.agreement.specs.Acts.{StoreRel}
use Rattle.agreement.specs.Trees.{HasEqualTrees}
use Rattle.heap_relations.specs.Naming.{World}
use Rattle.heap_walker.specs.Still.{Still}
use Rattle.heap_walker.specs.Things.{IsWalk}
use Rattle.js_core.specs.Tree.{Stmts}
use Rattle.js_values.specs.declared.event.Event.{Event}
use Rattle.page_meaning.specs.Act.{Ended}
use Rattle.page_meaning.specs.Calls.{calls_at}
use Rattle.page_meaning.specs.Pages.{Page, load_of, run_all}
use Rattle.page_meaning.specs.Pristine.{pristine}
use Rattle.page_meaning.specs.Store.{Store}
use Rattle.page_meaning.specs.Tasks.{Script, after_task, depth_limit, step_limit, task_of}
use Rattle.page_meaning.specs.declared.signal.Signal.{Signal}
use Rattle.page_writer.specs.Literals.{HaveLiterals}
use Rattle.page_writer.specs.Script.{saved_in_frame}
use Rattle.rebuild_plan.specs.Compact.{compact}
use Rattle.rebuild_plan.specs.Plan.{plan}

-- a page that was saved and the one that was rebuilt from it agree
pub record Agrees (s t : Store) : Type 0 where
  pub world : World
  pub trees : HasEqualTrees world
  pub stores : StoreRel world s t

-- a page that can be saved, whose plan has fewer statements than a script has steps, and one that takes the frame's nodes out
pub record CanBeRebuilt (s : Store) (things : List ℕ) : Type 0 where
  pub still : Still s
  pub walk : IsWalk s things
  pub in_range : HaveLiterals (plan (compact s things))
  pub few : length (plan (compact s things)) + 1 < step_limit

-- its saved script loads without a line, as a page that agrees with it
abbrev pub ScriptsRebuild : Type 0
ScriptsRebuild =
    (s : Store) (things : List ℕ) → CanBeRebuilt s things
    → let t = load_of (saved_in_frame (plan (compact s things))) in
    (t.lines ≡ []) × Agrees s t

-- and under each list of later events it puts out the same lines
abbrev pub RebuiltPagesGoOn : Type 0
RebuiltPagesGoOn =
    (s : Store) (things : List ℕ) (later : List Event) → CanBeRebuilt s things
    → (run_all (load_of (saved_in_frame (plan (compact s things)))) later).lines ≡ drop (length s.lines) (run_all s later).lines

-- the task of a script, from a page, ends by itself with at most so many steps fewer
pub record EndsWithin (s : Store) (script : Stmts) (steps : ℕ) : Type 0 where
  pub signal : Signal
  pub after : Store
  pub left : ℕ
  pub ends : (task_of (calls_at depth_limit) (Script script)).run s step_limit ≡ Ended signal after left
  pub few : step_limit ≤ left + steps

-- so does that of each of these scripts, one after another
abbrev pub EndWithin : Store → List Stmts → ℕ → Type 0
EndWithin s [] steps = ⊤
EndWithin s (script ∷ scripts) steps = EndsWithin s script steps × EndWithin (after_task (Script script) s) scripts steps

-- each script of a page takes at most so many steps when the page loads
abbrev pub LoadsWithin : Page → ℕ → Type 0
LoadsWithin p steps = EndWithin (pristine p.nodes) p.scripts steps

-- those of a saved page take at most a step for each statement, and one that takes the frame's nodes out
abbrev pub ScriptsTakeFewSteps : Type 0
ScriptsTakeFewSteps =
    (s : Store) (things : List ℕ) → CanBeRebuilt s things → LoadsWithin (saved_in_frame (plan (compact s things))) (length (plan (compact s things)) + 1)
