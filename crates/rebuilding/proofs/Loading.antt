-- The script of a saved page loads without a line, as a page that agrees with the one that was saved.
use Rattle.std.proofs.Common.{◌≡◌, refl, sym, ap, subst, ◌∙◌, ℕ, suc, ◌+◌, ◌-◌, ◌<◌, ◌≤◌, false, List, [], ◌∷◌, ◌++◌, length, arith}
use Rattle.object_heap.specs.Heap.{Contents, IsSound}
use Rattle.page_meaning.specs.Act.{Act, Ended, nothing}
use Rattle.page_meaning.specs.Calls.{calls_at}
use Rattle.page_meaning.specs.Laws.{LoadsSound}
use Rattle.page_meaning.specs.Pages.{load_of}
use Rattle.page_meaning.specs.Places.{window}
use Rattle.page_host.specs.Host.{Host}
use Rattle.page_writer.specs.Frame.{frame_nodes}
use Rattle.page_meaning.specs.Pristine.{pristine}
use Rattle.page_meaning.specs.Statements.{exec_all}
use Rattle.page_meaning.specs.Store.{Store}
use Rattle.page_meaning.specs.Tasks.{depth_limit, finished, Script, step_limit, task_of}
use Rattle.page_writer.specs.Script.{saved_in_frame, saved_script, statements}
use Rattle.rebuild_plan.specs.Compact.{compact, Thing}
use Rattle.rebuild_plan.specs.Plan.{defines, makes, plan, timers, whole}
use Rattle.rebuild_plan.specs.declared.phase.Phase.TheVariants as phase
use Rattle.rebuild_plan.specs.declared.statement.Rebuild.{Rebuild}
use Rattle.rebuilding.specs.Laws.{Agrees, CanBeRebuilt, LoadsWithin, ScriptsRebuild, ScriptsTakeFewSteps}
use Rattle.rebuilding.specs.Rebuilt.{IsFresh, IsRebuilt, PlansRebuild, Succeeds}
use Rattle.rebuilding.specs.Running.{StatementsRun}
use Rattle.rebuilding.specs.Scene.{inside, page_with}
use Rattle.rebuilding.proofs.Agreeing.{rebuilt_agrees}
use Rattle.rebuilding.proofs.InOrder.{all_run, Finishes}
use Rattle.rebuilding.proofs.Settling.{settled_heap, settled_is, settled_quiet, still_rebuilt}
use Rattle.rebuilding.proofs.FrameSound.{frame_host_sound}
use Rattle.rebuilding.proofs.Scripts.{begun, cleared, cleared_fresh, scene, script_run}
use Rattle.rebuilding.proofs.Basics.{things_long}

-- ---- limits

depth_left : depth_limit ≡ (depth_limit - 1) + 1
unfolding depth_limit
depth_left = refl

few_steps : step_limit < 4294967295
unfolding step_limit
few_steps = omega arith

makes_long : (n : ℕ) (ts : List Thing) (rest : List Rebuild) → length ts ≤ length (makes n ts ++ rest)
makes_long n [] rest = omega arith
makes_long n (t ∷ ts) rest = omega (arith, makes_long (suc n) ts rest)

plan_long : (s : Store) (things : List ℕ) → length things ≤ length (plan (compact s things))
plan_long s things =
    let c = compact s things in
    omega (
      arith,
      things_long s things things,
      makes_long 0 c.things
          (whole phase.Children c
          ++ (whole phase.Contents c
          ++ (whole phase.Events c
          ++ (whole phase.Listeners c
          ++ (defines false false window c.globals
          ++ (whole phase.Properties c
          ++ (timers c.timers
          ++ whole phase.Ends c))))))),
    )

-- ---- the page that is loaded

-- its heap and its host are ones that were rebuilt
pub record IsScriptOf (s : Store) (things : List ℕ) (t : Store) : Type 0 where
  pub after : Contents
  pub host : Host
  pub sites : List ℕ
  pub within : LoadsWithin (saved_in_frame (plan (compact s things))) (length (plan (compact s things)) + 1)
  pub loaded : t ≡ page_with after host
  pub rebuilt : IsRebuilt scene s things after host sites

one_left : (n m : ℕ) → n + 1 < m → m ≡ suc (m - 1)
one_left n m few = omega (arith, few)

pub script_rebuilt : LoadsSound → StatementsRun → PlansRebuild → (s : Store) (things : List ℕ) → CanBeRebuilt s things
    → IsScriptOf s things (load_of (saved_in_frame (plan (compact s things))))
script_rebuilt sound run plans s things can =
    let rs : List Rebuild = plan (compact s things) in
    let d : ℕ = depth_limit - 1 in
    let n : ℕ = step_limit - 1 in
    let begins : IsSound (pristine frame_nodes).heap = sound (record { nodes = frame_nodes; scripts = [] }) in
    let fresh : IsFresh scene begun cleared = cleared_fresh begins frame_host_sound in
    let able : Succeeds scene (IsRebuilt scene s things) begun cleared [] rs =
    plans scene s things begun cleared can.still can.walk can.in_range (omega (arith, plan_long s things, can.few, few_steps)) fresh
    in
    let all : Act = exec_all (calls_at (d + 1)) (inside scene) (statements rs) in
    let out : Finishes (IsRebuilt scene s things) (page_with begun cleared) (n - length rs) (all.run (page_with begun cleared) n) =
    all_run run scene (IsRebuilt scene s things) d rs (page_with begun cleared) [] n (omega (arith, can.few)) fresh.running fresh.cleared.hosting able
    in
    let more : d + 1 ≡ suc d = omega arith in
    let ends : (task_of (calls_at depth_limit) (Script (saved_script rs))).run (pristine frame_nodes) step_limit
    ≡ Ended nothing (page_with out.after out.host) out.left =
    ap (λ m. (task_of (calls_at m) (Script (saved_script rs))).run (pristine frame_nodes) step_limit) (depth_left ∙ more)
    ∙ ap (λ m. (task_of (calls_at (suc d)) (Script (saved_script rs))).run (pristine frame_nodes) m) (one_left (length rs) step_limit can.few)
    ∙ script_run begins d rs n out.after out.host out.left
    (subst (λ m. (exec_all (calls_at m) (inside scene) (statements rs)).run (page_with begun cleared) n ≡ Ended nothing (page_with out.after out.host) out.left)
    more out.ends)
    in
    let last : Contents = settled_heap (length out.after.objects) out.after in
    let loaded : load_of (saved_in_frame rs) ≡ page_with last out.host =
    ap finished ends ∙ settled_is (length out.after.objects) (page_with out.after out.host)
    in
    record {
      after = last;
      host = out.host;
      sites = out.sites;
      within = (record { signal = nothing; after = page_with out.after out.host; left = out.left; ends = ends; few = omega (arith, out.few) }, tt);
      loaded = loaded;
      rebuilt = still_rebuilt scene s things out.after last out.host out.sites out.end
          (settled_quiet (length out.after.objects) out.after (omega arith)) (subst (λ (t : Store). IsSound t.heap) loaded (sound (saved_in_frame rs)));
    }

pub scripts_rebuild : LoadsSound → StatementsRun → PlansRebuild → ScriptsRebuild
scripts_rebuild sound run plans s things can =
    let out = script_rebuilt sound run plans s things can in
    let agrees : Agrees s (page_with out.after out.host) =
    rebuilt_agrees scene s things out.after out.host out.sites can.still can.walk out.rebuilt
    in
    subst (λ t. (t.lines ≡ []) × Agrees s t) (sym out.loaded) (refl, agrees)

pub scripts_take_few_steps : LoadsSound → StatementsRun → PlansRebuild → ScriptsTakeFewSteps
scripts_take_few_steps sound run plans s things can = (script_rebuilt sound run plans s things can).within
