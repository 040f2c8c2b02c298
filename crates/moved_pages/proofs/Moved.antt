-- A moved page behaves as if it had never moved.
use Rattle.std.proofs.Common.{◌≡◌, ap, subst, sym, ◌∙◌, ℕ, ◌+◌, ◌*◌, ◌<◌, ◌≤◌, List, [], ◌∷◌, drop, length, arith}
use Rattle.heap_walker.specs.Weight as weight
use Rattle.js_core.specs.Tree as tree
use Rattle.js_print.specs.Lined.{LinedScriptsAreReadAgain}
use Rattle.js_values.specs.declared.event.Event.{Event}
use Rattle.js_values.specs.declared.line.Line.{Line}
use Rattle.heap_walker.specs.Still.{Still}
use Rattle.page_meaning.specs.Pages.{Page, load_of, run_all, run_of}
use Rattle.page_meaning.specs.Store.{Store}
use Rattle.page_meaning.specs.Pristine.{pristine}
use Rattle.page_meaning.specs.Tasks.{Script, after_task, step_limit}
use Rattle.page_rest.specs.Laws.{PagesRest}
use Rattle.page_writer.specs.FormScripts.{SavedScriptsAreForm}
use Rattle.page_writer.specs.Frame.{frame_nodes}
use Rattle.page_writer.specs.Length.{PagesAreShort}
use Rattle.page_writer.specs.Page.{page_of, saved_page}
use Rattle.page_writer.specs.Script.{saved_in_frame, saved_script}
use Rattle.page_writer.specs.Sizes.{text_limit, things_limit}
use Rattle.rebuild_plan.specs.Compact.{compact}
use Rattle.rebuild_plan.specs.Count.{PlansAreFew}
use Rattle.rebuild_plan.specs.Plan.{plan}
use Rattle.rebuild_plan.specs.Stands.{PlansStand}
use Rattle.rebuild_plan.specs.declared.statement.Rebuild.{Rebuild}
use Rattle.rebuilding.specs.Again.{SavedAgain}
use Rattle.rebuilding.specs.Laws.{EndWithin, ScriptsTakeFewSteps, CanBeRebuilt, RebuiltPagesGoOn, ScriptsRebuild}
use Rattle.printed_pages.proofs.Callers.{ScriptPages}
use Rattle.moved_pages.specs.Moved.{CanBeMoved, IsLittle, MovedPagesGoOn, longest_page}
use Rattle.moved_pages.proofs.Accepted.{saved_pages_are_accepted}
use Rattle.moved_pages.proofs.Weighing.{loads_are_same}
use Rattle.moved_pages.proofs.Written.{are_written}

-- ---- what a saved page is rebuilt from

-- a script has more steps
few_steps : (n load : ℕ) → n ≤ 4 * load + 1 → load ≤ 75000 → n + 1 < step_limit
unfolding step_limit
few_steps n load few small = omega arith

-- a step for each statement, and one for that which takes the frame's nodes out
few_within : (n load : ℕ) → n ≤ 4 * load + 1 → n + 1 ≤ 4 * load + 4
few_within n load few = omega (arith, few)

-- what takes few steps takes no more than more
ends_within : (scripts : List tree.Stmts) (s : Store) (n m : ℕ) → n ≤ m → EndWithin s scripts n → EndWithin s scripts m
ends_within [] s n m more h = tt
ends_within (script ∷ scripts) s n m more h = (
  record { signal = h.0.signal; after = h.0.after; left = h.0.left; ends = h.0.ends; few = omega (arith, more, h.0.few) },
  ends_within scripts (after_task (Script script) s) n m more h.1,
)

-- the largest saved page is short enough to be read
fits : (n things text : ℕ) → n ≤ 160 * things + text + 4096 → things ≤ things_limit → text ≤ text_limit → n ≤ longest_page
fits n things text bound few short = omega arith

can_be_rebuilt : PlansAreFew → PagesRest → (page : Page) (earlier : List Event) (things : List ℕ) → CanBeMoved page earlier things
    → CanBeRebuilt (run_of page earlier) things
can_be_rebuilt few rest page earlier things can =
    let s : Store = run_of page earlier in
    let still : Still s = (rest page earlier things can.sound can.plain can.in_form can.walked).0 in
    record {
      still = still;
      walk = can.walked;
      in_range = can.literals;
      few = few_steps (length (plan (compact s things))) (weight.load_of s things).things (few s things still can.walked) can.few;
    }

-- a page of which the same is saved as of one that is little enough is that too
little_again : (s t : Store) (things again : List ℕ) → compact t again ≡ compact s things → IsLittle s things → IsLittle t again
little_again s t things again same little =
    subst (λ (l : weight.Load). (l.things ≤ things_limit) × (l.text ≤ text_limit)) (sym (loads_are_same t s again things same)) little

-- ---- the law

pub moved_pages_go_on : PagesAreShort → SavedScriptsAreForm → LinedScriptsAreReadAgain → ScriptPages → PlansStand → PlansAreFew → PagesRest → ScriptsRebuild → RebuiltPagesGoOn → SavedAgain → ScriptsTakeFewSteps
    → MovedPagesGoOn
moved_pages_go_on bound form lined pages stand few rest rebuild go_on saved_again steps page earlier things can =
    let s : Store = run_of page earlier in
    let at_rest = rest page earlier things can.sound can.plain can.in_form can.walked in
    let still : Still s = at_rest.0 in
    let rs : List Rebuild = plan (compact s things) in
    let t : Store = load_of (saved_in_frame rs) in
    let ready = can_be_rebuilt few rest page earlier things can in
    let written = are_written stand s things still can.walked at_rest.1 at_rest.2 can.literals can.few in
    let silent : t.lines ≡ [] = (rebuild s things ready).0 in (
      record {
        script = saved_script rs;
        within = ends_within (saved_script rs ∷ []) (pristine frame_nodes) (length rs + 1) (4 * (weight.load_of s things).things + 4)
            (few_within (length rs) (weight.load_of s things).things (few s things still can.walked)) (steps s things ready);
        goes_on = record {
          fits = fits (length (saved_page s things)) (weight.load_of s things).things (weight.load_of s things).text
              (bound s things still can.walked can.few can.literals) can.few can.short;
          accepted = saved_pages_are_accepted form lined pages s things still can.walked written;
          formed = (form s things still can.walked written).1.form.formed;
          silent = silent;
          again = λ (again : List ℕ) walk. ap (λ c. page_of (plan c)) (saved_again s things again ready walk);
          little = λ (again : List ℕ) walk. little_again s t things again (saved_again s things again ready walk) (can.few, can.short);
          same = λ later. ap (λ (ls : List Line). drop (length ls) (run_all t later).lines) silent ∙ go_on s things later ready;
        };
      },
      bound s things still can.walked can.few can.literals,
    )
