-- Each page agrees with itself, from its beginning on (section 14).
use Rattle.std.proofs.Common.{◌≡◌, refl, true, List, [], ◌∷◌, sym, ap, subst, ◌∙◌, ℕ, ◌+◌, Bool, false}
use Rattle.page_meaning.specs.Pristine.{pristine}
use Rattle.instrumenter.specs.Opening.{open_from, open_script, open_tops}
use Rattle.instrumenter.specs.Counting.{stmts_scopes}
use Rattle.agreement.proofs.Unopened.{equal_trees, stmts_use, tops_same}
use Rattle.agreement.specs.Opened.{HasTrees, equal, function_stands, opened_code, opening, scripts_stand, stmts_stand}
use Rattle.std.proofs.lemmas.Bool.{and_from, and_parts}
use Rattle.js_core.specs.Tree as tree
use Rattle.page_meaning.specs.Laws.{LoadsSound}
use Rattle.dom_tree.specs.Node.{Nodes}
use Rattle.object_heap.specs.Heap as heaps
use Rattle.page_meaning.specs.Pages.{Page, after_scripts, load_of, run_of}
use Rattle.page_meaning.specs.Store.{Store}
use Rattle.page_meaning.specs.Tasks.{Script, after_task}
use Rattle.heap_relations.specs.Naming.{World}
use Rattle.agreement.specs.Acts.{StoreRel, AddedRel}
use Rattle.agreement.specs.Laws.{PagesAgree, OpenedPagesAgree, StandingPagesAgree}
use Rattle.agreement.specs.Trees.{scripts_fit, stmts_fit, code_fits}
use Rattle.agreement.proofs.Beginning.{asking_trees, asking_world, pristine_stores, pristine_trees, opened_trees, pristine_world}
use Rattle.agreement.proofs.Ends.{LaterRel}
use Rattle.agreement.proofs.EqualTrees.{trees_up, equal_up}
use Rattle.agreement.proofs.Fitting.{script_fits}
use Rattle.agreement.proofs.Tasks.{after_script_rel, at_once, later_up, run_all_rel, top_around}

-- all scripts fit in no frames
all_scripts_fit : (bodies : List tree.Stmts) → scripts_fit bodies ≡ true
all_scripts_fit [] = refl
all_scripts_fit (body ∷ bodies) = and_from (stmts_fit [] body) (scripts_fit bodies) (script_fits body) (all_scripts_fit bodies)

-- the scripts of the right, which are opened or not
abbrev pub scripts_opened : Bool → ℕ → List tree.Stmts → List tree.Stmts
scripts_opened opens n [] = []
scripts_opened opens n (body ∷ bodies) = open_tops (top_around opens) n body ∷ scripts_opened opens (n + stmts_scopes body) bodies

pub after_scripts_rel : {V : World} {s t : Store} (n : ℕ) (bodies : List tree.Stmts) (trees : HasTrees V) → scripts_stand trees.demand n bodies ≡ true
    → StoreRel V s t
    → LaterRel V (after_scripts bodies s) (after_scripts (scripts_opened trees.demand.opens n bodies) t)
after_scripts_rel n [] trees stand g = at_once g
after_scripts_rel {s = s} {t = t} n (body ∷ bodies) trees stand g =
    let both = and_parts (stmts_stand trees.demand n [] body) (scripts_stand trees.demand (n + stmts_scopes body) bodies) stand in
    let one = after_script_rel n body trees both.0 g in
    later_up one.larger
    (after_scripts_rel {V = one.world} {s = after_task (Script body) s} {t = after_task (Script (open_tops (top_around trees.demand.opens) n body)) t} (n + stmts_scopes body) bodies (trees_up one.larger trees) both.1 one.stores)

-- ---- equal trees

scripts_same : (n : ℕ) (bodies : List tree.Stmts) → scripts_opened false n bodies ≡ bodies
scripts_same n [] = refl
scripts_same n (body ∷ bodies) = λ i. tops_same n body i ∷ scripts_same (n + stmts_scopes body) bodies i

scripts_use : (n : ℕ) (bodies : List tree.Stmts) → scripts_fit bodies ≡ true → scripts_stand equal n bodies ≡ true
scripts_use n [] h = refl
scripts_use n (body ∷ bodies) h =
    let both = and_parts (stmts_fit [] body) (scripts_fit bodies) h in
    and_from (stmts_stand equal n [] body) (scripts_stand equal (n + stmts_scopes body) bodies) (sym (stmts_use n [] body) ∙ both.0) (scripts_use (n + stmts_scopes body) bodies both.1)

-- a page's heap is sound before its scripts
begun_sound : LoadsSound → (t : Nodes) → heaps.IsSound (pristine t).heap
begun_sound sound t = sound (record { nodes = t; scripts = [] })

pub pages_agree : LoadsSound → PagesAgree
pages_agree sound page es good =
    let t = page.nodes in
    let scripts = page.scripts in
    let begun = pristine_stores t good false (λ n fs c. c) (λ n. code_fits) (begun_sound sound t) in
    let opened = after_scripts_rel 1 scripts (equal_trees (pristine_trees t)) (scripts_use 1 scripts (all_scripts_fit scripts)) begun in
    let loaded : LaterRel (pristine_world t) (load_of page) (load_of page) = subst (λ bodies. LaterRel (pristine_world t) (load_of page) (after_scripts bodies (pristine t))) (scripts_same 1 scripts) opened in
    let trees = equal_up loaded.larger (pristine_trees t) in
    let after = run_all_rel {V = loaded.world} {s = load_of page} {t = load_of page} es (equal_trees trees) loaded.stores in
    record { world = after.world; trees = equal_up after.larger trees; stores = after.stores }

-- ---- trees of which more is asked

pub standing_pages_agree : LoadsSound → StandingPagesAgree
standing_pages_agree sound d page es good closed stand =
    let t = page.nodes in
    let scripts = page.scripts in
    let world = asking_world t d in
    let trees = asking_trees t d closed in
    let begun = pristine_stores t good false (λ n fs c. c) (function_stands d) (begun_sound sound t) in
    let same : scripts_opened d.opens 1 scripts ≡ scripts = ap (λ o. scripts_opened o 1 scripts) closed ∙ scripts_same 1 scripts in
    let loaded : LaterRel world (load_of page) (load_of page) = subst (λ bodies. LaterRel world (load_of page) (after_scripts bodies (pristine t))) same (after_scripts_rel 1 scripts trees stand begun) in
    let then_trees = trees_up loaded.larger trees in
    let after = run_all_rel {V = loaded.world} {s = load_of page} {t = load_of page} es then_trees loaded.stores in
    record {
      world = after.world;
      trees = trees_up after.larger then_trees;
      demanded = refl;
      none_rebuilt = sym (loaded.larger.bases ∙ after.larger.bases);
      stores = after.stores;
    }

-- ---- opened trees

scripts_are : (n : ℕ) (bodies : List tree.Stmts) → scripts_opened true n bodies ≡ open_from n bodies
scripts_are n [] = refl
scripts_are n (body ∷ bodies) = ap (λ rest. open_script n body ∷ rest) (scripts_are (n + stmts_scopes body) bodies)

pub opened_pages_agree : LoadsSound → OpenedPagesAgree
opened_pages_agree sound page es good stand =
    let t = page.nodes in
    let scripts = page.scripts in
    let other : Page = record { nodes = t; scripts = scripts_opened true 1 scripts } in
    let trees = opened_trees t in
    let loaded = after_scripts_rel 1 scripts trees stand (pristine_stores t good true (opened_code true) (function_stands opening) (begun_sound sound t)) in
    let after = run_all_rel {V = loaded.world} {s = load_of page} {t = load_of other} es (trees_up loaded.larger trees) loaded.stores in
    let lines = subst (λ b. AddedRel b (run_of page es).lines (run_of other es).lines) (sym (loaded.larger.before ∙ after.larger.before)) after.stores.lines in
    lines.one ∙ sym lines.two ∙ ap (λ bodies. (run_of (record { nodes = t; scripts = bodies }) es).lines) (scripts_are 1 scripts)
