-- The script of a saved page, up to its statements: it declares nothing, makes the list, and binds it in the environment of the catch clause.
use Rattle.std.proofs.Common.{◌≡◌, refl, sym, ap, subst, ◌∙◌, ℕ, zero, suc, ◌+◌, ◌<◌, ◌≤◌, codes, List, [], ◌∷◌, ◌++◌, Some, None, length, length-append, arith, Option}
use Rattle.std.proofs.lemmas.List.{append-nil}
use Rattle.std.proofs.Math.ListN.{get_or-append}
use Rattle.std.specs.Option.{ForSome}
use Rattle.code_table.specs.Declarations.{variables_of}
use Rattle.js_core.specs.Tree as tree
use Rattle.js_core.specs.Tree.{no_body, one_catch, then_stmt}
use Rattle.js_values.specs.declared.ids.ObjId.{ObjId}
use Rattle.js_values.specs.declared.value.Value.TheVariants.{Object as Reference}
use Rattle.object_heap.specs.Chain.{can_put, get_property, object_at, first_found, found}
use Rattle.object_heap.specs.Environment.{new_environment}
use Rattle.object_heap.specs.Heap.{Contents, IsSound, new_object, put}
use Rattle.object_heap.specs.Object.{Object, no_object}
use Rattle.object_heap.specs.declared.object.Class.TheVariants as class
use Rattle.object_heap.proofs.Callers.{new_fit, object_before, object_last, sound_opened, sound_pushed, found_on}
use Rattle.page_meaning.specs.Act.{also, bind, Calls, done, Ended, nothing, on_value, Outcome, ret, then_on, Act}
use Rattle.page_meaning.specs.Functions.{call_end, global_variables}
use Rattle.page_meaning.specs.Places.{array_prototype, array_prototype_place, at_place, node_prototype, window, document}
use Rattle.page_meaning.specs.Pristine.{built_ins, node_objects, pristine}
use Rattle.page_writer.specs.Frame.{frame_host, frame_nodes, nth_node}
use Rattle.page_meaning.specs.Statements.{exec_all, exec_catch, exec_last, exec}
use Rattle.page_meaning.specs.Tasks.{run_script, top}
use Rattle.page_meaning.specs.declared.signal.Signal.{Signal}
use Rattle.page_meaning.specs.declared.signal.Signal.TheVariants.{Thrown}
use Rattle.page_writer.specs.Script.{new_list, saved_script, statements, clearing}
use Rattle.rebuild_plan.specs.declared.statement.Rebuild.{Rebuild}
use Rattle.rebuilding.specs.Scene.{frame_count, inside, IsRunning, list_of, page_with, Scene}
use Rattle.object_shapes.specs.Shapes.{built_in_at, IsWindow}
use Rattle.rebuilding.proofs.Placed.{some_built_in}
use Rattle.page_meaning.specs.Places.{built_in_count}
use Rattle.dom_tree.specs.Steps.{takes_out}
use Rattle.object_heap.specs.Property.{own_property}
use Rattle.page_host.specs.Host.{Host, object_of_node}
use Rattle.page_host.specs.HostNames.{host_name}
use Rattle.page_host.specs.Steps.{after_host, in_nodes}
use Rattle.page_host.specs.declared.host_name.HostName.{HostName}
use Rattle.page_host.specs.declared.host_name.HostName.TheVariants.{DocumentElement}
use Rattle.page_host.proofs.Callers.{hosts_stay_sound}
use Rattle.page_meaning.specs.Calls.{calls_at}
use Rattle.page_meaning.specs.Errors.{settle}
use Rattle.page_meaning.specs.HostNames as seen
use Rattle.page_meaning.specs.HostNames.{see}
use Rattle.page_host.specs.Sound as host
use Rattle.rebuilding.proofs.HostMethods as methods
use Rattle.page_meaning.specs.Properties.{get_member}
use Rattle.page_meaning.specs.Reading.{named_at, seen_at, seen_value}
use Rattle.page_meaning.specs.Store.{Store}
use Rattle.page_writer.specs.References.{document_expr}
use Rattle.rebuilding.specs.Rebuilt.{IsFresh, IsOwned}
use Rattle.rebuilding.proofs.HostCalls.{Reads}
use Rattle.rebuilding.proofs.Calling.{also_on}
use Rattle.rebuilding.proofs.Paths.{name_read}
use Rattle.rebuilding.proofs.StepStatements.{remove_runs}

-- ---- the page when its statements begin

abbrev start : List Object
start = (pristine frame_nodes).heap.objects

-- the list is the youngest object, and the environment of the catch clause the only one
abbrev pub scene : Scene
scene = record { env = 0; list = length start }

abbrev with_list : Contents
with_list = record { objects = start ++ list_of [] ∷ []; environments = [] }

abbrev pub begun : Contents
begun = record {
  objects = start ++ list_of [] ∷ [];
  environments = new_environment None ((codes "$$", Reference (at_place (length start))) ∷ []) ∷ [];
}

all_there : length start ≡ frame_count
unfolding built_in_count
all_there = refl

built_ins_count : length built_ins ≡ built_in_count
unfolding built_in_count
built_ins_count = refl

there_at : (k : ℕ) → k < built_in_count → k < length start
there_at k low = subst (λ n. k < n) (sym all_there) (omega (arith, low))

prototype_there : array_prototype_place < built_in_count
unfolding built_in_count array_prototype_place
prototype_there = omega arith

one_more : (objects : List Object) (o : Object) → length (objects ++ o ∷ []) ≡ length objects + 1
one_more objects o = length-append objects (o ∷ [])

old_proto : ForSome (Some array_prototype) (λ p. p.0 < length start)
old_proto p e =
    let same : array_prototype ≡ p = cc e in
    subst (λ (q : ObjId). q.0 < length start) same (there_at array_prototype_place prototype_there)

begun_sound : IsSound (pristine frame_nodes).heap → IsSound begun
begun_sound sound =
    let made : IsSound with_list =
    sound_pushed (pristine frame_nodes).heap sound (list_of []) (new_fit class.List (Some array_prototype)) old_proto (λ t e. absurd (cc e))
    in
    sound_opened with_list made None ((codes "$$", Reference (at_place (length start))) ∷ [])

window_first : IsWindow (built_in_at window.0)
window_first =
    record {
      others = [];
      props = sym
          (append-nil (built_in_at window.0).props);
      own = refl;
      class = refl;
      proto = refl;
      extensible = refl;
      closed = refl;
    }

built_in_kept : (k : ℕ) → k < built_in_count → object_at begun.objects k ≡ built_in_at k
built_in_kept k low =
    object_before start (list_of []) k (there_at k low)
    ∙ get_or-append built_ins (node_objects 0 frame_nodes) no_object k (subst (λ n. k < n) (sym built_ins_count) low)

document_is : object_at begun.objects document.0 ≡ new_object (class.Node (nth_node 0)) (Some node_prototype)
unfolding built_in_count
document_is = refl

pub begun_running : IsSound (pristine frame_nodes).heap → IsRunning scene begun []
begun_running sound = record {
  place = record {
    sound = begun_sound sound;
    list = object_last start (list_of []);
    list_young = subst (λ n. frame_count ≤ n) (sym all_there) (omega arith);
    list_there = omega (arith, one_more start (list_of []));
    scope = refl;
    scope_there = omega arith;
    stand = refl;
    rising = λ k inside. absurd (omega (arith, inside));
    few = omega arith;
  };
  own = record {
    objects = λ k some low. built_in_kept k low;
    document = record { class = ap (λ (o : Object). o.class) document_is; proto = ap (λ (o : Object). o.proto) document_is };
    window = subst (λ o. IsWindow o) (sym (built_in_kept 0 some_built_in)) window_first;
  };
}

pub begun_window : (object_at begun.objects window.0).props ≡ (built_in_at window.0).props
begun_window = ap (λ (o : Object). o.props) (built_in_kept 0 some_built_in)

-- ---- the second line takes the nodes of the frame out of the document

abbrev first : Store
first = page_with begun frame_host

-- the place of the object of `html`
abbrev html : ObjId
html = at_place (built_in_count + 1)

html_is : object_at begun.objects html.0 ≡ new_object (class.Node (nth_node 1)) (Some node_prototype)
unfolding built_in_count
html_is = refl

abbrev pub cleared : Host
cleared = after_host frame_host (in_nodes (takes_out (nth_node 1)))

document_element_named : host_name (codes "documentElement") ≡ Some DocumentElement
unfolding host_name
document_element_named = refl

frame_sound : host.IsSound frame_host → host.IsSound cleared
frame_sound sound = hosts_stay_sound frame_host (in_nodes (takes_out (nth_node 1))) sound

node_objects_are : (k : ℕ) → k < 3 → (object_at begun.objects (object_of_node frame_host.objects (nth_node k)).0).class ≡ class.Node (nth_node k)
unfolding built_in_count
node_objects_are zero low = refl
node_objects_are (suc zero) low = refl
node_objects_are (suc (suc zero)) low = refl
node_objects_are (suc (suc (suc k))) low = absurd (omega (arith, low))

document_own : IsOwned cleared document.0 (object_at begun.objects document.0).class
document_own =
    subst (λ (o : Object). IsOwned cleared document.0 o.class) (sym document_is) (omega arith, document_object)
  where
    document_object : object_of_node cleared.objects (nth_node 0) ≡ document
    document_object = refl

pub cleared_fresh : IsSound (pristine frame_nodes).heap → host.IsSound frame_host → IsFresh scene begun cleared
cleared_fresh sound frame = record {
  running = begun_running sound;
  cleared = record {
    hosting = record { sound = frame_sound frame; objects = node_objects_are; clock = refl };
    alone = refl;
    listeners = refl;
    timers = refl;
  };
  own = document_own;
  globals = begun_window;
  document_props = ap (λ (o : Object). o.props) document_is;
  document_extensible = ap (λ (o : Object). o.extensible) document_is;
  document_open = ap (λ (o : Object). o.closed) document_is;
}

module _ (sound : IsSound (pristine frame_nodes).heap) (d n : ℕ) where
  running : IsRunning scene begun []
  running = begun_running sound

  document_read : Reads (inside scene) d first n document_expr (Reference document)
  document_read = name_read scene first [] running (calls_at (suc d)) (suc n) (codes "document") document.0 refl

  html_seen : seen_at first document (codes "documentElement") DocumentElement ≡ Some (seen.hosted (class.Node (nth_node 0)))
  html_seen =
      found_on (see frame_nodes (codes "documentElement") DocumentElement) begun.objects document.0 running.place.sound.prototypes
      ∙ ap (λ (o : Object). first_found (see frame_nodes (codes "documentElement") DocumentElement o) o.proto
      (λ q. found (see frame_nodes (codes "documentElement") DocumentElement) begun.objects q)) document_is

  html_read : Reads (inside scene) d first n (tree.member document_expr (codes "documentElement")) (Reference html)
  unfolding built_in_count
  html_read =
      also_on (λ b. get_member b (codes "documentElement")) document_read
      ∙ ap (λ (o : Option HostName). (settle (named_at first document (codes "documentElement") o)).run first (suc n)) document_element_named
      ∙ ap (λ (o : Option seen.Seen). (settle (seen_value first DocumentElement o)).run first (suc n)) html_seen

  pub clearing_run : (exec (calls_at (suc d)) (inside scene) clearing).run first (suc n) ≡ Ended nothing (page_with begun cleared) n
  unfolding built_in_count
  clearing_run =
      remove_runs (inside scene) d first n document_expr (tree.member document_expr (codes "documentElement")) document html (nth_node 0) (nth_node 1)
      document_read html_read
      (methods.removes first running.place.sound.prototypes running.own.objects document (ap (λ (o : Object). o.proto) document_is)
      (ap (λ (o : Object). own_property o.props (codes "removeChild")) document_is))
      (record { class = ap (λ (o : Object). o.class) document_is; there = refl })
      (record { class = ap (λ (o : Object). o.class) html_is; there = refl })
      refl

-- ---- up to the statements

list_run : (calls : Calls) (n : ℕ)
    → (exec_all calls top new_list).run (pristine frame_nodes) n
    ≡ Ended (Thrown (Reference (at_place (length start)))) (page_with with_list frame_host) n
unfolding put can_put get_property array_prototype_place
list_run calls n = refl

no_variables : (rs : List Rebuild) → variables_of (statements rs) ≡ []
no_variables [] = refl
no_variables (r ∷ rs) = no_variables rs

script_variables : (rs : List Rebuild) → variables_of (saved_script rs) ≡ []
script_variables rs = rw (no_variables rs)

-- what the catch clause makes of an end, and what the script then does
abbrev caught : Calls → tree.Stmts → Outcome Signal → Outcome Signal
caught calls ss o = then_on o (λ s. bind (exec_catch calls top (one_catch (codes "$$") ss) s) (exec_last calls top no_body))

abbrev closed : Outcome Signal → Outcome Signal
closed o = then_on (then_on o (on_value (λ _. done))) (λ s. ret (call_end s))

-- the script ends as its statements do, from the page that the second line leaves
pub script_run : IsSound (pristine frame_nodes).heap → (d : ℕ) (rs : List Rebuild) (n : ℕ) (after : Contents) (g : Host) (left : ℕ)
    → (exec_all (calls_at (suc d)) (inside scene) (statements rs)).run (page_with begun cleared) n ≡ Ended nothing (page_with after g) left
    → (run_script (calls_at (suc d)) (saved_script rs)).run (pristine frame_nodes) (suc n) ≡ Ended nothing (page_with after g) left
script_run sound d rs n after g left ends =
    let calls = calls_at (suc d) in
    let ss = then_stmt clearing (statements rs) in
    ap (λ xs. (also (global_variables xs) (λ _. bind (exec_all calls top (saved_script rs)) (λ s. ret (call_end s)))).run (pristine frame_nodes) (suc n))
    (script_variables rs)
    ∙ ap (λ o. closed (caught calls ss o)) (list_run calls (suc n))
    ∙ ap (λ o. closed (then_on o (exec_last calls top no_body)))
    (also_on_done (exec_all calls (inside scene) (statements rs)) (clearing_run sound d n) ∙ ends)
  where
    also_on_done : (more : Act) {o : Outcome Signal} {t : Store} {k : ℕ} → o ≡ Ended nothing t k → then_on o (on_value (λ _. more)) ≡ more.run t k
    also_on_done more e = ap (λ (o : Outcome Signal). then_on o (on_value (λ _. more))) e
