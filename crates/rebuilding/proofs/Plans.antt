-- From the things that are made, the phases of a plan one after another: they leave the page that was saved.
use Rattle.std.proofs.Common.{◌≡◌, refl, sym, ap, subst, ◌∙◌, ℕ, suc, ◌+◌, ◌<◌, Bool, true, false, nat_eq, nat_lt, List, [], ◌∷◌, ◌++◌, append_assoc, length, arith, if◌then◌else◌}
use Rattle.std.proofs.lemmas.Bool.{and_parts, cond-false, le-ltb, ne_eqb}
use Rattle.std.proofs.lemmas.List.{append-nil}
use Rattle.heap_relations.specs.Naming.{World}
use Rattle.heap_walker.specs.Still.{Still}
use Rattle.heap_walker.specs.Things.{IsWalk, globals_of}
use Rattle.host_relations.specs.Linked.{Linked}
use Rattle.host_relations.specs.Nodes.{NodesRel}
use Rattle.js_values.specs.declared.built_in.BuiltIn.TheVariants.{Object as ObjectConstructor}
use Rattle.object_heap.specs.Chain.{object_at}
use Rattle.object_heap.specs.Heap.{Contents}
use Rattle.object_heap.specs.Object.{Object, is_list, is_window, not_extensible, with_extensible, with_props}
use Rattle.object_heap.specs.Property.{Props}
use Rattle.object_heap.specs.declared.object.Class.TheVariants as class
use Rattle.object_shapes.specs.Shapes.{HasShape, built_in_at}
use Rattle.page_host.specs.Host.{Host, with_timers}
use Rattle.page_meaning.specs.Classes.{is_callable_class}
use Rattle.page_meaning.specs.Places.{built_in_count, document, function_at, function_place, window}
use Rattle.page_meaning.specs.Store.{Store}
use Rattle.page_writer.specs.Frame.{nth_node}
use Rattle.page_writer.specs.Literals.{HaveLiterals}
use Rattle.rebuild_plan.proofs.Callers.{all_nodes, plans_stand}
use Rattle.rebuild_plan.specs.Compact.{Compact, Thing, compact, thing_at, things_at}
use Rattle.rebuild_plan.specs.Events.{event_as}
use Rattle.rebuild_plan.specs.Plan as plan
use Rattle.rebuild_plan.specs.Stands.{standing}
use Rattle.rebuild_plan.specs.Timers.{moved_timers}
use Rattle.rebuild_plan.specs.declared.phase.Phase.TheVariants as phase
use Rattle.rebuild_plan.specs.declared.statement.Rebuild.{Rebuild}
use Rattle.rebuild_plan.specs.declared.statement.Rebuild.TheVariants.{Make, Prevent}
use Rattle.timer_queue.specs.declared.timer.Live.{Live}
use Rattle.rebuilding.specs.Rebuilt.{ClassIsRebuilt, IsRebuilt, IsRebuiltAs, Succeeds, nth, sited_timers}
use Rattle.rebuilding.specs.Running.{node_here}
use Rattle.rebuilding.specs.Scene.{IsHosting, IsRunning, Scene}
use Rattle.rebuilding.specs.Sites.{site}
use Rattle.rebuilding.proofs.Allowing.{allowed_past, children_none, contents_none, listeners_none, timers_none}
use Rattle.rebuilding.proofs.ChildModel.{AreAlone, IsFamily}
use Rattle.rebuilding.proofs.ChildPhase.{Keeps, counterpart}
use Rattle.rebuilding.proofs.Defining.{and_props}
use Rattle.rebuilding.proofs.EachThing.{each_succeeds, mixed}
use Rattle.rebuilding.proofs.EventPhase.{EventsDone, events_succeed}
use Rattle.rebuilding.proofs.Evented.{document_stays, fresh_still, nodes_stand_still, own_still, window_stays}
use Rattle.rebuilding.proofs.EventsReady.{events_ready}
use Rattle.rebuilding.proofs.Families.{family}
use Rattle.rebuilding.proofs.FillSteps.{by_class, fill_step, fill_thing, filled}
use Rattle.rebuilding.proofs.Globals.{globals_succeed}
use Rattle.rebuilding.proofs.Going.{Allowed, Going, going_begins, prevent_next, range_rest}
use Rattle.rebuilding.proofs.ListenPhase.{ListenersDone, listeners_succeed}
use Rattle.rebuilding.proofs.ListensReady.{document_can, document_new, things_can, things_new}
use Rattle.rebuilding.proofs.Lonely.{lonely}
use Rattle.rebuilding.proofs.MakePhase.{one_more}
use Rattle.rebuilding.proofs.Naming.{rebuilt_world}
use Rattle.rebuilding.proofs.NodesAt.{NodesStand}
use Rattle.rebuilding.proofs.NodesGrown.{nodes_succeed}
use Rattle.rebuilding.proofs.NodesMade.{nodes_stand}
use Rattle.rebuilding.proofs.OwnObjects.{OwnObjects, own_kept}
use Rattle.rebuilding.proofs.Phase.{Phase, phase_begins, phase_document, phase_hosted, phase_same}
use Rattle.rebuilding.proofs.Placed.{is_thing_at, site_low, some_built_in}
use Rattle.rebuilding.proofs.Prevents.{class_stays, finished, finished_rebuilt, prevent_step, prevent_thing, prevents}
use Rattle.rebuilding.proofs.PropertyNames.{rebuilt_props}
use Rattle.rebuilding.proofs.SavedHosts.{IsGrown, document_again, document_free, free_again, hosted_again, parents_again}
use Rattle.rebuilding.proofs.SavedNodes.{nodes_world}
use Rattle.rebuilding.proofs.Stages.{IsFresh, Made, MadeProps}
use Rattle.rebuilding.proofs.TimerPhase.{timers_succeed}
use Rattle.rebuilding.proofs.TimersReady.{are_timers, distinct_moved, timely_moved}
use Rattle.rebuilding.proofs.Basics.{things_long}

-- ---- what comes after the makers may be run

after_makes : (ts : List Thing) (n : ℕ) (rest : List Rebuild) → Allowed n (plan.makes n ts ++ rest) → Allowed (n + length ts) rest
after_makes [] n rest allowed =
    let none : n ≡ n + 0 = omega arith in
    subst (λ m. Allowed m rest) none allowed
after_makes (t ∷ ts) n rest allowed =
    let long : suc n + length ts ≡ n + length (t ∷ ts) = omega arith in
    subst (λ m. Allowed m rest) long (after_makes ts (suc n) rest (record {
      stands = one_more n (plan.makes (suc n) ts ++ rest) (and_parts _ (standing (1 + n) (plan.makes (suc n) ts ++ rest)) allowed.stands).1;
      in_range = range_rest (Make n t.maker) (plan.makes (suc n) ts ++ rest) allowed.in_range;
    }))

-- ---- what timers are filled with is a function

filler_low : (0 < (function_at ObjectConstructor).0) × ((function_at ObjectConstructor).0 < built_in_count)
unfolding built_in_count function_place
filler_low = (omega arith, omega arith)

filler_is : is_callable_class (built_in_at (function_at ObjectConstructor).0).class ≡ true
unfolding built_in_count function_place
filler_is = refl

filler_callable : (c : Scene) (h : Contents) (sites : List ℕ) → IsRunning c h sites → is_callable_class (object_at h.objects (function_at ObjectConstructor).0).class ≡ true
filler_callable c h sites running =
    ap (λ (o : Object). is_callable_class o.class) (running.own.objects (function_at ObjectConstructor).0 filler_low.0 filler_low.1) ∙ filler_is

-- ---- from the things that are made to the page

module _ (c : Scene) (s : Store) (things sites : List ℕ) (h : Contents) (g : Host) (still : Still s) (walk : IsWalk s things)
    (made : Made c s things h g sites) where
  abbrev End : Contents → Host → List ℕ → Type 0
  End = IsRebuilt c s things

  abbrev p : Compact
  p = compact s things

  abbrev ts : List Thing
  ts = things_at s things things

  abbrev thing : ℕ → Object
  thing n = object_at s.heap.objects (nth things n)

  abbrev root_thing : Object
  root_thing = object_at s.heap.objects document.0

  -- ---- what comes after each phase

  abbrev ends : List Rebuild
  ends = plan.whole phase.Ends p

  abbrev after_properties : List Rebuild
  after_properties = plan.timers p.timers ++ ends

  abbrev after_globals : List Rebuild
  after_globals = plan.whole phase.Properties p ++ after_properties

  abbrev after_listeners : List Rebuild
  after_listeners = plan.defines false false window p.globals ++ after_globals

  abbrev after_events : List Rebuild
  after_events = plan.whole phase.Listeners p ++ after_listeners

  abbrev after_contents : List Rebuild
  after_contents = plan.whole phase.Events p ++ after_events

  abbrev after_children : List Rebuild
  after_children = plan.whole phase.Contents p ++ after_contents

  -- ---- the things as they are made

  fam : IsFamily s things
  fam = family s things still walk

  alone : AreAlone h g s things sites
  alone = lonely c s things h g sites still made

  stand : NodesStand h sites
  stand = nodes_stand c s things h g sites still walk made

  abbrev W : World
  W = rebuilt_world s h things sites

  low : (n : ℕ) → n < length sites → n < length things
  low n inside = omega (arith, inside, made.count)

  -- ---- once the nodes are as they are to be, and events were dispatched

  module _ (g1 : Host) (kept : Keeps g g1)
      (rel : NodesRel (Linked (nodes_world (rebuilt_world s h things sites) (counterpart h s things sites) (nth_node 0 ∷ all_nodes s things))) s.host.nodes g1.nodes)
      (i : Contents) (events : EventsDone c s things sites h g1 (length things) i) where
    abbrev first : ℕ → Object
    first n = object_at i.objects (nth sites n)

    abbrev root : Object
    root = object_at i.objects document.0

    own_i : OwnObjects i g1 sites
    own_i = own_still c s things sites h i g g1 made events g1 (own_kept h g g1 sites (ap (λ (v : Host). v.objects) kept.0) kept.1 made.own)

    stand_i : NodesStand i sites
    stand_i = nodes_stand_still c s things sites h i g g1 made events stand

    fresh : (n : ℕ) → n < length things → IsFresh c i.environments s things sites (nth sites n) (thing n) (first n)
    fresh = fresh_still c s things sites h i g g1 made events

    root_is : root ≡ object_at h.objects document.0
    root_is = document_stays c s things sites h i g g1 made events

    root_class : root.class ≡ class.Node (nth_node 0)
    root_class = events.running.own.document.class

    root_closed : root.closed ≡ false
    root_closed = ap (λ (o : Object). o.closed) root_is ∙ made.document_open

    root_extensible : root.extensible ≡ true
    root_extensible = ap (λ (o : Object). o.extensible) root_is ∙ made.document_extensible

    root_window : is_window root.class ≡ false
    root_window = ap is_window root_class

    globals_first : (object_at i.objects window.0).props ≡ (built_in_at window.0).props
    globals_first = ap (λ (o : Object). o.props) (window_stays c s things sites h i g g1 made events) ∙ made.globals

    abbrev own : Props
    own = (and_props (object_at i.objects window.0) (rebuilt_props sites things (globals_of s))).props

    abbrev root_filled : Object
    root_filled = with_props root (rebuilt_props sites things root_thing.props)

    abbrev root_finished : Object
    root_finished = with_extensible root_filled root_thing.extensible

    -- ---- once the listeners are added

    module _ (g2 : Host) (done : ListenersDone c End i sites s things g1 events.running made.count stand_i own_i g2) where
      grown : IsGrown s things sites h i g g2 W
      grown = record {
        nodes = subst (λ (v : Host). NodesRel (Linked (nodes_world W (counterpart h s things sites) (nth_node 0 ∷ all_nodes s things))) s.host.nodes v.nodes) (sym done.kept) rel;
        objects = ap (λ (v : Host). v.objects) done.kept ∙ ap (λ (v : Host). v.objects) kept.0;
        long = ap (λ (v : Host). length v.nodes) done.kept ∙ kept.1;
        heard = λ n b inside on. (node_here i sites (plan.thing_place n), done.done n b inside inside on);
        heard_first = (node_here i sites document, done.first_node);
      }

      abbrev ts_saved : List Live
      ts_saved = moved_timers things s.host.clock s.host.timers

      abbrev g3 : Host
      g3 = with_timers g2 (sited_timers sites ts_saved)

      grown_last : IsGrown s things sites h i g g3 W
      grown_last = record { nodes = grown.nodes; objects = grown.objects; long = grown.long; heard = grown.heard; heard_first = grown.heard_first }

      -- ---- the page is there

      page_rebuilt : (j : Contents) → Phase c i j g3 sites own root_finished (finished i s things sites) → IsRebuilt c s things j g3 sites
      page_rebuilt j state = record {
        running = state.running;
        hosting = state.hosting;
        count = made.count;
        each = λ n inside.
            subst (IsRebuiltAs c j.environments s things sites (nth sites n) (thing n)) (sym (state.things n (up n inside)))
            (finished_rebuilt c s things sites i j n state.more_environments state.environments (fresh n inside));
        hosted = λ n inside.
            hosted_again c End s things sites h i g g1 g3 still made stand fam alone W events grown_last n (object_at j.objects (nth sites n)) inside (same n inside);
        parents = parents_again c End s things sites h i g g1 g3 still made stand fam alone W events grown_last j state.hosting same;
        document = record {
          host = document_again c End s things sites h i g g1 g3 still made stand fam alone W events grown_last (object_at j.objects document.0) state.running.own.document.class;
          extensible = ap (λ (o : Object). o.extensible) state.document;
          closed = ap (λ (o : Object). o.closed) state.document ∙ root_closed;
          props = ap (λ (o : Object). o.props) state.document;
        };
        globals = state.globals ∙ ap (λ (q : Props). q ++ rebuilt_props sites things (globals_of s)) globals_first;
        timers = refl;
      }
        where
          up : (n : ℕ) → n < length things → n < length sites
          up n inside = omega (arith, inside, made.count)

          same : (n : ℕ) → n < length things → (object_at j.objects (nth sites n)).class ≡ (first n).class
          same n inside = ap (λ (o : Object). o.class) (state.things n (up n inside))

      -- ---- those that get no new properties

      zero_more : 0 + length things ≡ length things
      zero_more = omega arith

      zero_on : (j : ℕ) → j ≡ 0 + j
      zero_on j = omega arith

      same_from : (before after : ℕ → Object) (n : ℕ) → mixed before after 0 n ≡ before n
      same_from before after n = cond-false (nat_lt n 0) (after n) (before n) (le-ltb n 0 (omega arith))

      at_document : site sites document.0 ≡ document.0
      at_document = site_low sites document.0 (omega arith)

      prevents_left : (j : Contents) → Phase c i j g3 sites own root_finished (filled i s things sites) → Allowed (length sites) (plan.each phase.Ends 0 ts)
          → Succeeds c End j g3 sites (plan.each phase.Ends 0 ts)
      prevents_left j state allowed =
          subst (Succeeds c End j g3 sites) (append-nil (plan.each phase.Ends 0 ts))
          (each_succeeds c End s things sites i g3 own root_finished (filled i s things sites) (finished i s things sites) (plan.each phase.Ends) prevent_thing
          (λ n t us. refl) (λ n. refl) (prevent_step c End s things sites i g3 fresh) made.count things 0 j [] zero_more (λ m there. ap (nth things) (zero_on m))
          (phase_same c i j g3 sites own root_finished (filled i s things sites) (mixed (filled i s things sites) (finished i s things sites) 0) state
          (λ n inside. same_from (filled i s things sites) (finished i s things sites) n))
          (subst (Allowed (length sites)) (sym (append-nil (plan.each phase.Ends 0 ts))) allowed)
          (λ k finish more. page_rebuilt k finish))

      -- the document may be one
      document_prevented : (b : Bool) (j : Contents) (rs : List Rebuild) → Going c j j g3 sites document.0 root_filled
          → Allowed (length sites) ((if b then [] else Prevent document ∷ []) ++ rs)
          → ((k : Contents) → Going c j k g3 sites document.0 (with_extensible root_filled b) → Allowed (length sites) rs → Succeeds c End k g3 sites rs)
          → Succeeds c End j g3 sites ((if b then [] else Prevent document ∷ []) ++ rs)
      document_prevented true j rs going allowed later =
          later j (subst (Going c j j g3 sites document.0) (ap (with_extensible root_filled) root_extensible) going) allowed
      document_prevented false j rs going allowed later =
          prevent_next c End sites j g3 j document rs root_filled (not_extensible root_filled)
          (subst (λ k. Going c j j g3 sites k root_filled) (sym at_document) going) allowed (prevents root_filled root_closed root_window)
          (λ k now more. later k (subst (λ q. Going c j k g3 sites q (not_extensible root_filled)) at_document now) more)

      ends_left : (j : Contents) → Phase c i j g3 sites own root_filled (filled i s things sites) → Allowed (length sites) (plan.whole phase.Ends (compact s things))
          → Succeeds c End j g3 sites (plan.whole phase.Ends (compact s things))
      ends_left j state allowed =
          document_prevented root_thing.extensible j (plan.each phase.Ends 0 ts) (going_begins c j g3 sites document.0 root_filled state.running state.hosting state.document) allowed
          (λ k now more. prevents_left k (phase_document c i j k g3 sites own root_filled root_finished (filled i s things sites) state now) more)

      -- ---- timers

      classes_after : (j : Contents) → Phase c i j g2 sites own root_filled (filled i s things sites) → (n : ℕ) → n < length things
          → ClassIsRebuilt c j.environments s things sites (nth sites n) (thing n).class (object_at j.objects (nth sites n)).class
      classes_after j state n inside =
          subst (λ (o : Object). ClassIsRebuilt c j.environments s things sites (nth sites n) (thing n).class o.class) (sym (state.things n (omega (arith, inside, made.count))))
          (class_stays c i.environments j.environments state.more_environments state.environments (fresh n inside).class)

      timers_left : (j : Contents) → Phase c i j g2 sites own root_filled (filled i s things sites)
          → Allowed (length sites) (plan.timers (compact s things).timers ++ plan.whole phase.Ends (compact s things))
          → Succeeds c End j g2 sites (plan.timers (compact s things).timers ++ plan.whole phase.Ends (compact s things))
      timers_left j state allowed =
          timers_succeed c End j sites g2 ts_saved ends state.hosting no_timers (filler_callable c j sites state.running)
          (distinct_moved things s.host.clock s.host.timers still.shaped.host.sound.ids)
          (timely_moved things s.host.clock s.host.timers still.shaped.host.sound.timely)
          (are_timers c j s things sites state.running made.count still walk fam.root (classes_after j state))
          (λ hosting. ends_left j (phase_hosted c i j g2 g3 sites own root_filled (filled i s things sites) state hosting)
          (allowed_past (length sites) (plan.timers ts_saved) ends (timers_none ts_saved) allowed))
        where
          no_timers : g2.timers ≡ []
          no_timers = ap (λ (v : Host). v.timers) done.kept ∙ ap (λ (v : Host). v.timers) kept.0 ∙ made.cleared.timers

      -- ---- properties

      fills_left : (j : Contents) → Phase c i j g2 sites own root_filled first
          → Allowed (length sites) (plan.each phase.Properties 0 ts ++ after_properties)
          → Succeeds c End j g2 sites (plan.each phase.Properties 0 ts ++ after_properties)
      fills_left j state allowed =
          each_succeeds c End s things sites i g2 own root_filled first (filled i s things sites) (plan.each phase.Properties) fill_thing (λ n t us. refl) (λ n. refl)
          (fill_step c End s things sites i g2 still.sound fresh shapes
          (λ n inside. free_again c End s things sites h i g g1 g2 still made stand fam alone W events grown n inside (shapes n inside)))
          made.count things 0 j after_properties zero_more (λ m there. ap (nth things) (zero_on m))
          (phase_same c i j g2 sites own root_filled first (mixed first (filled i s things sites) 0) state
          (λ n inside. same_from first (filled i s things sites) n))
          allowed
          (λ k filled_now more. timers_left k filled_now more)
        where
          shapes : (n : ℕ) → n < length things → HasShape s (thing n) (thing n).class
          shapes n inside = still.shaped.made (nth things n) (is_thing_at s things n walk inside)

      properties_left : (j : Contents) → Phase c i j g2 sites own root first
          → Allowed (length sites) (plan.whole phase.Properties (compact s things) ++ after_properties)
          → Succeeds c End j g2 sites (plan.whole phase.Properties (compact s things) ++ after_properties)
      properties_left j state allowed =
          subst (Succeeds c End j g2 sites) (sym are)
          (by_class c End s things sites j g2 document root_thing root j (plan.each phase.Properties 0 ts ++ after_properties)
          (going_begins c j g2 sites (site sites document.0) root state.running state.hosting (ap (object_at j.objects) at_document ∙ state.document))
          root_closed root_extensible root_window (still.sound.names document.0) off
          (λ k now more. fills_left k
          (phase_document c i j k g2 sites own root root_filled first state (subst (λ q. Going c j k g2 sites q root_filled) at_document now)) more)
          (document_free c End s things sites h i g g1 g2 still made stand fam alone W events grown root root_class)
          root_thing.class (ap is_list root_class ∙ sym (ap is_list fam.root))
          (subst (λ C. MadeProps C root_thing.props root.props) (sym fam.root) (ap (λ (o : Object). o.props) root_is ∙ made.document_props))
          still.shaped.document (still.sound.arrays document.0) (subst (Allowed (length sites)) are allowed))
        where
          off : nat_eq document.0 window.0 ≡ false
          off = ne_eqb document.0 window.0 (λ same. omega (arith, same, some_built_in))

          mine : List Rebuild
          mine = plan.statements_of phase.Properties document (thing_at s things document.0)

          are : plan.whole phase.Properties (compact s things) ++ after_properties
              ≡ plan.statements_of phase.Properties document (thing_at s things document.0) ++ (plan.each phase.Properties 0 ts ++ after_properties)
          are = append_assoc (plan.statements_of phase.Properties document (thing_at s things document.0)) (plan.each phase.Properties 0 ts) after_properties

      -- ---- globals

      globals_left : IsHosting i g2 → Allowed (length sites) after_listeners → Succeeds c End i g2 sites after_listeners
      globals_left hosting allowed =
          globals_succeed c End s things sites i g2 after_globals still events.running hosting globals_first allowed
          (λ j now more. properties_left j
          (phase_begins c i j g2 sites (and_props (object_at i.objects window.0) (rebuilt_props sites things (globals_of s))) events.running now) more)

    -- ---- listeners

    silent : g1.listeners ≡ []
    silent = ap (λ (v : Host). v.listeners) kept.0 ∙ made.cleared.listeners

    listeners_left : Allowed (length sites) after_events → Succeeds c End i g1 sites after_events
    listeners_left allowed =
        listeners_succeed c End i sites s things g1 events.running made.count stand_i own_i after_listeners classes
        (things_can c i s things sites events.running made.count still walk classes)
        (λ n inside. things_new c i s things sites events.running made.count still walk classes n (node_here i sites (plan.thing_place n)) inside)
        (document_can c i s things sites events.running made.count still walk classes)
        (document_new c i s things sites events.running made.count still walk classes (node_here i sites document))
        events.hosting silent
        (λ g2 hosting done. globals_left g2 done hosting
        (allowed_past (length sites) (plan.whole phase.Listeners p) after_listeners (listeners_none p) allowed))
      where
        classes : (n : ℕ) → n < length things → ClassIsRebuilt c i.environments s things sites (nth sites n) (thing n).class (first n).class
        classes n inside = (fresh n inside).class

  -- ---- nodes and events

  events_left : (g1 : Host) → Keeps g g1 → IsHosting h g1
      → NodesRel (Linked (nodes_world (rebuilt_world s h things sites) (counterpart h s things sites) (nth_node 0 ∷ all_nodes s things))) s.host.nodes g1.nodes
      → Allowed (length sites) after_contents → Succeeds c End h g1 sites after_contents
  events_left g1 kept hosting rel allowed =
      events_succeed c End s things sites h g1 made.count quiet after_events p refl (ap (event_as things) fam.root)
      (events_ready c End s things sites h g g1 still walk made stand (own_kept h g g1 sites (ap (λ (v : Host). v.objects) kept.0) kept.1 made.own) quiet fam.root)
      made.running hosting allowed
      (λ i done more. listeners_left g1 kept rel i done more)
    where
      quiet : g1.listeners ≡ []
      quiet = ap (λ (v : Host). v.listeners) kept.0 ∙ made.cleared.listeners

  -- from the things as they are made the other statements of a plan rebuild the page
  pub rest_rebuilds : Allowed (length sites) (plan.whole phase.Children (compact s things) ++ after_children)
      → Succeeds c (IsRebuilt c s things) h g sites (plan.whole phase.Children (compact s things) ++ after_children)
  rest_rebuilds allowed =
      nodes_succeed c End h s things sites g made.running made.count stand made.own fam alone W (λ n inside. (made.each n inside).class)
      after_contents made.cleared.hosting
      (λ g1 hosting kept rel. events_left g1 kept hosting rel
      (allowed_past (length sites) (plan.whole phase.Contents p) after_contents (contents_none p)
      (allowed_past (length sites) (plan.whole phase.Children p) after_children (children_none p) allowed)))

-- what a plan has after its makers
abbrev pub behind : Compact → List Rebuild
behind p =
    plan.whole phase.Children p
    ++ (plan.whole phase.Contents p
    ++ (plan.whole phase.Events p
    ++ (plan.whole phase.Listeners p
    ++ (plan.defines false false window p.globals
    ++ (plan.whole phase.Properties p
    ++ (plan.timers p.timers
    ++ plan.whole phase.Ends p))))))

pub made_rebuilds : (c : Scene) (s : Store) (things sites : List ℕ) (h : Contents) (g : Host) → Still s → IsWalk s things
    → HaveLiterals (plan.plan (compact s things)) → Made c s things h g sites → Succeeds c (IsRebuilt c s things) h g sites (behind (compact s things))
made_rebuilds c s things sites h g still walk in_range made =
    let rest : List Rebuild = behind (compact s things) in
    let count : 0 + length (things_at s things things) ≡ length sites = omega (arith, things_long s things things, made.count) in
    rest_rebuilds c s things sites h g still walk made
    (subst (λ m. Allowed m rest) count
    (after_makes (things_at s things things) 0 rest (record { stands = plans_stand s things still walk; in_range = in_range })))
