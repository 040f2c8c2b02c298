-- The phase of listeners: each node gets its listeners again, in order.
use Rattle.std.proofs.Common.{◌≡◌, inl, inr, refl, sym, ap, subst, ◌∙◌, ℕ, ◌<◌, Bool, true, if◌then◌else◌, List, [], ◌∷◌, ◌++◌, codes, length}
use Rattle.std.proofs.lemmas.Bool.{eq-eqb, ne_eqb}
use Rattle.host_relations.proofs.Callers.{AreNew, AreOf, all_of_node, with_more}
use Rattle.host_relations.specs.Heard.{added}
use Rattle.heap_walker.specs.Things.{heard_at}
use Rattle.js_values.specs.declared.ids.NodeId.{NodeId}
use Rattle.js_values.specs.declared.ids.ObjId.{ObjId}
use Rattle.object_heap.specs.Chain.{object_at}
use Rattle.object_heap.specs.Heap.{Contents}
use Rattle.object_heap.specs.Object.{Object}
use Rattle.object_heap.specs.Property.{own_property}
use Rattle.page_host.specs.Host.{Host, with_listeners}
use Rattle.page_host.specs.Listeners.{with_listener}
use Rattle.page_host.specs.Steps.{listens}
use Rattle.page_host.specs.declared.listener.Listener.{Listener}
use Rattle.page_meaning.specs.Classes.{is_callable_class}
use Rattle.page_meaning.specs.NodeRows.{listener_of}
use Rattle.page_meaning.specs.Places.{document}
use Rattle.page_meaning.specs.Store.{Store}
use Rattle.page_writer.specs.Frame.{nth_node}
use Rattle.rebuild_plan.specs.Compact.{compact, thing_at}
use Rattle.rebuild_plan.specs.Nodes.{SavedListener}
use Rattle.rebuild_plan.specs.Plan as plan
use Rattle.rebuild_plan.specs.declared.phase.Phase.TheVariants as phase
use Rattle.rebuild_plan.specs.declared.statement.Rebuild.{Rebuild}
use Rattle.rebuild_plan.specs.declared.statement.Rebuild.TheVariants.{Listen}
use Rattle.rebuilding.specs.Rebuilt.{ClassIsRebuilt, Succeeds, nth}
use Rattle.rebuilding.specs.Running.{IsNodeHere, Lacks, Stand, node_here, object_here}
use Rattle.rebuilding.specs.Scene.{IsHosting, IsRunning, Scene}
use Rattle.rebuilding.specs.Sites.{sited}
use Rattle.rebuilding.proofs.HostPhase.{hosted_next}
use Rattle.rebuilding.proofs.NodePhase.{IsAt, NodesDone, at_node, at_other, whole_phase}
use Rattle.rebuilding.proofs.OwnObjects.{IsNodeOn, OwnObjects, own_kept}
use Rattle.rebuilding.proofs.NodesAt.{NodeOrOther, NodesStand, document_here, document_node, node_or_other, thing_here, thing_node}

-- the listeners of a node, with the sites of their functions
abbrev pub heard_as : NodeId → List ℕ → List SavedListener → List Listener
heard_as k sites [] = []
heard_as k sites (l ∷ ls) = listener_of k l.kind (sited sites l.call) l.capture ∷ heard_as k sites ls

-- each calls a function that stands
abbrev pub CanHear : Contents → List ℕ → List SavedListener → Type 0
CanHear h sites [] = Unit {0}
CanHear h sites (l ∷ ls) = (Stand sites (l.call.0 ∷ []) × (is_callable_class (object_here h sites l.call).class ≡ true)) × CanHear h sites ls

all_of : (k : NodeId) (sites : List ℕ) (ls : List SavedListener) → AreOf k.0 (heard_as k sites ls)
all_of k sites [] = tt
all_of k sites (l ∷ ls) = (refl, all_of k sites ls)

empty_end : (ls : List Listener) → ls ++ [] ≡ ls
empty_end [] = refl
empty_end (l ∷ ls) = ap (λ m. l ∷ m) (empty_end ls)

pub bare_lacks : (o : Object) (x : List ℕ) → o.props ≡ [] → Lacks o x
bare_lacks o x none = ap (λ ps. own_property ps x) none

module _ (c : Scene) (End : Contents → Host → List ℕ → Type 0) (h : Contents) (sites : List ℕ) where
  -- ---- one node

  module _ (g : Host) (at : ObjId) (is : IsNodeHere h g sites at) (lacks : Lacks (object_here h sites at) (codes "addEventListener")) where
    listens_go : (ls : List SavedListener) (acc : List Listener) (rs : List Rebuild) → CanHear h sites ls → IsHosting h (with_listeners g acc)
        → ((j : Host) → IsHosting h j → j ≡ with_listeners g (added (heard_as (node_here h sites at) sites ls) acc) → Succeeds c End h j sites rs)
        → Succeeds c End h (with_listeners g acc) sites (plan.listens at ls ++ rs)
    listens_go [] acc rs can hosting later = later (with_listeners g acc) hosting refl
    listens_go (l ∷ ls) acc rs can hosting later =
        let new : Listener = listener_of (node_here h sites at) l.kind (sited sites l.call) l.capture in
        hosted_next c End h sites (with_listeners g acc) (with_listeners g (with_listener acc new)) (Listen at l.kind l.call l.capture)
        (plan.listens at ls ++ rs) (listens new)
        (record {
          is = record { stands = is.stands; proto = is.proto; class = is.class; there = is.there; own = is.own };
          lacks = lacks;
          stands = can.0.0;
          callable = can.0.1;
        })
        (λ i j after ran. ran)
        (ap (λ (b : Bool). if b then with_listeners g (with_listener acc new) else with_listeners g acc) is.there)
        (λ now. listens_go ls (with_listener acc new) rs can.1 now later)

  -- ---- all nodes

  module _ (s : Store) (things : List ℕ) (first : Host) (running : IsRunning c h sites) (count : length sites ≡ length things) (nodes : NodesStand h sites) (own : OwnObjects h first sites) where
    abbrev saved : ℕ → List SavedListener
    saved n = (thing_at s things (nth things n)).node.listeners

    abbrev wanted : ℕ → List Listener
    wanted n = heard_as (node_here h sites (plan.thing_place n)) sites (saved n)

    abbrev document_wanted : List Listener
    document_wanted = heard_as (node_here h sites document) sites (thing_at s things document.0).node.listeners

    abbrev keeps : Host → Type 0
    keeps g = g ≡ with_listeners first g.listeners

    -- once all listeners are added
    abbrev pub ListenersDone : Host → Type 0
    ListenersDone = NodesDone c End h s things sites phase.Listeners running count (List Listener) (λ g k. heard_at k g.listeners) first keeps document_wanted wanted own (length things)

    node_listens : (at : ObjId) (k : ℕ) (ls : List SavedListener) (g : Host) (rs : List Rebuild) → IsHosting h g → node_here h sites at ≡ nth_node k
        → IsNodeHere h g sites at → Lacks (object_here h sites at) (codes "addEventListener") → CanHear h sites ls → AreNew [] (heard_as (node_here h sites at) sites ls)
        → keeps g → heard_at k g.listeners ≡ []
        → ((j : Host) → IsHosting h j → keeps j → heard_at k j.listeners ≡ heard_as (node_here h sites at) sites ls
        → ((i : ℕ) → (i ≡ k → ⊥) → heard_at i j.listeners ≡ heard_at i g.listeners) → Succeeds c End h j sites rs)
        → Succeeds c End h g sites (plan.listens at ls ++ rs)
    node_listens at k ls g rs hosting number is lacks can new kept none later =
        listens_go g at is lacks ls g.listeners rs can hosting (λ j now e. subst (λ v. Succeeds c End h v sites rs) (sym e)
        (later (with_listeners g more) (subst (λ v. IsHosting h v) e now) (ap (λ v. with_listeners v more) kept) here others))
      where
        mine : List Listener
        mine = heard_as (node_here h sites at) sites ls

        more : List Listener
        more = added mine g.listeners

        same : (node_here h sites at).0 ≡ k
        same = ap (λ m. m.0) number

        all : (i : ℕ) → heard_at i more ≡ with_more (λ m. heard_at m g.listeners) k mine i
        all i =
            all_of_node (λ m. heard_at m g.listeners) k mine [] g.listeners (subst (λ m. AreOf m mine) same (all_of (node_here h sites at) sites ls)) new none (λ m. refl) i

        here : heard_at k more ≡ mine
        here = all k ∙ rw (none, eq-eqb k k refl) refl

        others : (i : ℕ) → (i ≡ k → ⊥) → heard_at i more ≡ heard_at i g.listeners
        others i other = all i ∙ rw (ne_eqb i k other) (empty_end (heard_at i g.listeners))

    kinds : ((n : ℕ) → n < length things
        → ClassIsRebuilt c h.environments s things sites (nth sites n) (object_at s.heap.objects (nth things n)).class (object_at h.objects (nth sites n)).class)
        → (n : ℕ) → n < length things → IsAt h phase.Listeners s things sites n
    kinds classes n inside = by (node_or_other (classes n inside))
      where
        by : NodeOrOther (object_at s.heap.objects (nth things n)).class (object_at h.objects (nth sites n)).class → IsAt h phase.Listeners s things sites n
        by (inl (k, e)) = at_node k e
        by (inr (none, nothing)) = at_other none (ap (λ m. plan.listens (plan.thing_place n) m.listeners) (nothing s.host things))

    -- where nobody listens before, each node of the plan has its listeners afterwards
    pub listeners_succeed : (rs : List Rebuild)
        → ((n : ℕ) → n < length things
        → ClassIsRebuilt c h.environments s things sites (nth sites n) (object_at s.heap.objects (nth things n)).class (object_at h.objects (nth sites n)).class)
        → ((n : ℕ) → n < length things → CanHear h sites (saved n)) → ((n : ℕ) → n < length things → AreNew [] (wanted n))
        → CanHear h sites (thing_at s things document.0).node.listeners → AreNew [] document_wanted
        → IsHosting h first → first.listeners ≡ []
        → ((j : Host) → IsHosting h j → ListenersDone j → Succeeds c End h j sites rs)
        → Succeeds c End h first sites (plan.whole phase.Listeners (compact s things) ++ rs)
    listeners_succeed rs classes can new document_can document_new hosting none later =
        whole_phase c End h s things sites phase.Listeners running count (List Listener) (λ g k. heard_at k g.listeners) first keeps document_wanted wanted own
        (kinds classes) one rs
        (λ g qs now kept before go.
        let d = document_node c h g sites running (own_here g kept) in
        node_listens document 0 (thing_at s things document.0).node.listeners g qs now d.0 d.1
        (bare_lacks (object_here h sites document) (codes "addEventListener") (ap (λ (o : Object). o.props) (document_here h sites) ∙ nodes.document_props))
        document_can document_new kept (before ∙ silent 0) go)
        hosting refl later
      where
        own_here : (g : Host) → keeps g → OwnObjects h g sites
        own_here g kept = own_kept h first g sites (ap (λ (v : Host). v.objects) kept) (ap (λ (v : Host). length v.nodes) kept) own

        silent : (k : ℕ) → heard_at k first.listeners ≡ []
        silent k = ap (heard_at k) none

        one : (n k : ℕ) → n < length things → IsNodeOn h (nth sites n) k → (g : Host) (qs : List Rebuild) → IsHosting h g → keeps g
            → heard_at k g.listeners ≡ heard_at k first.listeners
            → ((j : Host) → IsHosting h j → keeps j → heard_at k j.listeners ≡ wanted n
            → ((i : ℕ) → (i ≡ k → ⊥) → heard_at i j.listeners ≡ heard_at i g.listeners) → Succeeds c End h j sites qs)
            → Succeeds c End h g sites (plan.listens (plan.thing_place n) (saved n) ++ qs)
        one n k inside on g qs now kept before go =
            let within : n < length sites = subst (λ m. n < m) (sym count) inside in
            let d = thing_node c h g sites running (own_here g kept) nodes n k within on in
            node_listens (plan.thing_place n) k (saved n) g qs now d.0 d.1
            (bare_lacks (object_here h sites (plan.thing_place n)) (codes "addEventListener") (ap (λ (o : Object). o.props) (thing_here h sites n) ∙ nodes.props n k within on))
            (can n inside) (new n inside) kept (before ∙ silent k) go
