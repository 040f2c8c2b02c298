-- The phase of children runs: each node's children are appended in order, where none of them is refused.
use Rattle.std.proofs.Common.{◌≡◌, refl, sym, ap, subst, ◌∙◌, ℕ, suc, ◌+◌, ◌<◌, true, ◌&&◌, nat_eq, is_none, if◌then◌else◌, List, [], ◌∷◌, ◌++◌, append_assoc, None, codes, length, arith}
use Rattle.std.proofs.lemmas.Bool.{or_left, or_right}
use Rattle.dom_tree.proofs.Callers.{eq_refl, steps_stay_sound}
use Rattle.dom_tree.specs.Change.{inserted, insertion_error}
use Rattle.dom_tree.specs.Node.{Nodes, children_at, has}
use Rattle.dom_tree.specs.Steps.{inserts, is_there}
use Rattle.host_relations.specs.Appends.{AreAccepted, appended}
use Rattle.host_relations.specs.Carrying.{AllPlaced, all_placed, sited as at_counterparts}
use Rattle.js_values.specs.declared.ids.NodeId.{NodeId}
use Rattle.js_values.specs.declared.ids.ObjId.{ObjId}
use Rattle.object_heap.specs.Chain.{object_at}
use Rattle.object_heap.specs.Heap.{Contents}
use Rattle.object_heap.specs.declared.object.Class.{Class}
use Rattle.object_heap.specs.declared.object.Class.TheVariants as class
use Rattle.page_host.specs.Host.{Host, object_of_node, with_nodes}
use Rattle.page_host.specs.Steps.{in_nodes}
use Rattle.page_meaning.specs.Places.{document}
use Rattle.page_meaning.specs.Store.{Store}
use Rattle.rebuild_plan.proofs.Callers.{all_nodes, nodes_as}
use Rattle.rebuild_plan.specs.Compact.{compact, things_at}
use Rattle.rebuild_plan.specs.Moved.{moved}
use Rattle.rebuild_plan.specs.Nodes.{moved_nodes, node_as}
use Rattle.rebuild_plan.specs.Plan as plan
use Rattle.rebuild_plan.specs.declared.phase.Phase.TheVariants as phase
use Rattle.rebuild_plan.specs.declared.statement.Rebuild.{Rebuild}
use Rattle.rebuild_plan.specs.declared.statement.Rebuild.TheVariants.{Append}
use Rattle.rebuilding.specs.Rebuilt.{Succeeds, nth}
use Rattle.rebuilding.specs.Running.{IsNodeHere, Lacks, node_here, object_here}
use Rattle.rebuilding.specs.Scene.{IsHosting, Scene}
use Rattle.rebuilding.proofs.HostPhase.{hosted_next}
use Rattle.rebuilding.proofs.Basics.{one_on}

-- nodes alone are others, and as many
abbrev pub Keeps : Host → Host → Type 0
Keeps first g = (g ≡ with_nodes first g.nodes) × (length g.nodes ≡ length first.nodes)

-- the place that the plan names the object of a node of the saved page by, and its counterpart
abbrev pub node_place : Store → List ℕ → NodeId → ObjId
node_place s things k = moved things (object_of_node s.host.objects k)

abbrev pub counterpart : Contents → Store → List ℕ → List ℕ → NodeId → NodeId
counterpart h s things sites k = node_here h sites (node_place s things k)

inserted_long : (t : Nodes) (p c : NodeId) → is_there t c ≡ true → insertion_error t p c None ≡ None → length (inserted t p c None) ≡ length t
inserted_long t p c there fits =
    ap length (sym (step_is t p c there fits)) ∙ (steps_stay_sound t (inserts p c None)).long
  where
    step_is : (u : Nodes) (q d : NodeId) → is_there u d ≡ true → insertion_error u q d None ≡ None
        → (if is_there u d && is_none (insertion_error u q d None) then inserted u q d None else u) ≡ inserted u q d None
    step_is u q d e f = rw (e, f) refl

module _ (c : Scene) (End : Contents → Host → List ℕ → Type 0) (h : Contents) (s : Store) (things sites : List ℕ) (first : Host) (nodes : List NodeId)
    (here : (g : Host) → Keeps first g → (k : NodeId) → has k.0 nodes ≡ true → IsNodeHere h g sites (node_place s things k))
    (lacks : (k : NodeId) → has k.0 nodes ≡ true → Lacks (object_here h sites (node_place s things k)) (codes "appendChild"))
    (t : Nodes) (same : (k : ℕ) → children_at t k ≡ children_at s.host.nodes k)
    (closed : (k d : NodeId) → has k.0 nodes ≡ true → has d.0 (children_at t k.0) ≡ true → has d.0 nodes ≡ true) where
  abbrev f : NodeId → NodeId
  f = counterpart h s things sites

  -- ---- the children of one node

  appends_go : (k : NodeId) (cs : List NodeId) (g : Host) (rs : List Rebuild) → has k.0 nodes ≡ true → ((d : NodeId) → has d.0 cs ≡ true → has d.0 nodes ≡ true)
      → Keeps first g → AreAccepted (f k) (at_counterparts f cs) g.nodes → IsHosting h g
      → ((j : Host) → IsHosting h j → Keeps first j → j.nodes ≡ appended (f k) (at_counterparts f cs) g.nodes → Succeeds c End h j sites rs)
      → Succeeds c End h g sites (plan.appends (node_place s things k) (moved_nodes things s.host.objects cs) ++ rs)
  appends_go k [] g rs in_all all kept accepted hosting later = later g hosting kept refl
  appends_go k (d ∷ cs) g rs in_all all kept accepted hosting later =
      let child : has d.0 nodes ≡ true = all d (or_left (nat_eq d.0 d.0) (has d.0 cs) (eq_refl d.0)) in
      let is : IsNodeHere h g sites (node_place s things d) = here g kept d child in
      let next : Host = with_nodes g (inserted g.nodes (f k) (f d) None) in
      hosted_next c End h sites g next (Append (node_place s things k) (node_place s things d))
      (plan.appends (node_place s things k) (moved_nodes things s.host.objects cs) ++ rs) (in_nodes (inserts (f k) (f d) None))
      (record { parent = here g kept k in_all; child = is; lacks = lacks k in_all; fits = accepted.0 })
      (λ i j after ran. ran)
      (ap (with_nodes g) (step_is g.nodes is.there accepted.0))
      (λ now. appends_go k cs next rs in_all (λ e i. all e (or_right (nat_eq e.0 d.0) (has e.0 cs) i))
      (ap (λ v. with_nodes v next.nodes) kept.0, inserted_long g.nodes (f k) (f d) is.there accepted.0 ∙ kept.1)
      accepted.1 now later)
    where
      step_is : (u : Nodes) → is_there u (f d) ≡ true → insertion_error u (f k) (f d) None ≡ None
          → (if is_there u (f d) && is_none (insertion_error u (f k) (f d) None) then inserted u (f k) (f d) None else u) ≡ inserted u (f k) (f d) None
      step_is u e fits = rw (e, fits) refl

  -- ---- of each thing

  module _ (places : (n : ℕ) (k : NodeId) → n < length things → (object_at s.heap.objects (nth things n)).class ≡ class.Node k
      → (node_place s things k ≡ plan.thing_place n) × (has k.0 nodes ≡ true)) where
    abbrev Goes : Host → List NodeId → List Rebuild → List Rebuild → Type 0
    Goes g ks qs rs =
        Keeps first g → AllPlaced t f ks g.nodes → IsHosting h g
        → ((j : Host) → IsHosting h j → Keeps first j → j.nodes ≡ all_placed t f ks g.nodes → Succeeds c End h j sites rs)
        → Succeeds c End h g sites (qs ++ rs)

    node_goes : (k : NodeId) (at : ObjId) (more : List NodeId) (g : Host) (qs rs : List Rebuild) → node_place s things k ≡ at → has k.0 nodes ≡ true
        → ((j : Host) → Goes j more qs rs)
        → Goes g (k ∷ more) (plan.appends at (moved_nodes things s.host.objects (children_at s.host.nodes k.0)) ++ qs) rs
    node_goes k at more g qs rs place in_all go kept accepted hosting later =
        subst (Succeeds c End h g sites) (sym listed)
        (appends_go k (children_at t k.0) g (qs ++ rs) in_all (λ d i. closed k d in_all i) kept accepted.0 hosting
        (λ j now kept_j is. go j kept_j (subst (AllPlaced t f more) (sym is) accepted.1) now
        (λ i then' kept_i done. later i then' kept_i (done ∙ ap (all_placed t f more) is))))
      where
        listed : (plan.appends at (moved_nodes things s.host.objects (children_at s.host.nodes k.0)) ++ qs) ++ rs
            ≡ plan.appends (node_place s things k) (moved_nodes things s.host.objects (children_at t k.0)) ++ (qs ++ rs)
        listed =
            append_assoc (plan.appends at (moved_nodes things s.host.objects (children_at s.host.nodes k.0))) qs rs
            ∙ ap (λ cs. plan.appends at (moved_nodes things s.host.objects cs) ++ (qs ++ rs)) (sym (same k.0))
            ∙ ap (λ (a : ObjId). plan.appends a (moved_nodes things s.host.objects (children_at t k.0)) ++ (qs ++ rs)) (sym place)

    from : (ks : List ℕ) (n : ℕ) (g : Host) (rs : List Rebuild) → n + length ks ≡ length things
        → ((j : ℕ) → j < length ks → nth ks j ≡ nth things (n + j)) → Goes g (all_nodes s ks) (plan.each phase.Children n (things_at s things ks)) rs
    from [] n g rs count at = λ kept accepted hosting later. later g hosting kept refl
    from (k ∷ ks) n g rs count at =
        by (object_at s.heap.objects k).class refl
        (λ j. from ks (suc n) j rs (omega (arith, count)) (λ i there. at (suc i) (omega (arith, there)) ∙ ap (nth things) (one_on n i)))
      where
        others : List Rebuild
        others = plan.each phase.Children (suc n) (things_at s things ks)

        number : k ≡ nth things n
        number = let none : n + 0 ≡ n = omega arith in at 0 (omega arith) ∙ ap (nth things) none

        inside : n < length things
        inside = omega (arith, count)

        by : (C : Class) → (object_at s.heap.objects k).class ≡ C → ((j : Host) → Goes j (all_nodes s ks) others rs)
            → Goes g (nodes_as C ++ all_nodes s ks) (plan.appends (plan.thing_place n) (node_as s.host things C).children ++ others) rs
        by (class.Node a) e go =
            let place = places n a inside (ap (λ m. (object_at s.heap.objects m).class) (sym number) ∙ e) in
            node_goes a (plan.thing_place n) (all_nodes s ks) g others rs place.0 place.1 go
        by (class.Event a) e go = go g
        by class.Plain e go = go g
        by class.List e go = go g
        by class.Fault e go = go g
        by (class.Page a b) e go = go g
        by (class.Bound a b d) e go = go g
        by (class.Native a) e go = go g
        by class.Math e go = go g
        by class.Window e go = go g

    -- the document's first
    pub children_go : (root : NodeId) (rs : List Rebuild) → (object_at s.heap.objects document.0).class ≡ class.Node root
        → node_place s things root ≡ document → has root.0 nodes ≡ true
        → AllPlaced t f (root ∷ all_nodes s things) first.nodes → IsHosting h first
        → ((j : Host) → IsHosting h j → Keeps first j → j.nodes ≡ all_placed t f (root ∷ all_nodes s things) first.nodes → Succeeds c End h j sites rs)
        → Succeeds c End h first sites (plan.whole phase.Children (compact s things) ++ rs)
    children_go root rs class place in_all accepted hosting later =
        subst (λ C. Succeeds c End h first sites ((plan.appends document (node_as s.host things C).children ++ plan.each phase.Children 0 (things_at s things things)) ++ rs)) (sym class)
        (node_goes root document (all_nodes s things) first (plan.each phase.Children 0 (things_at s things things)) rs place in_all
        (λ j. from things 0 j rs (plain (length things)) (λ i there. ap (nth things) (sym (plain i))))
        (refl, refl) accepted hosting later)
      where
        plain : (m : ℕ) → 0 + m ≡ m
        plain m = omega arith
