-- The phase of children: none is refused, and the nodes mean the same as the saved ones then, but for attributes and values.
use Rattle.std.proofs.Common.{◌≡◌, ◌⊎◌, inl, inr, refl, sym, ap, subst, ◌∙◌, ℕ, suc, ◌+◌, ◌<◌, Bool, true, false, not, nat_eq, List, [], ◌∷◌, ◌++◌, Some, None, codes, length, arith}
use Rattle.std.proofs.lemmas.Bool.{and_from, cases_eq, eq-eqb, eqb-true, ne_eqb, or_cases}
use Rattle.dom_tree.specs.Node.{Node, Nodes, children_at, has, is_distinct, kind_at, node_at, parent_at}
use Rattle.heap_relations.specs.Naming.{World}
use Rattle.heap_relations.specs.Related.{Each, Maybe, no_more, none}
use Rattle.heap_walker.specs.Still.{Still}
use Rattle.heap_walker.specs.Things.{IsWalk}
use Rattle.host_relations.proofs.Callers.{alone_at, appends_carry}
use Rattle.host_relations.specs.Appends.{alone}
use Rattle.host_relations.specs.Carrying.{AllPlaced, AreSited, all_placed}
use Rattle.host_relations.specs.Linked.{Linked}
use Rattle.host_relations.specs.Nodes.{NodeIds, NodeRel, NodesRel}
use Rattle.js_values.specs.declared.ids.NodeId.{NodeId}
use Rattle.js_values.specs.declared.ids.ObjId.{ObjId}
use Rattle.object_heap.specs.Chain.{object_at}
use Rattle.object_heap.specs.Heap.{Contents}
use Rattle.object_heap.specs.Object.{Object}
use Rattle.object_heap.specs.declared.object.Class.{Class}
use Rattle.object_heap.specs.declared.object.Class.TheVariants as class
use Rattle.page_host.specs.Host.{Host, object_of_node}
use Rattle.page_meaning.specs.Places.{at_place, document}
use Rattle.page_meaning.specs.Store.{Store}
use Rattle.page_writer.specs.Frame.{bare_node, nth_node}
use Rattle.rebuild_plan.proofs.Callers.{all_nodes, nodes_as}
use Rattle.rebuild_plan.specs.Compact.{compact, place_of}
use Rattle.rebuild_plan.specs.Moved.{first_thing}
use Rattle.rebuild_plan.specs.Plan as plan
use Rattle.rebuild_plan.specs.declared.phase.Phase.TheVariants as phase
use Rattle.rebuild_plan.specs.declared.statement.Rebuild.{Rebuild}
use Rattle.rebuilding.specs.Rebuilt.{Succeeds, nth}
use Rattle.rebuilding.specs.Running.{IsNodeHere, node_here, object_here}
use Rattle.rebuilding.specs.Scene.{IsHosting, IsRunning, Scene}
use Rattle.rebuilding.specs.Sites.{site, sited}
use Rattle.rebuilding.proofs.Bared.{bared, bared_at, bared_long, bared_sound}
use Rattle.rebuilding.proofs.ChildPhase.{Keeps, children_go, counterpart, node_place}
use Rattle.rebuilding.proofs.ListenPhase.{bare_lacks}
use Rattle.rebuilding.proofs.NodesAt.{NodesStand, document_here, document_node, thing_here, thing_node}
use Rattle.rebuilding.proofs.OwnObjects.{IsNodeOn, OwnObjects, node_same, own_kept}
use Rattle.rebuilding.proofs.Placed.{number_at, place_in, place_low, site_low, site_thing, young_walk}
use Rattle.rebuilding.proofs.SavedNodes.{IsRest, first_has, in_pair, more_has, node_found, node_listed, nodes_world, pair_in, rest_here, rest_next, whole_rest}
use Rattle.rebuilding.proofs.SitesApart.{site_there, sites_differ}

-- ---- what is known of the two pages

-- the saved page rests, its document is node 0, and the reached nodes have their parents and children among them
pub record IsFamily (s : Store) (things : List ℕ) : Type 0 where
  pub still : Still s
  pub walk : IsWalk s things
  pub root : (object_at s.heap.objects document.0).class ≡ class.Node (nth_node 0)
  pub no_thing : (n : ℕ) → n < length things → (object_at s.heap.objects (nth things n)).class ≡ class.Node (nth_node 0) → ⊥
  pub children : (k d : NodeId) → has k.0 (nth_node 0 ∷ all_nodes s things) ≡ true → has d.0 (children_at s.host.nodes k.0) ≡ true
      → has d.0 (nth_node 0 ∷ all_nodes s things) ≡ true
  pub parents : (k p : NodeId) → has k.0 (nth_node 0 ∷ all_nodes s things) ≡ true → parent_at s.host.nodes k.0 ≡ Some p
      → has p.0 (nth_node 0 ∷ all_nodes s things) ≡ true

-- each thing that is a node has a node at its site, which is alone and has its kind
pub record AreAlone (h : Contents) (g : Host) (s : Store) (things sites : List ℕ) : Type 0 where
  pub node : (n : ℕ) (k : NodeId) → n < length things → (object_at s.heap.objects (nth things n)).class ≡ class.Node k → (b : ℕ) × IsNodeOn h (nth sites n) b
  pub bare : (n : ℕ) (k : NodeId) (b : ℕ) → n < length things → (object_at s.heap.objects (nth things n)).class ≡ class.Node k → IsNodeOn h (nth sites n) b
      → node_at g.nodes b ≡ bare_node (kind_at s.host.nodes k.0) None []
  pub document : node_at g.nodes 0 ≡ bare_node (kind_at s.host.nodes 0) None []

module _ (c : Scene) (End : Contents → Host → List ℕ → Type 0) (h : Contents) (s : Store) (things sites : List ℕ) (first : Host) (running : IsRunning c h sites)
    (count : length sites ≡ length things) (nodes : NodesStand h sites) (own : OwnObjects h first sites) (family : IsFamily s things)
    (lonely : AreAlone h first s things sites) where
  abbrev t : Nodes
  t = s.host.nodes

  abbrev known : List NodeId
  known = nth_node 0 ∷ all_nodes s things

  abbrev f : NodeId → NodeId
  f = counterpart h s things sites

  -- ---- places

  things_same : (m n : ℕ) → m < length things → n < length things → nth things m ≡ nth things n → m ≡ n
  things_same m n left right same = by (cases_eq m n)
    where
      by : (m ≡ n) ⊎ (m ≡ n → ⊥) → m ≡ n
      by (inl e) = e
      by (inr other) = absurd (sites_differ things m n family.walk.rising left right other same)

  object_is : (n : ℕ) (k : NodeId) → n < length things → (object_at s.heap.objects (nth things n)).class ≡ class.Node k
      → object_of_node s.host.objects k ≡ at_place (nth things n)
  object_is n k inside is = (family.still.shaped.host.node_of (nth things n) k.0 is).1

  pub thing_place_is : (n : ℕ) (k : NodeId) → n < length things → (object_at s.heap.objects (nth things n)).class ≡ class.Node k → node_place s things k ≡ plan.thing_place n
  thing_place_is n k inside is =
      let found = number_at things (nth things n) (place_in things n inside) in
      let same : found.0 ≡ n = things_same found.0 n found.2 inside found.3 in
      ap (λ (o : ObjId). at_place (place_of things o.0)) (object_is n k inside is)
      ∙ ap at_place (found.1 ∙ ap (λ i. first_thing + i) same)

  pub root_place_is : node_place s things (nth_node 0) ≡ document
  root_place_is =
      ap (λ (o : ObjId). at_place (place_of things o.0)) (family.still.shaped.host.node_of document.0 0 family.root).1
      ∙ ap at_place (place_low things document.0 (young_walk s things family.walk) (omega arith))

  -- ---- each known node

  pub record HasPlace (k : NodeId) : Type 0 where
    pub counter : ℕ
    pub is : f k ≡ nth_node counter
    pub inside : k.0 < length t
    pub there : counter < length first.nodes
    pub bare : node_at first.nodes counter ≡ bare_node (kind_at t k.0) None []
    pub here : (g : Host) → Keeps first g → IsNodeHere h g sites (node_place s things k)
    pub props : (object_here h sites (node_place s things k)).props ≡ []

  own_here : (g : Host) → Keeps first g → OwnObjects h g sites
  own_here g kept = own_kept h first g sites (ap (λ (v : Host). v.objects) kept.0) kept.1 own

  place_of_thing : (n : ℕ) (k : NodeId) → n < length things → (object_at s.heap.objects (nth things n)).class ≡ class.Node k → HasPlace k
  place_of_thing n k inside is =
      let found = lonely.node n k inside is in
      let within : n < length sites = omega (arith, inside, count) in
      let place : plan.thing_place n ≡ node_place s things k = sym (thing_place_is n k inside is) in
      record {
        counter = found.0;
        is = subst (λ (at : ObjId). node_here h sites at ≡ nth_node found.0) place (thing_node c h first sites running own nodes n found.0 within found.1).0;
        inside = (family.still.shaped.host.node_of (nth things n) k.0 is).0;
        there = (own.things n found.0 within found.1).0;
        bare = lonely.bare n k found.0 inside is found.1;
        here = λ g kept. subst (λ (at : ObjId). IsNodeHere h g sites at) place (thing_node c h g sites running (own_here g kept) nodes n found.0 within found.1).1;
        props = subst (λ (at : ObjId). (object_here h sites at).props ≡ []) place
            (ap (λ (o : Object). o.props) (thing_here h sites n) ∙ nodes.props n found.0 within found.1);
      }

  place_of_root : HasPlace (nth_node 0)
  place_of_root = record {
    counter = 0;
    is = subst (λ (at : ObjId). node_here h sites at ≡ nth_node 0) (sym root_place_is) (document_node c h first sites running own).0;
    inside = (family.still.shaped.host.node_of document.0 0 family.root).0;
    there = own.document.0;
    bare = lonely.document;
    here = λ g kept. subst (λ (at : ObjId). IsNodeHere h g sites at) (sym root_place_is) (document_node c h g sites running (own_here g kept)).1;
    props = subst (λ (at : ObjId). (object_here h sites at).props ≡ []) (sym root_place_is)
        (ap (λ (o : Object). o.props) (document_here h sites) ∙ nodes.document_props);
  }

  pub placed : (k : NodeId) → has k.0 (nth_node 0 ∷ all_nodes s things) ≡ true → HasPlace k
  placed k h = by (or_cases (nat_eq k.0 0) (has k.0 (all_nodes s things)) h)
    where
      by : (nat_eq k.0 0 ≡ true) ⊎ (has k.0 (all_nodes s things) ≡ true) → HasPlace k
      by (inl e) = subst (λ m. HasPlace (nth_node m)) (sym (eqb-true k.0 0 e)) place_of_root
      by (inr i) = let l = node_found s things things 0 k.0 (whole_rest things) i in place_of_thing l.number k l.inside l.class

  -- ---- two nodes have two counterparts

  object_named : (k : NodeId) (p : HasPlace k) → object_of_node first.objects (nth_node p.counter) ≡ sited sites (node_place s things k)
  object_named k p = ap (object_of_node first.objects) (sym p.is) ∙ (p.here first (refl, refl)).own

  abbrev spot : NodeId → ℕ
  spot k = site sites (node_place s things k).0

  spots_same : (k l : NodeId) → has k.0 known ≡ true → has l.0 known ≡ true → (f k).0 ≡ (f l).0 → spot k ≡ spot l
  spots_same k l left right same =
      let p = placed k left in
      let q = placed l right in
      let one : p.counter ≡ q.counter = sym (ap (λ (m : NodeId). m.0) p.is) ∙ same ∙ ap (λ (m : NodeId). m.0) q.is in
      ap (λ (o : ObjId). o.0) (sym (object_named k p) ∙ ap (λ m. object_of_node first.objects (nth_node m)) one ∙ object_named l q)

  -- the document's, or that of a thing's site
  pub data IsSpot (k : NodeId) : Type 0 where
    of_root : k.0 ≡ 0 → site sites (node_place s things k).0 ≡ document.0 → IsSpot k
    of_thing : (n : ℕ) → n < length things → (object_at s.heap.objects (nth things n)).class ≡ class.Node k → site sites (node_place s things k).0 ≡ nth sites n → IsSpot k

  pub spot_is : (k : NodeId) → has k.0 (nth_node 0 ∷ all_nodes s things) ≡ true → IsSpot k
  spot_is k h = by (or_cases (nat_eq k.0 0) (has k.0 (all_nodes s things)) h)
    where
      by : (nat_eq k.0 0 ≡ true) ⊎ (has k.0 (all_nodes s things) ≡ true) → IsSpot k
      by (inl e) =
          let zero_is : k.0 ≡ 0 = eqb-true k.0 0 e in
          of_root zero_is (ap (λ m. spot (nth_node m)) zero_is ∙ ap (λ (o : ObjId). site sites o.0) root_place_is ∙ site_low sites document.0 (omega arith))
      by (inr i) =
          let l = node_found s things things 0 k.0 (whole_rest things) i in
          of_thing l.number l.inside l.class (ap (λ (o : ObjId). site sites o.0) (thing_place_is l.number k l.inside l.class) ∙ site_thing sites l.number)

  one_to_one : (k l : NodeId) → has k.0 known ≡ true → has l.0 known ≡ true → (f k).0 ≡ (f l).0 → k.0 ≡ l.0
  one_to_one k l left right same = by (spot_is k left) (spot_is l right) (spots_same k l left right same)
    where
      high : (n : ℕ) → n < length things → document.0 ≡ nth sites n → ⊥
      high n inside e = omega (arith, e, (site_there c h sites n running (omega (arith, inside, count))).0)

      by : IsSpot k → IsSpot l → spot k ≡ spot l → k.0 ≡ l.0
      by (of_root a x) (of_root b y) e = a ∙ sym b
      by (of_root a x) (of_thing n inside is y) e = absurd (high n inside (sym x ∙ e ∙ y))
      by (of_thing n inside is x) (of_root b y) e = absurd (high n inside (sym y ∙ sym e ∙ x))
      by (of_thing n inside is x) (of_thing m within same_is y) e = equal (cases_eq n m)
        where
          equal : (n ≡ m) ⊎ (n ≡ m → ⊥) → k.0 ≡ l.0
          equal (inl at) = node_same (sym is ∙ ap (λ i. (object_at s.heap.objects (nth things i)).class) at ∙ same_is)
          equal (inr other) =
              absurd (sites_differ sites n m running.place.rising (omega (arith, inside, count)) (omega (arith, within, count)) other (sym x ∙ e ∙ y))

  -- ---- each node once

  not_if : (b : Bool) → (b ≡ true → ⊥) → not b ≡ true
  not_if true h = absurd (h refl)
  not_if false h = refl

  all_distinct : (ks : List ℕ) (n : ℕ) → IsRest things n ks → is_distinct (all_nodes s ks) ≡ true
  all_distinct [] n r = refl
  all_distinct (k ∷ ks) n r =
      by (object_at s.heap.objects k).class (ap (λ i. (object_at s.heap.objects i).class) (sym (rest_here things n k ks r)))
      (all_distinct ks (suc n) (rest_next things n k ks r))
    where
      twice : (a : NodeId) → (object_at s.heap.objects (nth things n)).class ≡ class.Node a → has a.0 (all_nodes s ks) ≡ true → ⊥
      twice a e h =
          let l = node_found s things ks (suc n) a.0 (rest_next things n k ks r) h in
          let inside : n < length things = omega (arith, r.total) in
          let same : nth things l.number ≡ nth things n = ap (λ (o : ObjId). o.0) (sym (object_is l.number a l.inside l.class) ∙ object_is n a inside e) in
          omega (arith, l.from_here, things_same l.number n l.inside inside same)

      by : (C : Class) → (object_at s.heap.objects (nth things n)).class ≡ C → is_distinct (all_nodes s ks) ≡ true → is_distinct (nodes_as C ++ all_nodes s ks) ≡ true
      by (class.Node a) e later = and_from (not (has a.0 (all_nodes s ks))) (is_distinct (all_nodes s ks)) (not_if (has a.0 (all_nodes s ks)) (twice a e)) later
      by (class.Event a) e later = later
      by class.Plain e later = later
      by class.List e later = later
      by class.Fault e later = later
      by (class.Page a b) e later = later
      by (class.Bound a b d) e later = later
      by (class.Native a) e later = later
      by class.Math e later = later
      by class.Window e later = later

  known_distinct : is_distinct known ≡ true
  known_distinct =
      and_from (not (has 0 (all_nodes s things))) (is_distinct (all_nodes s things)) (not_if (has 0 (all_nodes s things)) root_once) (all_distinct things 0 (whole_rest things))
    where
      root_once : has 0 (all_nodes s things) ≡ true → ⊥
      root_once h = let l = node_found s things things 0 0 (whole_rest things) h in family.no_thing l.number l.inside l.class

  -- ---- what is linked

  module _ (W : World) where
    abbrev U : World
    U = nodes_world W f known

    abbrev N : ℕ → ℕ → Type 0
    N = Linked U

    are_sited : AreSited U (bared t) f known
    are_sited = record {
      linked = λ k i. record { named = in_pair f known k i };
      only = λ a b l. let p = pair_in f known a b l.named in subst (λ j. has j known ≡ true) p.left p.among;
      parents = λ k i p e. family.parents (nth_node k) p i (sym (bared_at t k).parent ∙ e);
      children = λ k d i e. family.children (nth_node k) (nth_node d) i (ap (has d) (sym (bared_at t k).children) ∙ e);
    }

    alone_long : (u : Nodes) → length (alone u) ≡ length u
    alone_long [] = refl
    alone_long (n ∷ u) = ap suc (alone_long u)

    node_begins : (k : NodeId) (p : HasPlace k) → NodeRel N (node_at (alone (bared t)) k.0) (node_at first.nodes p.counter)
    node_begins k p =
        let left = alone_at (bared t) k.0 in
        record {
          content = left.2 ∙ (bared_at t k.0).content ∙ sym (ap (λ (n : Node). n.content) p.bare);
          parent = subst (λ x. Maybe (NodeIds N) x (parent_at first.nodes p.counter)) (sym left.0)
              (subst (λ y. Maybe (NodeIds N) None y) (sym (ap (λ (n : Node). n.parent) p.bare)) none);
          children = subst (λ x. Each (NodeIds N) x (children_at first.nodes p.counter)) (sym left.1)
              (subst (λ y. Each (NodeIds N) [] y) (sym (ap (λ (n : Node). n.children) p.bare)) no_more);
        }

    same_tests : (a b d e : ℕ) → (a ≡ d → b ≡ e) → (b ≡ e → a ≡ d) → nat_eq a d ≡ nat_eq b e
    same_tests a b d e to back = by (cases_eq a d)
      where
        by : (a ≡ d) ⊎ (a ≡ d → ⊥) → nat_eq a d ≡ nat_eq b e
        by (inl x) = eq-eqb a d x ∙ sym (eq-eqb b e (to x))
        by (inr x) = ne_eqb a d x ∙ sym (ne_eqb b e (λ y. x (back y)))

    begins : NodesRel N (alone (bared t)) first.nodes
    unfolding place_of_root
    begins = record { at = at; inside = inside; same = same; document = root_linked }
      where
        at : (a b : ℕ) → N a b → NodeRel N (node_at (alone (bared t)) a) (node_at first.nodes b)
        at a b l =
            let p = pair_in f known a b l.named in
            let q = placed p.node p.among in
            let right : q.counter ≡ b = sym (ap (λ (m : NodeId). m.0) q.is) ∙ p.right in
            subst (λ i. NodeRel N (node_at (alone (bared t)) i) (node_at first.nodes b)) p.left
            (subst (λ j. NodeRel N (node_at (alone (bared t)) p.node.0) (node_at first.nodes j)) right (node_begins p.node q))

        inside : (a b : ℕ) → N a b → (a < length (alone (bared t))) × (b < length first.nodes)
        inside a b l =
            let p = pair_in f known a b l.named in
            let q = placed p.node p.among in
            let right : q.counter ≡ b = sym (ap (λ (m : NodeId). m.0) q.is) ∙ p.right in
            (omega (arith, q.inside, p.left, alone_long (bared t), bared_long t), omega (arith, q.there, right))

        same : (a b d e : ℕ) → N a b → N d e → nat_eq a d ≡ nat_eq b e
        same a b d e l m =
            let p = pair_in f known a b l.named in
            let q = pair_in f known d e m.named in
            same_tests a b d e
            (λ x. sym p.right ∙ ap (λ i. (f (nth_node i)).0) (p.left ∙ x ∙ sym q.left) ∙ q.right)
            (λ y. sym p.left ∙ one_to_one p.node q.node p.among q.among (p.right ∙ y ∙ sym q.right) ∙ q.left)

        root_linked : N 0 0
        root_linked =
            subst (λ j. N 0 j) (ap (λ (m : NodeId). m.0) place_of_root.is) (record { named = in_pair f known (nth_node 0) (first_has (nth_node 0) (all_nodes s things)) })

    -- each child is appended, and what the nodes mean then is what the saved ones mean, without attributes and values
    pub children_succeed : (rs : List Rebuild) → IsHosting h first
        → ((j : Host) → IsHosting h j → Keeps first j → NodesRel (Linked (nodes_world W (counterpart h s things sites) (nth_node 0 ∷ all_nodes s things))) (bared s.host.nodes) j.nodes
        → Succeeds c End h j sites rs)
        → Succeeds c End h first sites (plan.whole phase.Children (compact s things) ++ rs)
    children_succeed rs hosting later =
        let carried : AllPlaced (bared t) f known first.nodes × NodesRel N (bared t) (all_placed (bared t) f known first.nodes) =
        appends_carry U (bared t) first.nodes f known (bared_sound t family.still.shaped.host.sound.nodes) known_distinct are_sited begins hosting.sound.nodes.trees
        in
        children_go c End h s things sites first known (λ g kept k i. (placed k i).here g kept)
        (λ k i. bare_lacks (object_here h sites (node_place s things k)) (codes "appendChild") (placed k i).props)
        (bared t) (λ k. (bared_at t k).children) (λ k d i e. family.children k d i (ap (has d.0) (sym (bared_at t k.0).children) ∙ e))
        (λ n k inside is. (thing_place_is n k inside is, more_has k.0 (nth_node 0) (all_nodes s things) (node_listed s things things 0 n k (whole_rest things) (omega arith) inside is)))
        (nth_node 0) rs family.root root_place_is (first_has (nth_node 0) (all_nodes s things)) carried.0 hosting
        (λ j now kept is. later j now kept (subst (NodesRel N (bared t)) (sym is) carried.1))
