-- Once nodes, contents and listeners are rebuilt, each thing has of the host what was saved of it.
use Rattle.std.proofs.Common.{◌≡◌, ◌⊎◌, inl, inr, refl, sym, ap, subst, ◌∙◌, ℕ, ◌+◌, ◌<◌, ◌≤◌, Bool, true, false, not, ◌&&◌, ◌||◌, nat_eq, List, [], ◌∷◌, Option, Some, None, length, arith}
use Rattle.std.proofs.lemmas.Bool.{cases_lt, eq-eqb, lt-ltb, or_left, or_right}
use Rattle.std.specs.List.{list_all}
use Rattle.std.specs.Option.{option_map}
use Rattle.dom_tree.proofs.Callers.{parent_past}
use Rattle.dom_tree.specs.Node.{Nodes, kind_at, node_at, parent_at}
use Rattle.dom_tree.specs.declared.content.Content.{Content}
use Rattle.heap_relations.specs.Naming.{World}
use Rattle.heap_relations.specs.Related.{Maybe, some}
use Rattle.heap_walker.specs.Still.{Still}
use Rattle.heap_walker.specs.Things.{heard_at, is_in}
use Rattle.host_relations.specs.Linked.{Linked}
use Rattle.host_relations.specs.Nodes.{NodeIds, NodesRel}
use Rattle.js_values.specs.declared.ids.NodeId.{NodeId}
use Rattle.js_values.specs.declared.ids.ObjId.{ObjId}
use Rattle.object_heap.specs.Chain.{object_at}
use Rattle.object_heap.specs.Environment.{Environment}
use Rattle.object_heap.specs.Heap.{Contents}
use Rattle.object_heap.specs.Object.{Object}
use Rattle.object_heap.specs.Property.{Props}
use Rattle.object_heap.specs.declared.object.Class.{Class}
use Rattle.object_heap.specs.declared.object.Class.TheVariants as class
use Rattle.object_shapes.specs.Shapes.{HasShape}
use Rattle.page_host.specs.Host.{Host, object_of_node}
use Rattle.page_host.specs.HostNames.{host_name, is_handler}
use Rattle.page_host.specs.declared.host_name.HostName.{HostName}
use Rattle.page_meaning.specs.HostNames.{has_named_host, is_kept}
use Rattle.page_meaning.specs.Places.{document}
use Rattle.page_meaning.specs.Store.{Store}
use Rattle.page_writer.specs.Frame.{nth_node}
use Rattle.rebuild_plan.proofs.Callers.{all_nodes}
use Rattle.rebuild_plan.specs.Compact.{moved_proto, place_of, thing_at}
use Rattle.rebuild_plan.specs.Events.{event_as}
use Rattle.rebuild_plan.specs.Moved.{first_thing}
use Rattle.rebuild_plan.specs.Nodes.{moved_listeners, node_as}
use Rattle.rebuilding.specs.Rebuilt.{ClassIsRebuilt, HostIsRebuilt, IsOwned, IsRested, bound, event, fault, kind_as, list, node, nth, page, plain, sited_event, sited_node}
use Rattle.rebuilding.specs.Scene.{IsHosting, Scene}
use Rattle.rebuilding.specs.Sites.{site, sited, sited_proto}
use Rattle.rebuilding.proofs.ChildModel.{AreAlone, IsFamily, IsSpot, of_root, of_thing, placed, spot_is}
use Rattle.rebuilding.proofs.ChildPhase.{counterpart, node_place}
use Rattle.rebuilding.proofs.EventPhase.{EventsDone, evented}
use Rattle.rebuilding.proofs.Evented.{node_was, object_is}
use Rattle.rebuilding.proofs.HostRebuilt.{OwnPlaces, kind_rebuilt, node_rebuilt}
use Rattle.rebuilding.proofs.ListenPhase.{heard_as}
use Rattle.rebuilding.proofs.NodesAt.{NodesStand}
use Rattle.rebuilding.proofs.NodesGrown.{WasNode, linked, was_node}
use Rattle.rebuilding.proofs.OwnObjects.{IsNodeOn}
use Rattle.rebuilding.proofs.Placed.{number_at, place_in}
use Rattle.rebuilding.proofs.SavedNodes.{IsLinked, nodes_world, pair_in}
use Rattle.rebuilding.proofs.Stages.{Made}

-- ---- what an object of a class has of the host

record Parts (s : Store) (things : List ℕ) (g : Host) (sites : List ℕ) (k : ℕ) (C D : Class) : Type 0 where
  node : node_as g [] D ≡ sited_node sites (node_as s.host things C)
  event : event_as [] D ≡ option_map (sited_event sites) (event_as things C)
  kind : kind_as g D ≡ kind_as s.host C
  own : IsOwned g k D
  rested : IsRested D

no_things : (sites : List ℕ) (p : Option ObjId) → moved_proto [] (sited_proto sites p) ≡ sited_proto sites p
no_things sites None = refl
no_things sites (Some at) = refl

-- an object that is no node's has its event alone
parts_of : {c : Scene} {es : List Environment} {s : Store} {things sites : List ℕ} {k : ℕ} {C D : Class} (g : Host) → ClassIsRebuilt c es s things sites k C D
    → (o : Object) → o.class ≡ D → ((a b : NodeId) → C ≡ class.Node a → o.class ≡ class.Node b → Parts s things g sites k (class.Node a) (class.Node b))
    → Parts s things g sites k C (evented sites o (event_as things C)).class
parts_of g plain o is nodes = subst (Parts _ _ g _ _ class.Plain) (sym is) (record { node = refl; event = refl; kind = refl; own = tt; rested = tt })
parts_of g list o is nodes = subst (Parts _ _ g _ _ class.List) (sym is) (record { node = refl; event = refl; kind = refl; own = tt; rested = tt })
parts_of g fault o is nodes = subst (Parts _ _ g _ _ class.Fault) (sym is) (record { node = refl; event = refl; kind = refl; own = tt; rested = tt })
parts_of g (page {code = body} {env = env} round) o is nodes =
    subst (Parts _ _ g _ _ (class.Page body env)) (sym is) (record { node = refl; event = refl; kind = refl; own = tt; rested = tt })
parts_of g (bound {target = target} {this = this} {args = args}) o is nodes =
    subst (Parts _ _ g _ _ (class.Bound target this args)) (sym is) (record { node = refl; event = refl; kind = refl; own = tt; rested = tt })
parts_of g (node {a = a} {b = b}) o is nodes = subst (Parts _ _ g _ _ (class.Node a)) (sym is) (nodes a b refl is)
parts_of {things = things} {sites = sites} g (event {a = a}) o is nodes = record {
  node = refl;
  event = ap (λ p. Some (record { kind = a.kind; bubbles = a.bubbles; cancelable = a.cancelable; begun = a.begun; target = p })) (no_things sites (moved_proto things a.target));
  kind = refl;
  own = tt;
  rested = (refl, refl, refl);
}

-- ---- which names are kept from it

named_same : (t u : Nodes) (a b : NodeId) → kind_at u b.0 ≡ kind_at t a.0 → a.0 < length t → b.0 < length u → (n : Option HostName)
    → has_named_host u (class.Node b) n ≡ has_named_host t (class.Node a) n
named_same t u a b same left right None = refl
named_same t u a b same left right (Some n) = rw (lt-ltb a.0 (length t) left, lt-ltb b.0 (length u) right, same) refl

kept_same : (t u : Nodes) (a b : NodeId) → kind_at u b.0 ≡ kind_at t a.0 → a.0 < length t → b.0 < length u → (x : List ℕ)
    → is_kept u (class.Node b) x ≡ is_kept t (class.Node a) x
kept_same t u a b same left right x = ap (λ z. is_handler x || z) (named_same t u a b same left right (host_name x))

all_same : (f g : List ℕ → Bool) → ((x : List ℕ) → f x ≡ g x) → (ps : Props) → list_all (λ e. not (f e.0)) ps ≡ list_all (λ e. not (g e.0)) ps
all_same f g same [] = refl
all_same f g same (p ∷ ps) = let later = all_same f g same ps in (λ i. not (same p.0 i) && later i)

none_kept : (t : Nodes) (D : Class) → ((x : List ℕ) → is_kept t D x ≡ false) → (ps : Props) → list_all (λ e. not (is_kept t D e.0)) ps ≡ true
none_kept t D free [] = refl
none_kept t D free (p ∷ ps) = rw (free p.0) (none_kept t D free ps)

-- no own name of a thing is kept from the object that is rebuilt
free_of : {c : Scene} {es : List Environment} {s : Store} {things sites : List ℕ} {k : ℕ} {C D : Class} (u : Nodes) (thing : Object) → ClassIsRebuilt c es s things sites k C D
    → (o : Object) → o.class ≡ D → ((a b : NodeId) → C ≡ class.Node a → o.class ≡ class.Node b → (x : List ℕ) → is_kept u (class.Node b) x ≡ is_kept s.host.nodes (class.Node a) x)
    → thing.class ≡ C → HasShape s thing C
    → list_all (λ e. not (is_kept u (evented sites o (event_as things C)).class e.0)) thing.props ≡ true
free_of u thing plain o is nodes e shape = none_kept u o.class (λ x. ap (λ d. is_kept u d x) is) thing.props
free_of u thing list o is nodes e shape = none_kept u o.class (λ x. ap (λ d. is_kept u d x) is) thing.props
free_of u thing fault o is nodes e shape = none_kept u o.class (λ x. ap (λ d. is_kept u d x) is) thing.props
free_of u thing (page round) o is nodes e shape = none_kept u o.class (λ x. ap (λ d. is_kept u d x) is) thing.props
free_of u thing bound o is nodes e shape = none_kept u o.class (λ x. ap (λ d. is_kept u d x) is) thing.props
free_of {s = s} u thing (node {a = a} {b = b}) o is nodes e shape =
    all_same (is_kept u o.class) (is_kept s.host.nodes thing.class)
    (λ x. ap (λ d. is_kept u d x) is ∙ nodes a b refl is x ∙ ap (λ d. is_kept s.host.nodes d x) (sym e)) thing.props
    ∙ shape.1
free_of {s = s} {things = things} {sites = sites} u thing (event {a = a}) o is nodes e shape =
    all_same (is_kept u (evented sites o (event_as things (class.Event a))).class) (is_kept s.host.nodes thing.class) (λ x. ap (λ d. is_kept s.host.nodes d x) (sym e)) thing.props
    ∙ shape.1

-- ---- all things

-- the nodes that are rebuilt mean what the saved ones mean, each with its object and its listeners
pub record IsGrown (s : Store) (things sites : List ℕ) (h i : Contents) (first last : Host) (W : World) : Type 0 where
  pub nodes : NodesRel (Linked (nodes_world W (counterpart h s things sites) (nth_node 0 ∷ all_nodes s things))) s.host.nodes last.nodes
  pub objects : last.objects ≡ first.objects
  pub long : length last.nodes ≡ length first.nodes
  pub heard : (n b : ℕ) → n < length things → IsNodeOn i (nth sites n) b
      → (k : NodeId) × (heard_at b last.listeners ≡ heard_as k sites (thing_at s things (nth things n)).node.listeners)
  pub heard_first : (k : NodeId) × (heard_at 0 last.listeners ≡ heard_as k sites (thing_at s things document.0).node.listeners)

module _ (c : Scene) (End : Contents → Host → List ℕ → Type 0) (s : Store) (things sites : List ℕ) (h i : Contents) (first middle last : Host) (still : Still s)
    (made : Made c s things h first sites) (stand : NodesStand h sites) (family : IsFamily s things) (lonely : AreAlone h first s things sites) (W : World)
    (events : EventsDone c s things sites h middle (length things) i) (grown : IsGrown s things sites h i first last W) where
  abbrev known : List NodeId
  known = nth_node 0 ∷ all_nodes s things

  abbrev f : NodeId → NodeId
  f = counterpart h s things sites

  abbrev N : ℕ → ℕ → Type 0
  N = Linked (nodes_world W f known)

  abbrev thing : ℕ → Object
  thing n = object_at s.heap.objects (nth things n)

  abbrev before : ℕ → Object
  before n = object_at h.objects (nth sites n)

  low : (n : ℕ) → n < length sites → n < length things
  low n inside = omega (arith, inside, made.count)

  classes : (n : ℕ) → n < length things → ClassIsRebuilt c h.environments s things sites (nth sites n) (thing n).class (before n).class
  classes n inside = (made.each n inside).class

  own_places : OwnPlaces things sites s.host.objects last.objects N
  own_places a b l =
      let p = pair_in f known a.0 b.0 l.named in
      let q = placed c End h s things sites first made.running made.count stand made.own family lonely p.node p.among in
      ap (λ os. object_of_node os b) grown.objects
      ∙ ap (λ m. object_of_node first.objects (nth_node m)) (sym p.right)
      ∙ (q.here first (refl, refl)).own
      ∙ ap (λ m. sited sites (node_place s things (nth_node m))) p.left

  -- the node of a thing and that at its site
  pub linked_at : (n : ℕ) (a b : NodeId) → n < length things → (object_at s.heap.objects (nth things n)).class ≡ class.Node a
      → (object_at h.objects (nth sites n)).class ≡ class.Node b → N a.0 b.0
  linked_at n a b inside is on =
      linked c End h s things sites first made.running made.count stand made.own family lonely W classes n b.0 a inside is on

  content_at : (a b : NodeId) → N a.0 b.0 → (node_at last.nodes b.0).content ≡ (node_at s.host.nodes a.0).content
  content_at a b l = sym (grown.nodes.at a.0 b.0 l).content

  node_parts : (k : ℕ) (a b : NodeId) → N a.0 b.0 → IsOwned last k (class.Node b)
      → (n : NodeId) × (heard_at b.0 last.listeners ≡ heard_as n sites (moved_listeners things (heard_at a.0 s.host.listeners)))
      → Parts s things last sites k (class.Node a) (class.Node b)
  node_parts k a b l own heard = record {
    node = node_rebuilt s last things sites N own_places a b (content_at a b l) heard.0 (grown.nodes.at a.0 b.0 l).children heard.1;
    event = refl;
    kind = kind_rebuilt s last things sites N own_places a b (content_at a b l);
    own = own;
    rested = tt;
  }

  owned : (n : ℕ) (b : NodeId) → n < length things → IsNodeOn h (nth sites n) b.0 → IsOwned last (nth sites n) (class.Node b)
  owned n b inside on =
      let has = made.own.things n b.0 (omega (arith, inside, made.count)) on in
      (omega (arith, has.0, grown.long), ap (λ os. object_of_node os b) grown.objects ∙ has.1)

  parts_at : (n : ℕ) → n < length things → Parts s things last sites (nth sites n) (thing n).class (object_at i.objects (nth sites n)).class
  parts_at n inside =
      subst (Parts s things last sites (nth sites n) (thing n).class) (sym class_is)
      (parts_of last (classes n inside) (before n) refl (λ a b is on. node_parts (nth sites n) a b (linked_at n a b inside is on) (owned n b inside on) (heard a b is on)))
    where
      class_is : (object_at i.objects (nth sites n)).class ≡ (evented sites (before n) (event_as things (thing n).class)).class
      class_is = ap (λ (o : Object). o.class) (object_is c s things sites h i first middle made events n inside)

      heard : (a b : NodeId) → (thing n).class ≡ class.Node a → (before n).class ≡ class.Node b
          → (k : NodeId) × (heard_at b.0 last.listeners ≡ heard_as k sites (moved_listeners things (heard_at a.0 s.host.listeners)))
      heard a b is on =
          let still_on : IsNodeOn i (nth sites n) b.0 =
          class_is ∙ ap (λ C. (evented sites (before n) (event_as things C)).class) is ∙ on in
          let h = grown.heard n b.0 inside still_on in
          (h.0, h.1 ∙ ap (λ C. heard_as h.0 sites (node_as s.host things C).listeners) is)

  -- an object of the same class has what was saved
  pub hosted_again : (n : ℕ) (o : Object) → n < length things → o.class ≡ (object_at i.objects (nth sites n)).class
      → HostIsRebuilt s things last sites (nth sites n) (object_at s.heap.objects (nth things n)) o
  hosted_again n o inside same =
      let p = subst (Parts s things last sites (nth sites n) (thing n).class) (sym same) (parts_at n inside) in
      record { node = p.node; event = p.event; kind = p.kind; own = p.own; rested = p.rested }

  -- so has the document's
  pub document_again : (o : Object) → o.class ≡ class.Node (nth_node 0) → HostIsRebuilt s things last sites document.0 (object_at s.heap.objects document.0) o
  document_again o is =
      let own : IsOwned last document.0 (class.Node (nth_node 0)) =
      (omega (arith, made.own.document.0, grown.long), ap (λ os. object_of_node os (nth_node 0)) grown.objects ∙ made.own.document.1)
      in
      let heard = ap (λ C. heard_as grown.heard_first.0 sites (node_as s.host things C).listeners) family.root in
      let first_parts = node_parts document.0 (nth_node 0) (nth_node 0) grown.nodes.document own (grown.heard_first.0, grown.heard_first.1 ∙ heard) in
      let p = subst (λ C. Parts s things last sites document.0 C o.class) (sym family.root)
      (subst (λ D. Parts s things last sites document.0 (class.Node (nth_node 0)) D) (sym is) first_parts)
      in
      record { node = p.node; event = p.event; kind = p.kind; own = p.own; rested = p.rested }

  -- ---- names

  kept_at : (a b : NodeId) → N a.0 b.0 → (x : List ℕ) → is_kept last.nodes (class.Node b) x ≡ is_kept s.host.nodes (class.Node a) x
  kept_at a b l x =
      let inside = grown.nodes.inside a.0 b.0 l in
      kept_same s.host.nodes last.nodes a b (ap (λ (d : Content). d.kind) (content_at a b l)) inside.0 inside.1 x

  pub free_again : (n : ℕ) → n < length things → HasShape s (object_at s.heap.objects (nth things n)) (object_at s.heap.objects (nth things n)).class
      → list_all (λ e. not (is_kept last.nodes (object_at i.objects (nth sites n)).class e.0)) (object_at s.heap.objects (nth things n)).props ≡ true
  free_again n inside shape =
      ap (λ (o : Object). list_all (λ e. not (is_kept last.nodes o.class e.0)) (thing n).props) (object_is c s things sites h i first middle made events n inside)
      ∙ free_of last.nodes (thing n) (classes n inside) (before n) refl (λ a b is on x. kept_at a b (linked_at n a b inside is on) x) refl shape

  pub document_free : (o : Object) → o.class ≡ class.Node (nth_node 0) → list_all (λ e. not (is_kept last.nodes o.class e.0)) (object_at s.heap.objects document.0).props ≡ true
  document_free o is =
      let shape : HasShape s (object_at s.heap.objects document.0) (class.Node (nth_node 0)) =
      subst (HasShape s (object_at s.heap.objects document.0)) family.root still.shaped.document
      in
      all_same (is_kept last.nodes o.class) (is_kept s.host.nodes (object_at s.heap.objects document.0).class)
      (λ x. ap (λ d. is_kept last.nodes d x) is ∙ kept_at (nth_node 0) (nth_node 0) grown.nodes.document x ∙ ap (λ d. is_kept s.host.nodes d x) (sym family.root))
      (object_at s.heap.objects document.0).props
      ∙ shape.1

  -- ---- parents

  record IsAbove (x : Option NodeId) (p : NodeId) : Type 0 where
    node : NodeId
    above : N node.0 p.0

  above_is : (x : Option NodeId) (p : NodeId) → Maybe (NodeIds N) x (Some p) → IsAbove x p
  above_is _ p (some {a = q} r) = record { node = q; above = r.linked }

  -- the parent of a node at a site is at one, or the document
  pub parents_again : (j : Contents) → IsHosting j last
      → ((n : ℕ) → n < length things → (object_at j.objects (nth sites n)).class ≡ (object_at i.objects (nth sites n)).class)
      → (k p : NodeId) → is_in (object_of_node last.objects k).0 sites ≡ true → parent_at last.nodes k.0 ≡ Some p
      → is_in (object_of_node last.objects p).0 (document.0 ∷ sites) ≡ true
  parents_again j hosting same k p among e =
      by (spot_is c End h s things sites first made.running made.count stand made.own family lonely up.node up.among)
    where
      place : (m : ℕ) × (place_of sites (object_of_node last.objects k).0 ≡ first_thing + m) × (m < length sites) × (nth sites m ≡ (object_of_node last.objects k).0)
      place = number_at sites (object_of_node last.objects k).0 among

      there : k.0 < length last.nodes
      there = from (cases_lt k.0 (length last.nodes))
        where
          from : (k.0 < length last.nodes) ⊎ (length last.nodes ≤ k.0) → k.0 < length last.nodes
          from (inl h) = h
          from (inr h) = let both : None ≡ Some p = sym (parent_past last.nodes k.0 h) ∙ e in absurd (cc both)

      inside : place.0 < length things
      inside = low place.0 place.2

      on : IsNodeOn h (nth sites place.0) k.0
      on =
          node_was c s things sites h i first middle made events place.0 k.0 place.2
          (sym (same place.0 inside) ∙ ap (λ m. (object_at j.objects m).class) place.3 ∙ hosting.objects k.0 there)

      was : WasNode (thing place.0).class
      was = was_node k (classes place.0 inside) on

      over : IsAbove (parent_at s.host.nodes was.node.0) p
      over =
          above_is (parent_at s.host.nodes was.node.0) p
          (subst (λ y. Maybe (NodeIds N) (parent_at s.host.nodes was.node.0) y) e (grown.nodes.at was.node.0 k.0 (linked_at place.0 was.node k inside was.is on)).parent)

      up : IsLinked f known over.node.0 p.0
      up = pair_in f known over.node.0 p.0 over.above.named

      spot : (object_of_node last.objects p).0 ≡ site sites (node_place s things up.node).0
      spot =
          ap (λ (o : ObjId). o.0) (own_places over.node p over.above)
          ∙ ap (λ m. site sites (node_place s things (nth_node m)).0) (sym up.left)

      by : IsSpot c End h s things sites first made.running made.count stand made.own family lonely up.node → is_in (object_of_node last.objects p).0 (document.0 ∷ sites) ≡ true
      by (of_root z at) =
          or_left (nat_eq (object_of_node last.objects p).0 document.0) (is_in (object_of_node last.objects p).0 sites)
          (eq-eqb (object_of_node last.objects p).0 document.0 (spot ∙ at))
      by (of_thing n within is at) =
          or_right (nat_eq (object_of_node last.objects p).0 document.0) (is_in (object_of_node last.objects p).0 sites)
          (ap (λ m. is_in m sites) (spot ∙ at) ∙ place_in sites n (omega (arith, within, made.count)))
