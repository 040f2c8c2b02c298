-- The nodes of a saved page's things, in order, and namings of them.
use Rattle.std.proofs.Common.{◌≡◌, ◌⊎◌, inl, inr, refl, sym, ap, subst, ◌∙◌, ℕ, suc, ◌+◌, ◌<◌, ◌≤◌, Bool, true, false, ◌||◌, nat_eq, List, [], ◌∷◌, ◌++◌, length, arith}
use Rattle.std.proofs.lemmas.Bool.{cases_eq, eq-eqb, eqb-true, or_cases}
use Rattle.dom_tree.specs.Node.{has}
use Rattle.heap_relations.specs.Naming.{In, Pair, World, here, pair, there}
use Rattle.js_values.specs.declared.ids.NodeId.{NodeId}
use Rattle.object_heap.specs.Chain.{object_at}
use Rattle.object_heap.specs.declared.object.Class.{Class}
use Rattle.object_heap.specs.declared.object.Class.TheVariants as class
use Rattle.page_meaning.specs.Store.{Store}
use Rattle.page_writer.specs.Frame.{nth_node}
use Rattle.rebuild_plan.proofs.Callers.{all_nodes, nodes_as}
use Rattle.rebuilding.specs.Rebuilt.{nth}
use Rattle.rebuilding.proofs.Basics.{one_on}

-- ---- namings of nodes alone

abbrev pub linked_pairs : (NodeId → NodeId) → List NodeId → List Pair
linked_pairs f [] = []
linked_pairs f (k ∷ ks) = pair k.0 (f k).0 ∷ linked_pairs f ks

-- a naming of these nodes and their counterparts, from the parts of another
abbrev pub nodes_world : World → (NodeId → NodeId) → List NodeId → World
nodes_world W f ks = record {
  opens = W.opens;
  opened = W.opened;
  fits = W.fits;
  before = W.before;
  objects = [];
  nodes = linked_pairs f ks;
  slots = [];
  done = [];
  bases = [];
}

pub record IsLinked (f : NodeId → NodeId) (ks : List NodeId) (a b : ℕ) : Type 0 where
  pub node : NodeId
  pub among : has node.0 ks ≡ true
  pub left : node.0 ≡ a
  pub right : (f node).0 ≡ b

pub first_has : (k : NodeId) (ks : List NodeId) → has k.0 (k ∷ ks) ≡ true
first_has k ks = rw (eq-eqb k.0 k.0 refl) refl

pub more_has : (j : ℕ) (k : NodeId) (ks : List NodeId) → has j ks ≡ true → has j (k ∷ ks) ≡ true
more_has j k ks h = by (nat_eq j k.0)
  where
    by : (b : Bool) → (b || has j ks) ≡ true
    by true = refl
    by false = h

pub pair_in : (f : NodeId → NodeId) (ks : List NodeId) (a b : ℕ) → In (pair a b) (linked_pairs f ks) → IsLinked f ks a b
pair_in f [] a b i = elim i [ ]
pair_in f (k ∷ ks) a b here = record { node = k; among = first_has k ks; left = refl; right = refl }
pair_in f (k ∷ ks) a b (there i) =
    let l = pair_in f ks a b i in record { node = l.node; among = more_has l.node.0 k ks l.among; left = l.left; right = l.right }

pub in_pair : (f : NodeId → NodeId) (ks : List NodeId) (k : NodeId) → has k.0 ks ≡ true → In (pair k.0 (f k).0) (linked_pairs f ks)
in_pair f [] k h = absurd (cc)
in_pair f (j ∷ ks) k h = by (or_cases (nat_eq k.0 j.0) (has k.0 ks) h) (in_pair f ks k)
  where
    by : (nat_eq k.0 j.0 ≡ true) ⊎ (has k.0 ks ≡ true) → (has k.0 ks ≡ true → In (pair k.0 (f k).0) (linked_pairs f ks))
        → In (pair k.0 (f k).0) (pair j.0 (f j).0 ∷ linked_pairs f ks)
    by (inl e) later =
        let same : k.0 ≡ j.0 = eqb-true k.0 j.0 e in
        subst (λ (m : NodeId). In (pair m.0 (f m).0) (pair j.0 (f j).0 ∷ linked_pairs f ks)) (ap nth_node (sym same)) here
    by (inr i) later = there (later i)

-- ---- the nodes of the saved page

-- the node is that of a thing, whose number is not before this one
pub record IsThing (s : Store) (things : List ℕ) (from : ℕ) (j : ℕ) : Type 0 where
  pub number : ℕ
  pub from_here : from ≤ number
  pub inside : number < length things
  pub class : (object_at s.heap.objects (nth things number)).class ≡ class.Node (nth_node j)

-- the rest of the things from a number on
pub record IsRest (things : List ℕ) (n : ℕ) (ks : List ℕ) : Type 0 where
  pub total : n + length ks ≡ length things
  pub at : (j : ℕ) → j < length ks → nth ks j ≡ nth things (n + j)

-- all of them
pub whole_rest : (things : List ℕ) → IsRest things 0 things
whole_rest things = record { total = omega arith; at = λ j inside. ap (nth things) (sym (plain j)) }
  where
    plain : (m : ℕ) → 0 + m ≡ m
    plain m = omega arith

pub rest_next : (things : List ℕ) (n k : ℕ) (ks : List ℕ) → IsRest things n (k ∷ ks) → IsRest things (suc n) ks
rest_next things n k ks r = record { total = omega (arith, r.total); at = λ j inside. r.at (suc j) (omega (arith, inside)) ∙ ap (nth things) (one_on n j) }

pub rest_here : (things : List ℕ) (n k : ℕ) (ks : List ℕ) → IsRest things n (k ∷ ks) → k ≡ nth things n
rest_here things n k ks r = let nil : n + 0 ≡ n = omega arith in r.at 0 (omega arith) ∙ ap (nth things) nil

pub node_found : (s : Store) (things : List ℕ) (ks : List ℕ) (n j : ℕ) → IsRest things n ks → has j (all_nodes s ks) ≡ true → IsThing s things n j
node_found s things [] n j r h = absurd (cc)
node_found s things (k ∷ ks) n j r h =
    by (object_at s.heap.objects k).class refl h
    (λ i. let l = node_found s things ks (suc n) j (rest_next things n k ks r) i in
    record { number = l.number; from_here = omega (arith, l.from_here); inside = l.inside; class = l.class })
  where
    by : (C : Class) → (object_at s.heap.objects k).class ≡ C → has j (nodes_as C ++ all_nodes s ks) ≡ true
        → (has j (all_nodes s ks) ≡ true → IsThing s things n j) → IsThing s things n j
    by (class.Node a) e i later = choose (or_cases (nat_eq j a.0) (has j (all_nodes s ks)) i)
      where
        choose : (nat_eq j a.0 ≡ true) ⊎ (has j (all_nodes s ks) ≡ true) → IsThing s things n j
        choose (inl same) = record {
          number = n;
          from_here = omega arith;
          inside = omega (arith, r.total);
          class = ap (λ m. (object_at s.heap.objects m).class) (sym (rest_here things n k ks r)) ∙ e ∙ ap (λ m. class.Node (nth_node m)) (sym (eqb-true j a.0 same));
        }
        choose (inr more) = later more
    by (class.Event a) e i later = later i
    by class.Plain e i later = later i
    by class.List e i later = later i
    by class.Fault e i later = later i
    by (class.Page a b) e i later = later i
    by (class.Bound a b d) e i later = later i
    by (class.Native a) e i later = later i
    by class.Math e i later = later i
    by class.Window e i later = later i

pub node_listed : (s : Store) (things : List ℕ) (ks : List ℕ) (n m : ℕ) (a : NodeId) → IsRest things n ks → n ≤ m → m < length things
    → (object_at s.heap.objects (nth things m)).class ≡ class.Node a → has a.0 (all_nodes s ks) ≡ true
node_listed s things [] n m a r low inside e = absurd (omega (arith, r.total, low, inside))
node_listed s things (k ∷ ks) n m a r low inside e = by (cases_eq m n) (λ past. node_listed s things ks (suc n) m a (rest_next things n k ks r) past inside e)
  where
    skip : (C : Class) → has a.0 (all_nodes s ks) ≡ true → has a.0 (nodes_as C ++ all_nodes s ks) ≡ true
    skip (class.Node b) h = more_has a.0 b (all_nodes s ks) h
    skip (class.Event b) h = h
    skip class.Plain h = h
    skip class.List h = h
    skip class.Fault h = h
    skip (class.Page b d) h = h
    skip (class.Bound b d f) h = h
    skip (class.Native b) h = h
    skip class.Math h = h
    skip class.Window h = h

    by : (m ≡ n) ⊎ (m ≡ n → ⊥) → (suc n ≤ m → has a.0 (all_nodes s ks) ≡ true) → has a.0 (all_nodes s (k ∷ ks)) ≡ true
    by (inl same) later =
        let kind : (object_at s.heap.objects k).class ≡ class.Node a =
        ap (λ i. (object_at s.heap.objects i).class) (rest_here things n k ks r ∙ ap (nth things) (sym same)) ∙ e
        in
        subst (λ C. has a.0 (nodes_as C ++ all_nodes s ks) ≡ true) (sym kind) (first_has a (all_nodes s ks))
    by (inr other) later = skip (object_at s.heap.objects k).class (later (omega (arith, low, other)))
