-- The naming of two pages by pairs of their things.
use Rattle.std.proofs.Common.{◌≡◌, ◌⊎◌, inl, inr, refl, ℕ, false, List, [], ◌∷◌, ◌++◌, Option}
use Rattle.agreement.specs.Trees.{HasEqualTrees, code_fits}
use Rattle.heap_relations.specs.Naming.{Base, In, Pair, World, here, pair, there}
use Rattle.js_core.specs.Tree.{Code}
use Rattle.js_values.specs.declared.ids.EnvId.{EnvId}
use Rattle.js_values.specs.declared.ids.NodeId.{NodeId}
use Rattle.object_heap.specs.Chain.{object_at}
use Rattle.object_heap.specs.Object.{Object}
use Rattle.object_heap.specs.declared.object.Class.TheVariants as class
use Rattle.page_meaning.specs.Store.{Store}
use Rattle.rebuilding.proofs.Callers.{IsBase, IsNodePair, base_is, base_of, in_either, member_left, member_right, node_pair_is, node_pair_of}
use Rattle.rebuilding.specs.Frames.{round_frame}
use Rattle.page_agreement.proofs.Pairs.{all_pairs}

-- the nodes of these pairs of objects, and the environments round these pairs of functions
abbrev pub pair_nodes : List Object → List Object → List Pair → List Pair
pair_nodes os ps [] = []
pair_nodes os ps (p ∷ m) = node_pair_of (object_at os p.one).class (object_at ps p.two).class ++ pair_nodes os ps m

abbrev pub pair_bases : List Object → List Object → List Pair → List Base
pair_bases os ps [] = []
pair_bases os ps (p ∷ m) = base_of (object_at os p.one).class (object_at ps p.two).class ++ pair_bases os ps m

abbrev pub pair_world : Store → Store → List Pair → World
pair_world s t m = record {
  opens = false;
  opened = λ n fs c. c;
  fits = λ n. code_fits;
  before = record { one = s.lines; two = t.lines; one_clock = s.host.clock; two_clock = t.host.clock };
  objects = all_pairs m;
  nodes = pair_nodes s.heap.objects t.heap.objects (all_pairs m);
  slots = [];
  done = [];
  bases = pair_bases s.heap.objects t.heap.objects m;
}

pub pair_trees : (s t : Store) (m : List Pair) → HasEqualTrees (pair_world s t m)
pair_trees s t m = record { opens = refl; opened = λ n fs c. refl; fits = λ n fs c. refl }

module _ (os ps : List Object) where
  -- ---- nodes

  pub node_paired : (m : List Pair) (k j : ℕ) (a b : NodeId) → In (pair k j) m → (object_at os k).class ≡ class.Node a → (object_at ps j).class ≡ class.Node b
      → In (pair a.0 b.0) (pair_nodes os ps m)
  node_paired [] k j a b i one two = elim i [ ]
  node_paired (p ∷ m) k j a b here one two =
      member_left (pair a.0 b.0) (node_pair_of (object_at os k).class (object_at ps j).class) (pair_nodes os ps m) (rw (one, two) here)
  node_paired (p ∷ m) k j a b (there i) one two =
      member_right (pair a.0 b.0) (node_pair_of (object_at os p.one).class (object_at ps p.two).class) (pair_nodes os ps m) (node_paired m k j a b i one two)

  pub record AreNodes (m : List Pair) (a b : ℕ) : Type 0 where
    pub one : ℕ
    pub two : ℕ
    pub among : In (pair one two) m
    pub are : IsNodePair (object_at os one).class (object_at ps two).class a b

  pub are_nodes : (m : List Pair) (a b : ℕ) → In (pair a b) (pair_nodes os ps m) → AreNodes m a b
  are_nodes [] a b i = elim i [ ]
  are_nodes (p ∷ m) a b i =
      by (in_either (pair a b) (node_pair_of (object_at os p.one).class (object_at ps p.two).class) (pair_nodes os ps m) i) (λ more. are_nodes m a b more)
    where
      by : In (pair a b) (node_pair_of (object_at os p.one).class (object_at ps p.two).class) ⊎ In (pair a b) (pair_nodes os ps m)
          → (In (pair a b) (pair_nodes os ps m) → AreNodes m a b) → AreNodes (p ∷ m) a b
      by (inl first) later =
          record { one = p.one; two = p.two; among = here; are = node_pair_is (object_at os p.one).class (object_at ps p.two).class a b first }
      by (inr more) later = let h = later more in record { one = h.one; two = h.two; among = there h.among; are = h.are }

  -- ---- functions

  pub function_paired : (m : List Pair) (k j : ℕ) (source other : Code) (env round : Option EnvId) → In (pair k j) m
      → (object_at os k).class ≡ class.Page source env → (object_at ps j).class ≡ class.Page other round
      → In (record { one = env; two = round; frame = round_frame source }) (pair_bases os ps m)
  function_paired [] k j source other env round i one two = elim i [ ]
  function_paired (p ∷ m) k j source other env round here one two =
      member_left _ (base_of (object_at os k).class (object_at ps j).class) (pair_bases os ps m) (rw (one, two) here)
  function_paired (p ∷ m) k j source other env round (there i) one two =
      member_right _ (base_of (object_at os p.one).class (object_at ps p.two).class) (pair_bases os ps m)
      (function_paired m k j source other env round i one two)

  pub record AreFunctions (m : List Pair) (b : Base) : Type 0 where
    pub one : ℕ
    pub two : ℕ
    pub among : In (pair one two) m
    pub are : IsBase b (object_at os one).class (object_at ps two).class

  pub are_functions : (m : List Pair) (b : Base) → In b (pair_bases os ps m) → AreFunctions m b
  are_functions [] b i = elim i [ ]
  are_functions (p ∷ m) b i =
      by (in_either b (base_of (object_at os p.one).class (object_at ps p.two).class) (pair_bases os ps m) i) (λ more. are_functions m b more)
    where
      by : In b (base_of (object_at os p.one).class (object_at ps p.two).class) ⊎ In b (pair_bases os ps m)
          → (In b (pair_bases os ps m) → AreFunctions m b) → AreFunctions (p ∷ m) b
      by (inl first) later =
          record { one = p.one; two = p.two; among = here; are = base_is (object_at os p.one).class (object_at ps p.two).class b first }
      by (inr more) later = let h = later more in record { one = h.one; two = h.two; among = there h.among; are = h.are }
