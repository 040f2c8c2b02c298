-- The naming of a page that was saved and the one that was rebuilt: what a page begins with names itself, and each thing the object at its site.
use Rattle.std.proofs.Common.{◌≡◌, ◌⊎◌, inl, inr, refl, sym, ap, subst, ◌∙◌, ℕ, zero, suc, ◌<◌, ◌≤◌, Bool, true, false, nat_eq, List, [], ◌∷◌, ◌++◌, Option, length, arith}
use Rattle.std.proofs.lemmas.Bool.{cases_eq, cases_lt, eq-eqb, ne_eqb}
use Rattle.std.proofs.lemmas.Bool.Decides.{nat_tests}
use Rattle.std.proofs.lemmas.List.Kept.{AllPairs-from_increasing}
use Rattle.std.specs.List.Sorted.{IsStrictlyIncreasing}
use Rattle.js_core.specs.Tree.{Code}
use Rattle.js_values.specs.declared.ids.EnvId.{EnvId}
use Rattle.js_values.specs.declared.ids.NodeId.{NodeId}
use Rattle.object_heap.specs.Chain.{object_at}
use Rattle.object_heap.specs.Heap.{Contents}
use Rattle.object_heap.specs.Object.{Object}
use Rattle.object_heap.specs.declared.object.Class.{Class}
use Rattle.object_heap.specs.declared.object.Class.TheVariants as class
use Rattle.page_meaning.specs.Store.{Store}
use Rattle.heap_relations.specs.Naming.{Base, here, In, Pair, pair, there, World}
use Rattle.agreement.specs.Trees.{code_fits, HasEqualTrees}
use Rattle.heap_walker.specs.Things.{is_in}
use Rattle.rebuild_plan.specs.Compact.{place_of}
use Rattle.rebuild_plan.specs.Moved.{first_thing}
use Rattle.rebuilding.specs.Frames.{round_frame}
use Rattle.rebuilding.specs.Rebuilt.{nth}
use Rattle.rebuilding.specs.Sites.{pairs, site}
use Rattle.rebuilding.proofs.Placed.{AreYoung, number_at, place_low, site_low, site_thing}
use Rattle.page_meaning.specs.Places.{document}

-- ---- the world

-- each place below this one names itself
abbrev pub same_below : ℕ → List Pair
same_below zero = []
same_below (suc n) = pair n n ∷ same_below n

abbrev pub base_with : Code → Option EnvId → Class → List Base
base_with source env (class.Page other round) = record { one = env; two = round; frame = round_frame source } ∷ []
base_with source env c = []

-- the environments round the functions of these classes
abbrev pub base_of : Class → Class → List Base
base_of (class.Page source env) d = base_with source env d
base_of c d = []

abbrev pub bases_of : List Object → List Object → List ℕ → List ℕ → List Base
bases_of os ps [] js = []
bases_of os ps (k ∷ ks) [] = []
bases_of os ps (k ∷ ks) (j ∷ js) = base_of (object_at os k).class (object_at ps j).class ++ bases_of os ps ks js

abbrev pub node_pair_with : ℕ → Class → List Pair
node_pair_with a (class.Node b) = pair a b.0 ∷ []
node_pair_with a c = []

-- the nodes of these classes
abbrev pub node_pair_of : Class → Class → List Pair
node_pair_of (class.Node a) d = node_pair_with a.0 d
node_pair_of c d = []

abbrev pub node_pairs : List Object → List Object → List ℕ → List ℕ → List Pair
node_pairs os ps [] js = []
node_pairs os ps (k ∷ ks) [] = []
node_pairs os ps (k ∷ ks) (j ∷ js) = node_pair_of (object_at os k).class (object_at ps j).class ++ node_pairs os ps ks js

abbrev pub rebuilt_world : Store → Contents → List ℕ → List ℕ → World
rebuilt_world s h things sites = record {
  opens = false;
  opened = λ n fs c. c;
  fits = λ n. code_fits;
  before = record { one = s.lines; two = []; one_clock = s.host.clock; two_clock = 0 };
  objects = same_below first_thing ++ pairs things sites;
  nodes = node_pairs s.heap.objects h.objects (document.0 ∷ things) (document.0 ∷ sites);
  slots = [];
  done = [];
  bases = bases_of s.heap.objects h.objects things sites;
}

pub rebuilt_trees : (s : Store) (h : Contents) (things sites : List ℕ) → HasEqualTrees (rebuilt_world s h things sites)
rebuilt_trees s h things sites = record { opens = refl; opened = λ n fs c. refl; fits = λ n fs c. refl }

-- ---- what is in lists

module _ {A : Type 0} (x : A) where
  pub in_left : (xs ys : List A) → In x xs → In x (xs ++ ys)
  in_left xs ys here = here
  in_left (y ∷ xs) ys (there i) = there (in_left xs ys i)

  pub in_right : (xs ys : List A) → In x ys → In x (xs ++ ys)
  in_right [] ys i = i
  in_right (y ∷ xs) ys i = there (in_right xs ys i)

  pub in_either : (xs ys : List A) → In x (xs ++ ys) → In x xs ⊎ In x ys
  in_either [] ys i = inr i
  in_either (y ∷ xs) ys here = inl here
  in_either (y ∷ xs) ys (there i) = further (in_either xs ys i)
    where
      further : In x xs ⊎ In x ys → In x (y ∷ xs) ⊎ In x ys
      further (inl j) = inl (there j)
      further (inr j) = inr j

-- ---- pairs

pub record IsSame (n a b : ℕ) : Type 0 where
  pub same : a ≡ b
  pub below : a < n

pub is_same : (n a b : ℕ) → In (pair a b) (same_below n) → IsSame n a b
is_same zero a b i = elim i [ ]
is_same (suc n) a b here = record { same = refl; below = omega arith }
is_same (suc n) a b (there i) = let h = is_same n a b i in record { same = h.same; below = omega (arith, h.below) }

pub below_named : (n k : ℕ) → k < n → In (pair k k) (same_below n)
below_named zero k h = absurd (omega arith)
below_named (suc n) k h = by_case (nat_eq k n) refl (λ below. below_named n k below)
  where
    by_case : (b : Bool) → nat_eq k n ≡ b → (k < n → In (pair k k) (same_below n)) → In (pair k k) (pair n n ∷ same_below n)
    by_case true e up = let same : n ≡ k = grind (arith, nat_tests) in subst (λ m. In (pair k k) (pair m m ∷ same_below n)) (sym same) here
    by_case false e up = there (up (grind (arith, nat_tests)))

-- two objects are those of one thing
pub record ArePlaced (ks js : List ℕ) (a b : ℕ) : Type 0 where
  pub place : ℕ
  pub below : place < length ks
  pub one : a ≡ nth ks place
  pub two : b ≡ nth js place

pair_at : (ks js : List ℕ) (a b : ℕ) → In (pair a b) (pairs ks js) → ArePlaced ks js a b
pair_at [] js a b i = elim i [ ]
pair_at (k ∷ ks) [] a b i = elim i [ ]
pair_at (k ∷ ks) (j ∷ js) a b here = record { place = 0; below = omega arith; one = refl; two = refl }
pair_at (k ∷ ks) (j ∷ js) a b (there i) =
    let h = pair_at ks js a b i in
    record { place = suc h.place; below = omega (arith, h.below); one = h.one; two = h.two }

pub paired : (ks js : List ℕ) (n : ℕ) → n < length ks → length js ≡ length ks → In (pair (nth ks n) (nth js n)) (pairs ks js)
paired [] js n below same = absurd (omega (arith, below))
paired (k ∷ ks) [] n below same = absurd (omega (arith, same))
paired (k ∷ ks) (j ∷ js) zero below same = here
paired (k ∷ ks) (j ∷ js) (suc n) below same = there (paired ks js n (omega (arith, below)) (omega (arith, same)))

-- ---- bases

-- the base is round the functions of these classes
pub record IsBase (b : Base) (c d : Class) : Type 0 where
  pub source : Code
  pub other : Code
  pub env : Option EnvId
  pub round : Option EnvId
  pub one : c ≡ class.Page source env
  pub two : d ≡ class.Page other round
  pub is : b ≡ record { one = env; two = round; frame = round_frame source }

base_is_with : (source : Code) (env : Option EnvId) (d : Class) (b : Base) → In b (base_with source env d) → IsBase b (class.Page source env) d
base_is_with source env (class.Page other round) b here =
    record { source = source; other = other; env = env; round = round; one = refl; two = refl; is = refl }
base_is_with source env (class.Page other round) b (there i) = elim i [ ]
base_is_with source env d b i = elim i [ ]

pub base_is : (c d : Class) (b : Base) → In b (base_of c d) → IsBase b c d
base_is (class.Page source env) d b i = base_is_with source env d b i
base_is c d b i = elim i [ ]

pub record IsBaseAt (os ps : List Object) (ks js : List ℕ) (b : Base) : Type 0 where
  pub place : ℕ
  pub below : place < length ks
  pub is : IsBase b (object_at os (nth ks place)).class (object_at ps (nth js place)).class

pub base_at : (os ps : List Object) (ks js : List ℕ) (b : Base) → In b (bases_of os ps ks js) → IsBaseAt os ps ks js b
base_at os ps [] js b i = elim i [ ]
base_at os ps (k ∷ ks) [] b i = elim i [ ]
base_at os ps (k ∷ ks) (j ∷ js) b i =
    by (in_either b (base_of (object_at os k).class (object_at ps j).class) (bases_of os ps ks js) i) (λ more. base_at os ps ks js b more)
  where
    by : In b (base_of (object_at os k).class (object_at ps j).class) ⊎ In b (bases_of os ps ks js)
        → (In b (bases_of os ps ks js) → IsBaseAt os ps ks js b) → IsBaseAt os ps (k ∷ ks) (j ∷ js) b
    by (inl first) later = record { place = 0; below = omega arith; is = base_is (object_at os k).class (object_at ps j).class b first }
    by (inr more) later = let h = later more in record { place = suc h.place; below = omega (arith, h.below); is = h.is }

pub based_at : (os ps : List Object) (ks js : List ℕ) (n : ℕ) → n < length ks → length js ≡ length ks
    → (source other : Code) (env round : Option EnvId) → (object_at os (nth ks n)).class ≡ class.Page source env
    → (object_at ps (nth js n)).class ≡ class.Page other round
    → In (record { one = env; two = round; frame = round_frame source }) (bases_of os ps ks js)
based_at os ps [] js n below same source other env round one two = absurd (omega (arith, below))
based_at os ps (k ∷ ks) [] n below same source other env round one two = absurd (omega (arith, same))
based_at os ps (k ∷ ks) (j ∷ js) zero below same source other env round one two =
    in_left _ (base_of (object_at os k).class (object_at ps j).class) (bases_of os ps ks js) (rw (one, two) here)
based_at os ps (k ∷ ks) (j ∷ js) (suc n) below same source other env round one two =
    in_right _ (base_of (object_at os k).class (object_at ps j).class) (bases_of os ps ks js)
    (based_at os ps ks js n (omega (arith, below)) (omega (arith, same)) source other env round one two)

-- ---- nodes

-- the nodes are those of objects of these classes
pub record IsNodePair (c d : Class) (a b : ℕ) : Type 0 where
  pub one : c ≡ class.Node (record { 0 = a })
  pub two : d ≡ class.Node (record { 0 = b })

node_pair_is_with : (k : NodeId) (d : Class) (a b : ℕ) → In (pair a b) (node_pair_with k.0 d) → IsNodePair (class.Node k) d a b
node_pair_is_with k (class.Node j) a b here = record { one = refl; two = refl }
node_pair_is_with k (class.Node j) a b (there i) = elim i [ ]
node_pair_is_with k d a b i = elim i [ ]

pub node_pair_is : (c d : Class) (a b : ℕ) → In (pair a b) (node_pair_of c d) → IsNodePair c d a b
node_pair_is (class.Node k) d a b i = node_pair_is_with k d a b i
node_pair_is c d a b i = elim i [ ]

pub record IsNodePairAt (os ps : List Object) (ks js : List ℕ) (a b : ℕ) : Type 0 where
  pub place : ℕ
  pub below : place < length ks
  pub is : IsNodePair (object_at os (nth ks place)).class (object_at ps (nth js place)).class a b

pub node_pair_at : (os ps : List Object) (ks js : List ℕ) (a b : ℕ) → In (pair a b) (node_pairs os ps ks js) → IsNodePairAt os ps ks js a b
node_pair_at os ps [] js a b i = elim i [ ]
node_pair_at os ps (k ∷ ks) [] a b i = elim i [ ]
node_pair_at os ps (k ∷ ks) (j ∷ js) a b i =
    by (in_either (pair a b) (node_pair_of (object_at os k).class (object_at ps j).class) (node_pairs os ps ks js) i) (λ more. node_pair_at os ps ks js a b more)
  where
    by : In (pair a b) (node_pair_of (object_at os k).class (object_at ps j).class) ⊎ In (pair a b) (node_pairs os ps ks js)
        → (In (pair a b) (node_pairs os ps ks js) → IsNodePairAt os ps ks js a b) → IsNodePairAt os ps (k ∷ ks) (j ∷ js) a b
    by (inl first) later = record { place = 0; below = omega arith; is = node_pair_is (object_at os k).class (object_at ps j).class a b first }
    by (inr more) later = let h = later more in record { place = suc h.place; below = omega (arith, h.below); is = h.is }

pub nodes_paired : (os ps : List Object) (ks js : List ℕ) (n : ℕ) → n < length ks → length js ≡ length ks → (a b : NodeId)
    → (object_at os (nth ks n)).class ≡ class.Node a → (object_at ps (nth js n)).class ≡ class.Node b → In (pair a.0 b.0) (node_pairs os ps ks js)
nodes_paired os ps [] js n below same a b one two = absurd (omega (arith, below))
nodes_paired os ps (k ∷ ks) [] n below same a b one two = absurd (omega (arith, same))
nodes_paired os ps (k ∷ ks) (j ∷ js) zero below same a b one two =
    in_left _ (node_pair_of (object_at os k).class (object_at ps j).class) (node_pairs os ps ks js) (rw (one, two) here)
nodes_paired os ps (k ∷ ks) (j ∷ js) (suc n) below same a b one two =
    in_right _ (node_pair_of (object_at os k).class (object_at ps j).class) (node_pairs os ps ks js)
    (nodes_paired os ps ks js n (omega (arith, below)) (omega (arith, same)) a b one two)

-- ---- places

pub differ : (a b c d : ℕ) → (a ≡ b → ⊥) → (c ≡ d → ⊥) → nat_eq a b ≡ nat_eq c d
differ a b c d far away = ne_eqb a b far ∙ sym (ne_eqb c d away)

-- numbers that rise are the same only at the same place
pub rising_places : (ks : List ℕ) (m n : ℕ) → IsStrictlyIncreasing ks → m < length ks → n < length ks → nat_eq (nth ks m) (nth ks n) ≡ nat_eq m n
rising_places ks m n rises one two = by (cases_lt m n) (cases_eq m n)
  where
    apart : (i j : ℕ) → i < j → j < length ks → nth ks i < nth ks j
    apart i j before inside = AllPairs-from_increasing ks rises i j 0 before inside

    by : (m < n) ⊎ (n ≤ m) → (m ≡ n) ⊎ (m ≡ n → ⊥) → nat_eq (nth ks m) (nth ks n) ≡ nat_eq m n
    by order (inl same) = subst (λ k. nat_eq (nth ks m) (nth ks k) ≡ nat_eq m k) same (eq-eqb (nth ks m) (nth ks m) refl ∙ sym (eq-eqb m m refl))
    by (inl before) (inr other) = differ (nth ks m) (nth ks n) m n (λ e. absurd (omega (arith, apart m n before two, e))) other
    by (inr after) (inr other) = differ (nth ks m) (nth ks n) m n (λ e. absurd (omega (arith, apart n m (omega (arith, after, other)) one, e))) other

-- where a thing stands
pub record IsThingAt (things sites : List ℕ) (k : ℕ) : Type 0 where
  pub place : ℕ
  pub below : place < length things
  pub one : k ≡ nth things place
  pub two : site sites (place_of things k) ≡ nth sites place

pub thing_at : (things sites : List ℕ) (k : ℕ) → is_in k things ≡ true → IsThingAt things sites k
thing_at things sites k found =
    let m = number_at things k found in
    record { place = m.0; below = m.2; one = sym m.3; two = ap (site sites) m.1 ∙ site_thing sites m.0 }

-- what is built in stands where it stood, and so does the document
pub site_of_built_in : (things sites : List ℕ) (k : ℕ) → k < first_thing → AreYoung things → site sites (place_of things k) ≡ k
site_of_built_in things sites k low young = ap (site sites) (place_low things k young low) ∙ site_low sites k low

-- ---- what the world names

pub data IsPair (things sites : List ℕ) (a b : ℕ) : Type 0 where
  built_in : a ≡ b → a < first_thing → IsPair things sites a b
  thing : ArePlaced things sites a b → IsPair things sites a b

module _ (things sites : List ℕ) where
  pub pair_is : (a b : ℕ) → In (pair a b) (same_below first_thing ++ pairs things sites) → IsPair things sites a b
  pair_is a b i = by (in_either (pair a b) (same_below first_thing) (pairs things sites) i)
    where
      by : In (pair a b) (same_below first_thing) ⊎ In (pair a b) (pairs things sites) → IsPair things sites a b
      by (inl j) = let h = is_same first_thing a b j in built_in h.same h.below
      by (inr j) = thing (pair_at things sites a b j)

  pub built_in_paired : (k : ℕ) → k < first_thing → In (pair k k) (same_below first_thing ++ pairs things sites)
  built_in_paired k low = in_left (pair k k) (same_below first_thing) (pairs things sites) (below_named first_thing k low)

  pub thing_paired : length sites ≡ length things → (n : ℕ) → n < length things
      → In (pair (nth things n) (nth sites n)) (same_below first_thing ++ pairs things sites)
  thing_paired same n below =
      in_right (pair (nth things n) (nth sites n)) (same_below first_thing) (pairs things sites) (paired things sites n below same)
