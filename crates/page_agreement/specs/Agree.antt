-- When two pages at rest agree: each thing that the one reaches stands for one that the other reaches, and what is told of both is the same.
use Rattle.std.specs.Prelude.{◌≡◌, ℕ, ◌<◌, ◌-◌, Bool, true, not, ◌&&◌, List, [], ◌∷◌, Option, length, IsTrue}
use Rattle.dom_tree.specs.Node.{node_at}
use Rattle.heap_relations.specs.Naming.{In, Pair, pair}
use Rattle.heap_relations.specs.Related.{Each, Entries, Links, ObjectRel, ValueRel}
use Rattle.heap_walker.specs.Things.{Reach, heard_at, is_in, needs_of}
use Rattle.host_relations.specs.Nodes.{NodeRel}
use Rattle.js_core.specs.Tree.{Code}
use Rattle.js_values.specs.declared.ids.EnvId.{EnvId}
use Rattle.object_heap.specs.Chain.{object_at}
use Rattle.object_heap.specs.declared.object.Class.TheVariants.{Page}
use Rattle.page_host.specs.Host.{object_of_node}
use Rattle.page_host.specs.declared.listener.Listener.{Listener}
use Rattle.page_meaning.specs.Store.{Store}
use Rattle.rebuild_plan.specs.Moved.{first_thing}
pub use Rattle.rebuilding.specs.Sites.{pairs}
use Rattle.timer_queue.specs.declared.timer.Live.{Live}

-- ---- what stands for what

-- things of the one page, each with one of the other
abbrev pub firsts : List Pair → List ℕ
firsts [] = []
firsts (p ∷ m) = p.one ∷ firsts m

abbrev pub seconds : List Pair → List ℕ
seconds [] = []
seconds (p ∷ m) = p.two ∷ seconds m

-- none is twice in the list
abbrev pub is_once : List ℕ → Bool
is_once [] = true
is_once (k ∷ ks) = not (is_in k ks) && is_once ks

-- each thing that the page reaches once, in any order
pub record AreReached (s : Store) (ks : List ℕ) : Type 0 where
  pub once : IsTrue (is_once ks)
  pub sound : (k : ℕ) → IsTrue (is_in k ks) → Reach s k
  pub complete : (k : ℕ) → Reach s k → IsTrue (is_in k ks)

-- built-in objects, the global object and the document's, which have the first places, stand for themselves; a thing stands for the one that it is paired with
pub data Corresponds (m : List Pair) (a b : ℕ) : Type 0 where
  built_in : a ≡ b → a < first_thing → Corresponds m a b
  thing : In (pair a b) m → Corresponds m a b

-- nodes correspond where their objects do
pub record NodesCorrespond (m : List Pair) (s t : Store) (a b : ℕ) : Type 0 where
  pub one : a < length s.host.nodes
  pub two : b < length t.host.nodes
  pub objects : Corresponds m (object_of_node s.host.objects (record { 0 = a })).0 (object_of_node t.host.objects (record { 0 = b })).0

-- functions of pages, whose needed variables are told of below, where their code is the same
abbrev pub links_by : List Pair → Store → Store → Links
links_by m s t = record { object = Corresponds m; node = NodesCorrespond m s t; function = λ c e d f. c ≡ d }

-- a listener of a node, and one of a corresponding node
pub record ListenersCorrespond (m : List Pair) (l k : Listener) : Type 0 where
  pub kind : l.kind ≡ k.kind
  pub call : Corresponds m l.call.0 k.call.0
  pub capture : l.capture ≡ k.capture

-- timers, of which the same time is left
pub record TimersCorrespond (m : List Pair) (s t : Store) (x y : Live) : Type 0 where
  pub id : x.id ≡ y.id
  pub rest : x.due - s.host.clock ≡ y.due - t.host.clock
  pub period : x.period ≡ y.period
  pub call : Corresponds m x.call.0 y.call.0

-- ---- the pages

pub record Agree (m : List Pair) (s t : Store) : Type 0 where
  -- the things of either side are those that its page reaches, none twice
  pub left : AreReached s (firsts m)
  pub right : AreReached t (seconds m)
  -- corresponding objects have the same class and extensible mark, corresponding prototypes, and the same list of names and attributes with corresponding
  -- values: equal primitives or corresponding objects. The classes of functions have their code, and bound parts and those of events, which correspond. So have
  -- the two documents and the two global objects
  pub objects : (a b : ℕ) → Corresponds m a b → ObjectRel (links_by m s t) (object_at s.heap.objects a) (object_at t.heap.objects b)
  -- each variable that such a function needs from round it has corresponding values
  pub needs : (a b : ℕ) → Corresponds m a b → (c d : Code) (e f : Option EnvId) → (object_at s.heap.objects a).class ≡ Page c e
      → (object_at t.heap.objects b).class ≡ Page d f → Entries (ValueRel (links_by m s t)) (needs_of s e c) (needs_of t f d)
  -- corresponding nodes have the same type, name, text, attributes in order and set value, corresponding parents and children in order, and the same listeners
  -- in order, of corresponding functions
  pub nodes : (a b : ℕ) → NodesCorrespond m s t a b → NodeRel (NodesCorrespond m s t) (node_at s.host.nodes a) (node_at t.host.nodes b)
  pub listeners : (a b : ℕ) → NodesCorrespond m s t a b
      → Each (ListenersCorrespond m) (heard_at a s.host.listeners) (heard_at b t.host.listeners)
  -- live timers have the same ids, starting order, periods and remaining times, and corresponding functions
  pub timers : Each (TimersCorrespond m s t) s.host.timers t.host.timers
