-- Pages whose numbers and texts can be written, and what is done to a page so that it stays such.
use Rattle.std.specs.Prelude.{length, ◌≤◌, ⊤}
use Rattle.std.specs.List.{All}
use Rattle.page_host.specs.Host.{Host}
use Rattle.page_host.specs.Steps.{HostStep, in_nodes, listens}
use Rattle.page_host.specs.declared.listener.Listener.{Listener}
use Rattle.timer_queue.specs.Timers.{timer_limit}
use Rattle.page_meaning.specs.Events.{EventStep, initialises}
use Rattle.page_meaning.specs.Steps.{Step, in_heap, puts, defines, in_event, in_host, makes_node}
use Rattle.page_meaning.specs.Store.{Store}
use Rattle.literal_values.specs.Nodes.{LiteralKind, LiteralNodeStep, LiteralNodes}
use Rattle.literal_values.specs.Objects.{LiteralChange, LiteralHeap, LiteralHeapStep}
use Rattle.literal_values.specs.Values.{IsBounded, IsText}

abbrev pub LiteralListener : Listener → Type 0
LiteralListener l = IsText l.kind

pub record LiteralHost (h : Host) : Type 0 where
  pub nodes : LiteralNodes h.nodes
  pub listeners : All LiteralListener h.listeners
  -- so that each id is a number of the language
  pub timers : length h.timers ≤ timer_limit

pub record LiteralStore (s : Store) : Type 0 where
  pub heap : LiteralHeap s.heap
  pub host : LiteralHost s.host

abbrev pub LiteralHostStep : HostStep → Type 0
LiteralHostStep (in_nodes g) = LiteralNodeStep g
LiteralHostStep (listens l) = LiteralListener l
LiteralHostStep g = ⊤

abbrev pub LiteralEventStep : EventStep → Type 0
LiteralEventStep (initialises kind bubbles cancelable) = IsText kind
LiteralEventStep g = ⊤

abbrev pub LiteralStep : Step → Type 0
LiteralStep (in_heap g h) = LiteralHeapStep g
LiteralStep (puts at x v) = IsText x × IsBounded v
LiteralStep (defines at x change) = IsText x × LiteralChange change
LiteralStep (in_event at g) = LiteralEventStep g
LiteralStep (in_host g) = LiteralHostStep g
LiteralStep (makes_node k) = LiteralKind k
LiteralStep g = ⊤
