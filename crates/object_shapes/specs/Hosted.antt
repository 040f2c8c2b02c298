-- What holds of the host of a page between two things that are done to it.
use Rattle.std.specs.Prelude.{◌≡◌, ℕ, ◌<◌, Bool, true, false, not, List, [], Option, Some, None, is_some, length, IsTrue}
use Rattle.std.specs.List.{All, list_all}
use Rattle.js_values.specs.declared.ids.ObjId.{ObjId}
use Rattle.object_heap.specs.declared.object.Class.TheVariants.{Node}
use Rattle.object_heap.specs.declared.object.EventParts.{EventParts}
use Rattle.object_heap.specs.Object.{Object}
use Rattle.timer_queue.specs.declared.timer.Live.{Live}
use Rattle.timer_queue.specs.Timers.{IsIn}
use Rattle.page_host.specs.declared.listener.Listener.{Listener}
use Rattle.page_host.specs.Host.{document_of, object_of_node}
use Rattle.page_host.specs.Sound as host
use Rattle.page_meaning.specs.Classes.{class_at, is_callable_class, is_node_class}
use Rattle.page_meaning.specs.HostNames.{is_kept}
use Rattle.page_meaning.specs.Places.{document}
use Rattle.page_meaning.specs.Store.{Store}

-- ---- events

abbrev pub is_node_at : Store → ObjId → Bool
is_node_at s at = is_node_class s.host.nodes (class_at s at)

abbrev pub is_node_if : Store → Option ObjId → Bool
is_node_if s None = true
is_node_if s (Some at) = is_node_at s at

-- an event that is not initialised has no type and no marks; it is sent exactly where it has a target, which is a node's object, and then
-- it was initialised
pub record HasParts (s : Store) (e : EventParts) : Type 0 where
  pub fresh : e.begun ≡ false → (e.kind ≡ []) × (e.bubbles ≡ false) × (e.cancelable ≡ false)
  pub sent : e.sent ≡ is_some e.target
  pub begun : e.sent ≡ true → e.begun ≡ true
  pub target : is_node_if s e.target ≡ true
  pub current : is_node_if s e.current ≡ true
  pub phase : e.phase < 16

-- no own name of a node or an event is kept from it
abbrev pub has_no_kept : Store → Object → Bool
has_no_kept s o = list_all (λ p. not (is_kept s.host.nodes o.class p.0)) o.props

-- ---- listeners and timers

-- each calls a function
abbrev pub CallsFunctions : Store → List Listener → Type 0
CallsFunctions s ls = All (λ l. IsTrue (is_callable_class (class_at s l.call))) ls

abbrev pub CanBeCalled : Store → List Live → Type 0
CanBeCalled s ts = (t : Live) → IsIn ts t → IsTrue (is_callable_class (class_at s t.call))

-- ----

pub record IsHosted (s : Store) : Type 0 where
  -- nodes, listeners and timers for themselves
  pub sound : host.IsSound s.host
  -- each node has one object, and each object of a node is that of its node; that of the document stands after the built-in ones
  pub object_of : (k : ℕ) → k < length s.host.nodes → class_at s (object_of_node s.host.objects (record { 0 = k })) ≡ Node (record { 0 = k })
  pub node_of : (j k : ℕ) → class_at s (record { 0 = j }) ≡ Node (record { 0 = k }) → (k < length s.host.nodes) × (object_of_node s.host.objects (record { 0 = k }) ≡ record { 0 = j })
  pub document : document_of s.host.objects ≡ document
  pub heard : CallsFunctions s s.host.listeners
  pub calls : CanBeCalled s s.host.timers
