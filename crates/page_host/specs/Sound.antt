-- What holds of a host at all times.
use Rattle.std.specs.Prelude.{◌≡◌, ℕ, ◌<◌, Bool, true, false, not, List, [], ◌∷◌, length}
use Rattle.std.specs.List.{All, list_all}
use Rattle.js_values.specs.declared.ids.ObjId.{ObjId}
use Rattle.dom_tree.specs.declared.content.Content.{Content}
use Rattle.dom_tree.specs.declared.content.Kind.{Kind}
use Rattle.dom_tree.specs.Node.{Nodes, node_at}
use Rattle.dom_tree.specs.Sound as dom
use Rattle.timer_queue.specs.Laws.{HasDistinctIds}
use Rattle.timer_queue.specs.Timely.{AreTimely}
use Rattle.page_host.specs.declared.listener.Listener.{Listener}
use Rattle.page_host.specs.Host.{Host, new_host}
use Rattle.page_host.specs.HostNames.{is_handler}
use Rattle.page_host.specs.Listeners.{is_registered}
use Rattle.page_host.specs.Steps.{HostStep, after_host, time_limit, with_new_node}

-- no two of the listeners are the same
abbrev pub AreDistinct : List Listener → Type 0
AreDistinct [] = Unit {0}
AreDistinct (l ∷ ls) = (is_registered ls l ≡ false) × AreDistinct ls

pub record IsSound (h : Host) : Type 0 where
  pub nodes : dom.IsSound h.nodes
  -- each node has an object, and listeners are of nodes that are there
  pub objects : length h.objects ≡ length h.nodes
  pub inside : All (λ l. l.node.0 < length h.nodes) h.listeners
  pub distinct : AreDistinct h.listeners
  -- ids of timers are distinct, and times are not before the clock and of the language
  pub ids : HasDistinctIds h.timers
  pub timely : AreTimely time_limit h.clock h.timers

-- ---- the laws

-- a page that was read is sound, where its nodes are and have objects
abbrev pub NewHostsAreSound : Type 0
NewHostsAreSound = (t : Nodes) (objects : List ObjId) → dom.IsSound t → length objects ≡ length t → IsSound (new_host t objects)

-- whatever is done to a host, it stays sound
abbrev pub HostsStaySound : Type 0
HostsStaySound = (h : Host) (g : HostStep) → IsSound h → IsSound (after_host h g)

-- so it does where a node is made
abbrev pub NewNodesStaySound : Type 0
NewNodesStaySound = (h : Host) (k : Kind) (at : ObjId) → IsSound h → IsSound (with_new_node h k at)

-- ---- what pages that were read keep besides

-- no attribute's name begins with `on`
abbrev pub is_plain : Content → Bool
is_plain c = list_all (λ a. not (is_handler a.0)) c.attributes

abbrev pub ArePlain : Nodes → Type 0
ArePlain t = (k : ℕ) → is_plain (node_at t k).content ≡ true

abbrev pub StepsStayPlain : Type 0
StepsStayPlain = (h : Host) (g : HostStep) → ArePlain h.nodes → ArePlain (after_host h g).nodes

abbrev pub NewNodesStayPlain : Type 0
NewNodesStayPlain = (h : Host) (k : Kind) (at : ObjId) → ArePlain h.nodes → ArePlain (with_new_node h k at).nodes
