-- What is done to a host, one thing after another. What does not fit changes nothing, so that whatever is done keeps a host sound.
use Rattle.std.specs.Prelude.{ℕ, Bool, true, ◌&&◌, not, Option, Some, None, length, is_none, nat_le, nat_lt, if◌then◌else◌}
use Rattle.js_values.specs.declared.ids.ObjId.{ObjId}
use Rattle.dom_tree.specs.declared.content.Kind.{Kind}
use Rattle.dom_tree.specs.Content.{new_content}
use Rattle.dom_tree.specs.Name.{folded}
use Rattle.dom_tree.specs.Node.{is_document, with_new}
use Rattle.dom_tree.specs.Sound.{has_folded_name}
use Rattle.dom_tree.specs.Steps.{NodeStep, after_node, is_there, sets_attribute}
use Rattle.timer_queue.specs.Timers.{after_first, cleared, clock_after, due_timers, first, started, timer_limit}
use Rattle.timer_queue.specs.declared.timer.Live.{Live}
use Rattle.page_host.specs.declared.listener.Listener.{Listener}
use Rattle.page_host.specs.Host.{Host, with_clock, with_listeners, with_node, with_nodes, with_timers}
use Rattle.page_host.specs.HostNames.{is_handler}
use Rattle.page_host.specs.Listeners.{with_listener, without_listener}

pub data HostStep : Type 0 where
  in_nodes : NodeStep → HostStep
  listens : Listener → HostStep
  forgets : Listener → HostStep
  -- the delay, the period if it has one, and the function
  starts : ℕ → Option ℕ → ObjId → HostStep
  clears : ℕ → HostStep
  -- the timer that is due first up to the moment comes due, if there is one
  fires : ℕ → HostStep
  -- time passes up to the moment
  clock_at : ℕ → HostStep

-- no number of the language is greater, and so no delay and no period. It does not unfold.
unfoldable pub time_limit : ℕ
time_limit = 9007199254740991

-- no attribute's name begins with `on`
abbrev pub may_be_set : NodeStep → Bool
may_be_set (sets_attribute k name x) = not (is_handler (folded name))
may_be_set g = true

-- a period is a number from 1 on
abbrev pub is_period : Option ℕ → Bool
is_period None = true
is_period (Some n) = nat_le 1 n && nat_le n time_limit

abbrev pub next_timer : Host → ℕ → Option Live
next_timer h moment = first (due_timers h.timers moment)

-- whether it fits: listeners are of nodes that are there; no more timers than may be live, with times of the language; the clock does not
-- go back, and passes no timer
abbrev pub is_fit : Host → HostStep → Bool
is_fit h (in_nodes g) = may_be_set g
is_fit h (listens l) = is_there h.nodes l.node
is_fit h (forgets l) = true
is_fit h (starts delay period f) = nat_lt (length h.timers) timer_limit && nat_le delay time_limit && is_period period
is_fit h (clears id) = true
is_fit h (fires moment) = true
is_fit h (clock_at moment) = nat_le h.clock moment && is_none (next_timer h moment)

-- the timer is taken, and the clock becomes its due time, where that is later
abbrev pub after_firing : Host → Option Live → Host
after_firing h t = with_clock (with_timers h (after_first h.timers t)) (clock_after h.clock t)

abbrev pub after_fit : Host → HostStep → Host
after_fit h (in_nodes g) = with_nodes h (after_node h.nodes g)
after_fit h (listens l) = with_listeners h (with_listener h.listeners l)
after_fit h (forgets l) = with_listeners h (without_listener h.listeners l)
after_fit h (starts delay period f) = with_timers h (started h.timers h.clock delay period f)
after_fit h (clears id) = with_timers h (cleared h.timers id)
after_fit h (fires moment) = after_firing h (next_timer h moment)
after_fit h (clock_at moment) = with_clock h moment

abbrev pub after_host : Host → HostStep → Host
after_host h g = if is_fit h g then after_fit h g else h

-- a new node is no document, and the name of an element is folded
abbrev pub may_be_made : Kind → Bool
may_be_made k = has_folded_name k && not (is_document k)

-- one more node of the kind, alone, with this object
abbrev pub with_new_node : Host → Kind → ObjId → Host
with_new_node h k at = if may_be_made k then with_node h (with_new h.nodes (new_content k)) at else h
