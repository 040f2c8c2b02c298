-- What always holds of a host in memory, and how contracts see it.
use Rattle.std.specs.Prelude.{◌≡◌, ℕ, ◌<◌, ◌^◌, List, length}
use Rattle.js_values.specs.declared.ids.ObjId.{ObjId}
use Rattle.dom_tree.specs.Node.{Nodes}
use Rattle.timer_queue.specs.declared.timer.Live.{Live}
use Rattle.page_host.specs.declared.listener.Listener.{Listener}
use Rattle.page_host.specs.Host.{Host}

abbrev pub host_of : Nodes → List ObjId → List Listener → List Live → ℕ → Host
host_of t objects ls ts clock = record { nodes = t; objects = objects; listeners = ls; timers = ts; clock = clock }

-- each node has an object, and no moment that is added to the clock is too late
pub record IsKept (t : Nodes) (ats : List ObjId) (now : ℕ) : Type 0 where
  pub objects : length ats ≡ length t
  pub early : now < 2 ^ 60
