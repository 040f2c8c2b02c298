-- The statements that add listeners again: of each node in a list, each of its listeners in order.
use Rattle.std.specs.Prelude.{◌≡◌, ℕ, true, List, [], ◌∷◌}
use Rattle.js_values.specs.declared.ids.NodeId.{NodeId}
use Rattle.dom_tree.specs.Node.{has, is_distinct}
use Rattle.host_relations.specs.Hosts.{heard_at}
use Rattle.page_host.specs.declared.listener.Listener.{Listener}
use Rattle.page_host.specs.Listeners.{with_listener}
use Rattle.page_host.specs.Sound.{AreDistinct}

abbrev pub added : List Listener → List Listener → List Listener
added [] acc = acc
added (l ∷ ls) acc = added ls (with_listener acc l)

abbrev pub all_added : List Listener → List NodeId → List Listener → List Listener
all_added ls [] acc = acc
all_added ls (k ∷ ks) acc = all_added ls ks (added (heard_at k.0 ls) acc)

-- each node of the list has its listeners again, in order
abbrev pub ListenersAreRebuilt : Type 0
ListenersAreRebuilt = (ls : List Listener) (ks : List NodeId) → is_distinct ks ≡ true → AreDistinct ls → (j : ℕ) → has j ks ≡ true → heard_at j (all_added ls ks []) ≡ heard_at j ls
