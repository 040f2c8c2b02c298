-- New elements and timers.
use Rattle.std.specs.Prelude.{◌≡◌, ℕ, List, Option, Some, None, length, nat_le, true, false}
use Rattle.js_values.specs.declared.ids.ObjId.{ObjId}
use Rattle.dom_tree.specs.declared.content.Kind.TheVariants.{Element}
use Rattle.dom_tree.specs.Name.{folded, is_name}
use Rattle.timer_queue.specs.Timers.{least_free, timer_limit}
use Rattle.page_host.specs.Steps.{starts}
use Rattle.page_meaning.specs.Primitives.{changes_host, make_node}
use Rattle.page_meaning.specs.Store.{Store}
use Rattle.page_state.specs.Does.{Does}

-- one is made of a name, and nothing is done where it is none
abbrev pub IsElementMade : List ℕ → Store → Option ObjId → Store → Type 0
IsElementMade x s None t = (is_name x ≡ false) × (t ≡ s)
IsElementMade x s (Some at) t = (is_name x ≡ true) × Does (λ _. make_node (Element (folded x))) s at t

-- a timer is started and this is its id; none where as many are live as may be
abbrev pub IsStarted : ℕ → Option ℕ → ObjId → Store → Option ℕ → Store → Type 0
IsStarted delay period f s None t = (nat_le timer_limit (length s.host.timers) ≡ true) × (t ≡ s)
IsStarted delay period f s (Some id) t =
    (nat_le timer_limit (length s.host.timers) ≡ false) × ((id ≡ least_free s.host.timers) × Does (λ _. changes_host (starts delay period f)) s tt t)
