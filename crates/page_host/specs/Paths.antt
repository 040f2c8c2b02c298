-- The way of an event through the nodes (DOM Level 2 Events, section 1.2).
use Rattle.std.specs.Prelude.{ℕ, Bool, List, [], ◌∷◌, ◌++◌, map, reverse, if◌then◌else◌}
use Rattle.js_values.specs.declared.ids.NodeId.{NodeId}
use Rattle.dom_tree.specs.Node.{Nodes, nodes_above}
use Rattle.page_host.specs.declared.path.Phase.{Phase}
use Rattle.page_host.specs.declared.path.Phase.TheVariants.{Capturing, AtTarget, Bubbling}
use Rattle.page_host.specs.declared.path.Place.{Place}

-- the number of the phase (section 1.4, interface Event)
abbrev pub phase_number : Phase → ℕ
phase_number Capturing = 1
phase_number AtTarget = 2
phase_number Bubbling = 3

abbrev pub in_phase : Phase → NodeId → Place
in_phase phase k = record { node = k; phase = phase }

-- down from the root of the target's tree, then the target, and up again where the event bubbles
abbrev pub path_over : List NodeId → NodeId → Bool → List Place
path_over above k bubbles = map (in_phase Capturing) (reverse above) ++ in_phase AtTarget k ∷ (if bubbles then map (in_phase Bubbling) above else [])

abbrev pub event_path : Nodes → NodeId → Bool → List Place
event_path t k bubbles = path_over (nodes_above t k) k bubbles
