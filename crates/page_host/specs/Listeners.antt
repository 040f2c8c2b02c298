-- Listeners in the order in which they were added (DOM Level 2 Events, section 1.3, interface EventTarget).
use Rattle.std.specs.Prelude.{Bool, ◌&&◌, not, List, [], ◌∷◌, ◌++◌, filter, bytes_eq, nat_eq, if◌then◌else◌}
use Rattle.std.specs.List.{list_any}
use Rattle.js_core.specs.Text.{Text}
use Rattle.page_host.specs.declared.listener.Listener.{Listener}
use Rattle.page_host.specs.declared.path.Phase.{Phase}
use Rattle.page_host.specs.declared.path.Phase.TheVariants.{Capturing, AtTarget, Bubbling}
use Rattle.page_host.specs.declared.path.Place.{Place}

-- whether both are set, or neither
abbrev pub same_mark : Bool → Bool → Bool
same_mark a b = if a then b else not b

-- a registration is its node, type, function and whether it captures
abbrev pub is_same_listener : Listener → Listener → Bool
is_same_listener l m = nat_eq l.node.0 m.node.0 && nat_eq l.call.0 m.call.0 && same_mark l.capture m.capture && bytes_eq l.kind m.kind

abbrev pub is_registered : List Listener → Listener → Bool
is_registered ls l = list_any (is_same_listener l) ls

-- the same listener again changes nothing
abbrev pub with_listener : List Listener → Listener → List Listener
with_listener ls l = if is_registered ls l then ls else ls ++ l ∷ []

abbrev pub without_listener : List Listener → Listener → List Listener
without_listener ls l = filter (λ m. not (is_same_listener l m)) ls

-- those that capture are taken on the way down, and the others at the target and on the way up (section 1.2)
abbrev pub is_taken_in : Phase → Bool → Bool
is_taken_in Capturing capture = capture
is_taken_in AtTarget capture = not capture
is_taken_in Bubbling capture = not capture

abbrev pub takes : Text → Place → Listener → Bool
takes kind p l = nat_eq l.node.0 p.node.0 && bytes_eq l.kind kind && is_taken_in p.phase l.capture

-- the listeners that a place of the path takes for an event of the type, in the order in which they were added
abbrev pub round : List Listener → Text → Place → List Listener
round ls kind p = filter (takes kind p) ls
