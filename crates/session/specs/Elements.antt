-- The element of a host event.
use Rattle.std.specs.Prelude.{◌≡◌, [], Option, Some, None}
use Rattle.js_core.specs.Text.{Text}
use Rattle.js_values.specs.declared.ids.NodeId.{NodeId}
use Rattle.js_values.specs.declared.line.LineKind.TheVariants.{NoElement}
use Rattle.dom_tree.specs.Trees.{find_id}
use Rattle.page_meaning.specs.Store.{Store, with_line}

-- it is there, and nothing changes; or a line tells that there is none
abbrev pub IsElement : Text → Store → Option NodeId → Store → Type 0
IsElement x s (Some k) t = (find_id s.host.nodes x ≡ Some k) × (t ≡ s)
IsElement x s None t = (find_id s.host.nodes x ≡ None) × (t ≡ with_line NoElement [] s)
