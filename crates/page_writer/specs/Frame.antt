-- The nodes that a saved page is read with, before its script runs: the document, with `html` in it, and in that a `script`.
use Rattle.std.specs.Prelude.{ℕ, List, [], ◌∷◌, Option, Some, None, codes}
use Rattle.js_values.specs.declared.ids.NodeId.{NodeId}
use Rattle.dom_tree.specs.Content.{new_content}
use Rattle.dom_tree.specs.Node.{Node, Nodes}
use Rattle.dom_tree.specs.declared.content.Kind.{Kind}
use Rattle.dom_tree.specs.declared.content.Kind.TheVariants.{Document, Element}
use Rattle.page_host.specs.Host.{Host, new_host}
use Rattle.page_meaning.specs.Places.{built_in_count}
use Rattle.page_meaning.specs.Pristine.{places_from}

abbrev pub nth_node : ℕ → NodeId
nth_node k = record { 0 = k }

-- one without attributes, text or value
abbrev pub bare_node : Kind → Option NodeId → List NodeId → Node
bare_node kind parent children = record { content = new_content kind; parent = parent; children = children }

abbrev pub frame_nodes : Nodes
frame_nodes =
    bare_node Document None (nth_node 1 ∷ [])
    ∷ bare_node (Element (codes "html")) (Some (nth_node 0)) (nth_node 2 ∷ [])
    ∷ bare_node (Element (codes "script")) (Some (nth_node 1)) [] ∷ []

-- these nodes with the objects that they begin with, and neither listeners nor timers
abbrev pub frame_host : Host
frame_host = new_host frame_nodes (places_from built_in_count frame_nodes)
