-- What is written of a node where it is entered, and where it is left.
use Rattle.std.specs.Prelude.{[]}
use Rattle.js_core.specs.Text.{Text}
use Rattle.dom_tree.specs.declared.walk.Visit.{Visit}
use Rattle.dom_tree.specs.declared.walk.Visit.TheVariants.{Enter, Leave}
use Rattle.dom_tree.specs.DomText.{closing_of, opening_of, own_text}
use Rattle.dom_tree.specs.Node.{Nodes, node_at}

abbrev pub dom_piece : Nodes → Visit → Text
dom_piece t (Enter k) = opening_of (node_at t k.0)
dom_piece t (Leave k) = closing_of (node_at t k.0)

abbrev pub own_piece : Nodes → Visit → Text
own_piece t (Enter k) = own_text (node_at t k.0).content.kind
own_piece t (Leave k) = []
