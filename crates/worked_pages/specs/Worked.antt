-- Of what worked scripts are made, and what is said of them: a page that is loaded with the script alone puts out the lines.
use Rattle.std.specs.Prelude.{◌≡◌, ℕ, List, [], ◌∷◌, Option, Some, None, codes}
use Rattle.js_core.specs.Tree as tree
use Rattle.js_core.specs.Tree.{stmts_of}
use Rattle.js_values.specs.declared.line.Line.{Line}
use Rattle.js_values.specs.declared.line.LineKind.TheVariants.{Log, Uncaught, Stopped}
use Rattle.js_values.specs.declared.ids.NodeId.{NodeId}
use Rattle.dom_tree.specs.declared.content.Kind.{Kind}
use Rattle.dom_tree.specs.declared.content.Kind.TheVariants.{Document, Element}
use Rattle.dom_tree.specs.Content.{new_content}
use Rattle.dom_tree.specs.Node.{Node, Nodes}
use Rattle.page_meaning.specs.Pages.{Page, load_of}

-- a script and its lines
abbrev pub Worked : Type 0
Worked = List tree.Stmt × List Line

abbrev pub logged : List ℕ → Line
logged t = record { kind = Log; text = t }

abbrev pub not_caught : List ℕ → Line
not_caught t = record { kind = Uncaught; text = t }

abbrev pub has_stopped : Line
has_stopped = record { kind = Stopped; text = [] }

-- the nodes of `<html><body></body><script></script></html>`
abbrev one : Kind → Option NodeId → List NodeId → Node
one k parent children = record { content = new_content k; parent = parent; children = children }

abbrev frame_nodes : Nodes
frame_nodes =
    one Document None (record { 0 = 1 } ∷ []) ∷ one (Element (codes "html")) (Some (record { 0 = 0 })) (record { 0 = 2 } ∷ record { 0 = 3 } ∷ [])
    ∷ one (Element (codes "body")) (Some (record { 0 = 1 })) [] ∷ one (Element (codes "script")) (Some (record { 0 = 1 })) [] ∷ []

abbrev pub framed : tree.Stmts → Page
framed body = record { nodes = frame_nodes; scripts = body ∷ [] }

abbrev pub PutOut : List Worked → Type 0
PutOut [] = Unit {0}
PutOut (w ∷ ws) = ((load_of (framed (stmts_of w.0))).lines ≡ w.1) × PutOut ws
