-- When what is done to the nodes of two pages is the same.
use Rattle.std.specs.Prelude.{Option}
use Rattle.js_core.specs.Text.{Text}
use Rattle.js_values.specs.declared.ids.NodeId.{NodeId}
use Rattle.dom_tree.specs.Steps.{NodeStep, drops_attribute, empties, inserts, replaces, sets_attribute, sets_text, sets_value, takes_out}
use Rattle.heap_relations.specs.Naming.{World}
use Rattle.heap_relations.specs.Related.{Maybe}
use Rattle.host_relations.specs.Linked.{Linked}
use Rattle.host_relations.specs.Nodes.{NodeIds}

pub data NodeStepRel (W : World) : NodeStep → NodeStep → Type 0 where
  inserts_rel : {p c q d : NodeId} {before after : Option NodeId} → Linked W p.0 q.0 → Linked W c.0 d.0 → Maybe (NodeIds (Linked W)) before after → NodeStepRel W (inserts p c before) (inserts q d after)
  replaces_rel : {p c o q d r : NodeId} → Linked W p.0 q.0 → Linked W c.0 d.0 → Linked W o.0 r.0 → NodeStepRel W (replaces p c o) (replaces q d r)
  takes_out_rel : {c d : NodeId} → Linked W c.0 d.0 → NodeStepRel W (takes_out c) (takes_out d)
  empties_rel : {c d : NodeId} → Linked W c.0 d.0 → NodeStepRel W (empties c) (empties d)
  sets_text_rel : {c d : NodeId} {x : Text} → Linked W c.0 d.0 → NodeStepRel W (sets_text c x) (sets_text d x)
  sets_value_rel : {c d : NodeId} {x : Text} → Linked W c.0 d.0 → NodeStepRel W (sets_value c x) (sets_value d x)
  sets_attribute_rel : {c d : NodeId} {name x : Text} → Linked W c.0 d.0 → NodeStepRel W (sets_attribute c name x) (sets_attribute d name x)
  drops_attribute_rel : {c d : NodeId} {name : Text} → Linked W c.0 d.0 → NodeStepRel W (drops_attribute c name) (drops_attribute d name)
