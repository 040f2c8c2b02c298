-- What rows do once the page was asked: what a change of nodes answered becomes a value or an error.
use Rattle.std.specs.Prelude.{◌<◌, Result, Ok, Err, length}
use Rattle.js_values.specs.declared.ids.NodeId.{NodeId}
use Rattle.js_values.specs.declared.value.Value.{Value}
use Rattle.dom_tree.specs.declared.fault.DomError.{DomError}
use Rattle.page_meaning.specs.Act.{Act, give}
use Rattle.page_meaning.specs.Errors.{raise}
use Rattle.page_meaning.specs.NodeRows.{dom_throw}
use Rattle.page_meaning.specs.Store.{Store}

-- the node is there
abbrev pub IsThere : Store → NodeId → Type 0
IsThere s k = k.0 < length s.host.nodes

-- the value, or the error
abbrev pub settle_nodes : Result (Unit {0}) DomError → Value → Act
settle_nodes (Ok done) v = give v
settle_nodes (Err e) v = raise (dom_throw e)
