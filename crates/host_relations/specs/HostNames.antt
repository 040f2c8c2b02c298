-- What linked nodes read at host names.
use Rattle.std.specs.Prelude.{◌≡◌, Result, Ok, Err}
use Rattle.js_values.specs.declared.ids.NodeId.{NodeId}
use Rattle.js_values.specs.declared.throw.Throw.{Throw}
use Rattle.js_values.specs.declared.value.Value.{Value}
use Rattle.page_host.specs.declared.host_name.HostName.{HostName}
use Rattle.page_host.specs.Host.{Host}
use Rattle.page_host.specs.HostNames.{has_at_node, node_reads}
use Rattle.heap_relations.specs.Naming.{World, named}
use Rattle.heap_relations.specs.Related.{ValueRel}
use Rattle.host_relations.specs.Hosts.{HostRel}
use Rattle.host_relations.specs.Linked.{Linked}
use Rattle.host_relations.specs.Timers.{Clocks}

-- what is read is related, or the same is thrown
pub data ReadRel (W : World) : Result Value Throw → Result Value Throw → Type 0 where
  reads : {v w : Value} → ValueRel (named W) v w → ReadRel W (Ok v) (Ok w)
  fails : {e : Throw} → ReadRel W (Err e) (Err e)

abbrev pub HostNamesAgree : Type 0
HostNamesAgree =
    (c : Clocks) (W : World) (h g : Host) (k l : NodeId) (n : HostName) → HostRel c W h g → Linked W k.0 l.0
    → (has_at_node h.nodes k n ≡ has_at_node g.nodes l n) × ReadRel W (node_reads h k n) (node_reads g l n)
