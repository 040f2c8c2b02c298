-- New nodes and their objects join a naming.
use Rattle.std.specs.Prelude.{◌≡◌, ℕ, Some, length, true}
use Rattle.js_values.specs.declared.ids.ObjId.{ObjId}
use Rattle.dom_tree.specs.declared.content.Kind.{Kind}
use Rattle.object_heap.specs.declared.object.Class.TheVariants as class
use Rattle.object_heap.specs.Heap.{Contents, made, new_object}
use Rattle.page_host.specs.Host.{Host}
use Rattle.page_host.specs.Steps.{may_be_made, with_new_node}
use Rattle.heap_relations.specs.Naming.{Agree, Named, World, with_object}
use Rattle.host_relations.specs.Hosts.{HostRel}
use Rattle.host_relations.specs.Linked.{with_pair}
use Rattle.host_relations.specs.Timers.{Clocks}

-- the heap in which the object of the node at the place is made
abbrev pub with_node_object : Contents → ℕ → ObjId → Contents
with_node_object s place proto = made s (new_object (class.Node (record { 0 = place })) (Some proto))

-- the nodes join by a pair, and their objects by another
abbrev pub joined : World → Host → Host → ObjId → ObjId → World
joined W h g a b = with_object (with_pair W (length h.nodes) (length g.nodes)) a.0 b.0

abbrev pub new_id : Contents → ObjId
new_id s = record { 0 = length s.objects }

-- a new node and its object join at once: in the hosts, whichever their objects are
abbrev pub NewNodesJoin : Type 0
NewNodesJoin =
    (c : Clocks) (W : World) (h g : Host) (k : Kind) (a b : ObjId) → HostRel c W h g → may_be_made k ≡ true
    → HostRel c (joined W h g a b) (with_new_node h k a) (with_new_node g k b)

-- and in the heaps, where the objects are the youngest
abbrev pub NodeObjectsJoin : Type 0
NodeObjectsJoin =
    (W : World) (h g : Host) (s t : Contents) (p q : ObjId) → Agree W s t → Named W p.0 q.0
    → Agree (joined W h g (new_id s) (new_id t)) (with_node_object s (length h.nodes) p) (with_node_object t (length g.nodes) q)
