-- What other crates cite of the proofs of this one.
use Rattle.std.proofs.Common.{◌≡◌, ℕ, Bool}
use Rattle.js_core.specs.Text.{Text}
use Rattle.js_values.specs.declared.ids.NodeId.{NodeId}
use Rattle.dom_tree.specs.Node.{kind_at}
use Rattle.dom_tree.specs.Trees.{find_id}
use Rattle.page_host.specs.declared.host_name.HostName.{HostName}
use Rattle.page_host.specs.declared.listener.Listener.{Listener}
use Rattle.page_host.specs.declared.path.Place.{Place}
use Rattle.page_host.specs.Host.{Host}
use Rattle.page_host.specs.HostNames.{has_at_node, node_reads}
use Rattle.page_host.specs.Listeners.{is_registered, round}
use Rattle.page_host.specs.Paths.{event_path}
use Rattle.page_host.specs.Steps.{HostStep, after_host, is_fit, next_timer}
use Rattle.heap_relations.specs.Naming.{Larger, Named, World, here, named}
use Rattle.heap_relations.specs.Related.{Each, IsOneToOne, Maybe}
use Rattle.host_relations.proofs.HostNames as names
use Rattle.host_relations.proofs.Larger as larger
use Rattle.host_relations.proofs.NodeReads as reads
use Rattle.host_relations.proofs.Paths as paths
use Rattle.host_relations.proofs.Steps as steps
use Rattle.host_relations.specs.HostNames.{ReadRel}
use Rattle.host_relations.specs.Hosts.{HostRel, ListenerRel, StepRel}
use Rattle.host_relations.specs.Linked.{Linked, with_pair}
use Rattle.host_relations.specs.NodeLaws.{ErrorsAgree, ReadsAgree}
use Rattle.host_relations.specs.Nodes.{NodeIds}
use Rattle.host_relations.specs.Paths.{PlaceRel}
use Rattle.host_relations.specs.Timers.{Clocks, TimerRel, MomentRel}
-- the theorems as they stand
pub use Rattle.host_relations.proofs.Appending.{alone_at, appends_rebuild}
pub use Rattle.host_relations.proofs.Attributing.{attributes_are_rebuilt, folded_is}
pub use Rattle.host_relations.proofs.Carrying.{alone_trees, appends_carry}
pub use Rattle.host_relations.proofs.Compacting.{equal_nodes_agree}
pub use Rattle.host_relations.proofs.Distinct.{AreNew, passed_new}
pub use Rattle.host_relations.proofs.Joining.{new_nodes_join}
pub use Rattle.host_relations.proofs.JoiningHeaps.{node_objects_join}
pub use Rattle.host_relations.proofs.Larger.{heard_up, hosts_stay, linked_up, listener_up, nodes_up, timers_up}
pub use Rattle.host_relations.proofs.NodePairs.{made_nodes_agree, new_nodes_agree, others_do_not_count}
pub use Rattle.host_relations.proofs.NodeReads.{nodes_agree}
pub use Rattle.host_relations.proofs.NodeSteps.{node_steps_keep}
pub use Rattle.host_relations.proofs.Rehearing.{AreOf, all_of_node, heard_of, listeners_are_rebuilt, with_more}
pub use Rattle.host_relations.proofs.Restarts.{AreAll, again_is, all_again, all_filled, none_yet, rebuilt_timers_agree, timers_are_rebuilt}
pub use Rattle.host_relations.proofs.Steps.{steps_keep}
pub use Rattle.host_relations.proofs.TimersKept.{timers_keep_agreement}

-- ---- namings

pub larger_pair : {W : World} (i j : ℕ) → Larger W (with_pair W i j)
larger_pair {W = W} i j = larger.pair_more W i j

-- the new pair is linked
pub linked_pair : (W : World) (i j : ℕ) → Linked (with_pair W i j) i j
linked_pair W i j = record { named = here }

module _ {V W : World} (l : Larger V W) where
  pub place_up : {p q : Place} → PlaceRel V p q → PlaceRel W p q
  place_up h = record { node = larger.linked_up l h.node; phase = h.phase }

-- ---- what is read of two hosts, and done to them

module _ {c : Clocks} {W : World} {h g : Host} (q : HostRel c W h g) where
  pub ids_found : (id : Text) → Maybe (NodeIds (Linked W)) (find_id h.nodes id) (find_id g.nodes id)
  ids_found = reads.ids (Linked W) h.nodes g.nodes q.nodes q.left.trees q.right.trees

  pub errors_same : {p d r e : NodeId} → Linked W p.0 r.0 → Linked W d.0 e.0 → ErrorsAgree (Linked W) h.nodes g.nodes p d r e
  errors_same {p = p} {d = d} {r = r} {e = e} = reads.errors (Linked W) h.nodes g.nodes q.nodes q.left.trees q.right.trees p d r e

  pub path_read : {k l : NodeId} (bubbles : Bool) → Linked W k.0 l.0 → Each (PlaceRel W) (event_path h.nodes k bubbles) (event_path g.nodes l bubbles)
  path_read {k = k} {l = l} = paths.path_rel c W h g q k l

  pub round_read : (kind : Text) {p r : Place} → PlaceRel W p r → Each (ListenerRel W) (round h.listeners kind p) (round g.listeners kind r)
  round_read kind {p = p} {r = r} = paths.round_rel c W h g q kind p r

  pub next_timer_read : IsOneToOne (named W) → {m n : ℕ} → MomentRel c m n → Maybe (TimerRel (Named W) c) (next_timer h m) (next_timer g n)
  next_timer_read one {m = m} {n = n} = steps.next_rel c W h g one q m n

  module _ {k l : NodeId} (i : Linked W k.0 l.0) where
    pub kinds_same : kind_at h.nodes k.0 ≡ kind_at g.nodes l.0
    kinds_same = reads.same_kind (Linked W) h.nodes g.nodes q.nodes q.left.trees q.right.trees k.0 l.0 i

    pub node_read : ReadsAgree (Linked W) h.nodes g.nodes k l
    node_read = reads.reads (Linked W) h.nodes g.nodes q.nodes q.left.trees q.right.trees k l i

    pub host_name_same : (n : HostName) → has_at_node h.nodes k n ≡ has_at_node g.nodes l n
    host_name_same n = (names.host_names_agree c W h g k l n q i).0

    pub host_name_read : (n : HostName) → ReadRel W (node_reads h k n) (node_reads g l n)
    host_name_read n = (names.host_names_agree c W h g k l n q i).1

  module _ (one : IsOneToOne (named W)) where
    pub registered_same : {l m : Listener} → ListenerRel W l m → is_registered h.listeners l ≡ is_registered g.listeners m
    registered_same {l = l} {m = m} k = (paths.event_ways_agree c W h g q).registered l m one k

    pub fit_same : {s r : HostStep} → StepRel c W s r → is_fit h s ≡ is_fit g r
    fit_same {s = s} {r = r} k = (steps.steps_keep c W h g s r one q k).0

    pub step_kept : {s r : HostStep} → StepRel c W s r → HostRel c W (after_host h s) (after_host g r)
    step_kept {s = s} {r = r} k = (steps.steps_keep c W h g s r one q k).1
