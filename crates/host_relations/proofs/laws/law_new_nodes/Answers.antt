use Rattle.host_relations.proofs.Joining.{new_nodes_join}
use Rattle.host_relations.proofs.JoiningHeaps.{node_objects_join}
use Rattle.host_relations.proofs.laws.law_new_nodes.Goals as goal

pub returns : goal.returns
returns c = record { hosts = new_nodes_join; heaps = node_objects_join }
