use Rattle.host_relations.proofs.NodePairs.{made_nodes_agree, new_nodes_agree, others_do_not_count}
use Rattle.host_relations.proofs.NodeReads.{nodes_agree}
use Rattle.host_relations.proofs.NodeSteps.{node_steps_keep}
use Rattle.host_relations.proofs.laws.law_nodes.Goals as goal

pub returns : goal.returns
returns c = record { agree = nodes_agree; steps = node_steps_keep; new_nodes = new_nodes_agree; made = made_nodes_agree; others = others_do_not_count }
