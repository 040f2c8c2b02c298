use Rattle.host_relations.proofs.Larger.{hosts_stay}
use Rattle.host_relations.proofs.Steps.{steps_keep}
use Rattle.host_relations.proofs.laws.law_hosts.Goals as goal

pub returns : goal.returns
returns c = record { steps = steps_keep; stay = hosts_stay }
