use Rattle.host_relations.proofs.HostNames.{host_names_agree}
use Rattle.host_relations.proofs.laws.law_host_names.Goals as goal

pub returns : goal.returns
returns c = host_names_agree
