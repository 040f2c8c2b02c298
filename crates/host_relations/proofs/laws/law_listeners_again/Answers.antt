use Rattle.host_relations.proofs.Rehearing.{listeners_are_rebuilt}
use Rattle.host_relations.proofs.laws.law_listeners_again.Goals as goal

pub returns : goal.returns
returns c = listeners_are_rebuilt
