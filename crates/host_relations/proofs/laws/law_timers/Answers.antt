use Rattle.host_relations.proofs.TimersKept.{timers_keep_agreement}
use Rattle.host_relations.proofs.laws.law_timers.Goals as goal

pub returns : goal.returns
returns c = timers_keep_agreement
