use Rattle.host_relations.proofs.Restarts.{rebuilt_timers_agree, timers_are_rebuilt}
use Rattle.host_relations.proofs.laws.law_timers_again.Goals as goal

pub returns : goal.returns
returns c = record { rebuilt = timers_are_rebuilt; agree = rebuilt_timers_agree }
