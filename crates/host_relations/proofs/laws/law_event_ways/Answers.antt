use Rattle.host_relations.proofs.Paths.{event_ways_agree}
use Rattle.host_relations.proofs.laws.law_event_ways.Goals as goal

pub returns : goal.returns
returns c = event_ways_agree
