use Rattle.agreement.proofs.Tasks.{events_agree}
use Rattle.agreement.proofs.laws.law_events_agree.Goals as goal

pub returns : goal.returns
returns c = λ W s t es trees g. events_agree W s t es trees g
