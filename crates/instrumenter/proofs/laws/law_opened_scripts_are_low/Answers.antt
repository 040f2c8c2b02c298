use Rattle.instrumenter.proofs.Heights.{opened_scripts_are_low}
use Rattle.instrumenter.proofs.laws.law_opened_scripts_are_low.Goals as goal

pub returns : goal.returns
returns c = opened_scripts_are_low
