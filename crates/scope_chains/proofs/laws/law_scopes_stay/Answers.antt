use Rattle.scope_chains.proofs.Stay.{levels_stay}
use Rattle.scope_chains.proofs.laws.law_scopes_stay.Goals as goal

pub returns : goal.returns
returns c = levels_stay
