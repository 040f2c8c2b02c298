use Rattle.scope_chains.proofs.Entered.{own_names_are_bound}
use Rattle.scope_chains.proofs.laws.law_own_names_are_bound.Goals as goal

pub returns : goal.returns
returns c = own_names_are_bound
