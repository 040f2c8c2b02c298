use Rattle.scope_chains.proofs.Found.{names_are_found}
use Rattle.scope_chains.proofs.laws.law_names_are_found.Goals as goal

pub returns : goal.returns
returns c = names_are_found
