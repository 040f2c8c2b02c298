use Rattle.scope_chains.proofs.Entered.{functions_are_levels}
use Rattle.scope_chains.proofs.laws.law_functions_are_levels.Goals as goal

pub returns : goal.returns
returns c = functions_are_levels
