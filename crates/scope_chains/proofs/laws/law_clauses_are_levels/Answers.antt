use Rattle.scope_chains.proofs.Entered.{clauses_are_levels}
use Rattle.scope_chains.proofs.laws.law_clauses_are_levels.Goals as goal

pub returns : goal.returns
returns c = clauses_are_levels
