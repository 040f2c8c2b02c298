use Rattle.page_rest.proofs.AskedTrees.{functions_are_asked}
use Rattle.page_rest.proofs.laws.law_functions_are_asked.Goals as goal

pub returns : goal.returns
returns c = functions_are_asked
