use Rattle.heap_walker.proofs.Walks.{walks_are_same}
use Rattle.heap_walker.proofs.laws.law_walks_are_same.Goals as goal

pub returns : goal.returns
returns c = walks_are_same
