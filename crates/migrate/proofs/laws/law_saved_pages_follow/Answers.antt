use Rattle.migrate.proofs.AnyMoves.{saved_pages_follow}
use Rattle.migrate.proofs.laws.law_saved_pages_follow.Goals as goal

pub returns : goal.returns
returns c = saved_pages_follow
