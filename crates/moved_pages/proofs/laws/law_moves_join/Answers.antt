use Rattle.moved_pages.proofs.Joining.{moves_join}
use Rattle.moved_pages.proofs.laws.law_moves_join.Goals as goal

pub returns : goal.returns
returns c = moves_join c.law_lines_grow.ensures
