use Rattle.migrate.proofs.AnyMoves.{any_moves_join}
use Rattle.migrate.proofs.laws.law_any_moves_join.Goals as goal

pub returns : goal.returns
returns c = any_moves_join c.law_lines_grow.ensures c.law_moves_join.ensures
