use Rattle.built_in_paths.specs.Paths.{paths}
use Rattle.built_in_paths.proofs.table.path.Goals as goal

pub returns : goal.returns
unfolding paths
returns c = c.text_at.ensures
