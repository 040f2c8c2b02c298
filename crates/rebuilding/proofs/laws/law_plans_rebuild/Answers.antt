use Rattle.rebuilding.proofs.Rebuilds.{plans_rebuild}
use Rattle.rebuilding.proofs.laws.law_plans_rebuild.Goals as goal

pub returns : goal.returns
returns c = plans_rebuild
