use Rattle.rebuild_plan.proofs.Standing.{plans_stand}
use Rattle.rebuild_plan.proofs.laws.law_plans_stand.Goals as goal

pub returns : goal.returns
returns c = plans_stand
