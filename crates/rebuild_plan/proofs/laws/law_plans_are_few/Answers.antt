use Rattle.rebuild_plan.proofs.Counted.{plans_are_few}
use Rattle.rebuild_plan.proofs.laws.law_plans_are_few.Goals as goal

pub returns : goal.returns
returns c = plans_are_few
