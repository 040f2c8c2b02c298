-- A page at rest is rebuilt by its plan.
use Rattle.rebuilding.specs.Rebuilt.{IsRebuilt, PlansRebuild}
use Rattle.rebuild_plan.specs.Compact.{compact}
use Rattle.rebuilding.proofs.MakePhase.{makes_succeed}
use Rattle.rebuilding.proofs.OwnObjects.{fresh_owns}
use Rattle.rebuilding.proofs.Plans.{behind, made_rebuilds}

pub plans_rebuild : PlansRebuild
plans_rebuild c s things h g still walk range few fresh =
    makes_succeed c s things h g still walk range few fresh (fresh_owns c h g fresh) (IsRebuilt c s things) (behind (compact s things))
    (λ i w sites made. made_rebuilds c s things sites i w still walk range made)
