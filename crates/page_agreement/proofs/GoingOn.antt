-- Pages at rest that agree go on alike.
use Rattle.agreement.specs.Laws.{EventsAgree}
use Rattle.page_agreement.proofs.Stores.{stores_rel}
use Rattle.page_agreement.proofs.World.{pair_trees, pair_world}
use Rattle.page_agreement.specs.Laws.{AgreeingPagesGoOn}

pub agreeing_pages_go_on : EventsAgree → AgreeingPagesGoOn
agreeing_pages_go_on events m s t later one two agree =
    events (pair_world s t m) s t later (pair_trees s t m) (stores_rel m s t one two agree)
