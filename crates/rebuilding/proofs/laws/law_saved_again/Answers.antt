use Rattle.rebuilding.proofs.Again.{saved_again}
use Rattle.rebuilding.proofs.Rebuilds.{plans_rebuild}
use Rattle.rebuilding.proofs.Statements.{statements_run}
use Rattle.rebuilding.proofs.laws.law_saved_again.Goals as goal

pub returns : goal.returns
returns c =
    saved_again c.law_heaps_stay_sound.ensures.loaded
    (statements_run c.law_paths_lead.ensures.lead c.law_paths_lead.ensures.each) plans_rebuild
