use Rattle.rebuilding.proofs.Loading.{scripts_take_few_steps}
use Rattle.rebuilding.proofs.Rebuilds.{plans_rebuild}
use Rattle.rebuilding.proofs.Statements.{statements_run}
use Rattle.rebuilding.proofs.laws.law_scripts_take_few_steps.Goals as goal

pub returns : goal.returns
returns c =
    scripts_take_few_steps c.law_heaps_stay_sound.ensures.loaded
    (statements_run c.law_paths_lead.ensures.lead c.law_paths_lead.ensures.each) plans_rebuild
