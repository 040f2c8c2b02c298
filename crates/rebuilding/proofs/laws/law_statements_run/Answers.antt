use Rattle.rebuilding.proofs.Statements.{statements_run}
use Rattle.rebuilding.proofs.laws.law_statements_run.Goals as goal

pub returns : goal.returns
returns c = statements_run c.law_paths_lead.ensures.lead c.law_paths_lead.ensures.each
