use Rattle.page_writer.proofs.Syntax.{statements_are_syntax}
use Rattle.page_writer.proofs.laws.law_statements_are_syntax.Goals as goal

pub returns : goal.returns
returns c = statements_are_syntax
