use Rattle.page_reader.proofs.Swapped.{form_read, replaced_read}
use Rattle.page_reader.proofs.laws.law_replaced_scripts.Goals as goal

pub returns-clause-read : goal.returns-clause-read
returns-clause-read c = replaced_read

pub returns-clause-marked : goal.returns-clause-marked
returns-clause-marked c = form_read
