use Rattle.page_check.proofs.OneAnswer.{one_acceptance, one_cause, not_refused}
use Rattle.page_check.proofs.SomeAnswer.{some_answer}
use Rattle.page_check.proofs.laws.law_one_answer.Goals as goal

pub returns-clause-accepted : goal.returns-clause-accepted
returns-clause-accepted c = one_acceptance c.law_one_reading.ensures c.law_one_script.ensures c.law_one_reading-2.ensures.bytes

pub returns-clause-refused : goal.returns-clause-refused
returns-clause-refused c = one_cause c.law_one_reading.ensures c.law_one_script.ensures c.law_one_reading-2.ensures.bytes

pub returns-clause-not_both : goal.returns-clause-not_both
returns-clause-not_both c = not_refused c.law_one_reading.ensures c.law_one_script.ensures c.law_one_reading-2.ensures.bytes

pub returns-clause-some : goal.returns-clause-some
returns-clause-some c = some_answer
