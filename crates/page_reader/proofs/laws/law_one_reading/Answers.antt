use Rattle.page_reader.proofs.OneReading.{bytes_once, text_once}
use Rattle.page_reader.proofs.laws.law_one_reading.Goals as goal

pub returns-clause-texts : goal.returns-clause-texts
returns-clause-texts c = text_once c.law_one_reading.ensures

pub returns-clause-bytes : goal.returns-clause-bytes
returns-clause-bytes c = bytes_once c.law_one_reading.ensures
