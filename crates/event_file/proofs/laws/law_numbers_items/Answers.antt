use Rattle.event_file.proofs.Numbers.{numbers_items}
use Rattle.event_file.proofs.laws.law_numbers_items.Goals as goal

pub returns : goal.returns
returns c = numbers_items
