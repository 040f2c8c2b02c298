use Rattle.literal_pages.proofs.ReadEvents.{read_events_are_literal}
use Rattle.literal_pages.proofs.laws.law_read_events_are_literal.Goals as goal

pub returns : goal.returns
returns c = read_events_are_literal
