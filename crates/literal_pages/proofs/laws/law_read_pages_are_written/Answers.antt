use Rattle.literal_pages.proofs.WrittenPages.{read_pages_are_written}
use Rattle.literal_pages.proofs.laws.law_read_pages_are_written.Goals as goal

pub returns : goal.returns
returns c = read_pages_are_written c.law_accepted_pages_are_literal.ensures c.law_pages_are_written.ensures
