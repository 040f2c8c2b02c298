use Rattle.printed_pages.proofs.Accepted.{printed_pages_are_accepted}
use Rattle.printed_pages.proofs.laws.law_printed_pages_are_accepted.Goals as goal

pub returns : goal.returns
returns c = printed_pages_are_accepted c.law_printed_scripts_are_read_again.ensures c.law_replaced_scripts.ensures.marked
