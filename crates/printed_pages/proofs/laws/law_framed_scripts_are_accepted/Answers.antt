use Rattle.printed_pages.proofs.Accepted.{framed_scripts_are_accepted}
use Rattle.printed_pages.proofs.laws.law_framed_scripts_are_accepted.Goals as goal

pub returns : goal.returns
returns c = framed_scripts_are_accepted c.law_script_pages.ensures.bytes
