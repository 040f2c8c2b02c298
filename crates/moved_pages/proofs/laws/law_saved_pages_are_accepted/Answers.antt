use Rattle.moved_pages.proofs.Accepted.{saved_pages_are_accepted}
use Rattle.moved_pages.proofs.laws.law_saved_pages_are_accepted.Goals as goal

pub returns : goal.returns
returns c = saved_pages_are_accepted c.law_saved_scripts_are_form.ensures c.law_lined_scripts_are_read_again.ensures c.law_script_pages.ensures.bytes
