use Rattle.page_writer.proofs.SavedScripts.{saved_scripts_are_form}
use Rattle.page_writer.proofs.laws.law_saved_scripts_are_form.Goals as goal

pub returns : goal.returns
returns c = saved_scripts_are_form
