use Rattle.instrumenter.proofs.FormScripts.{opened_scripts_are_form}
use Rattle.instrumenter.proofs.form_laws.law_opened_scripts_are_form.Goals as goal

pub returns : goal.returns
returns c = opened_scripts_are_form
