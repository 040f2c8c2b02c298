use Rattle.moved_pages.proofs.InForm.{accepted_scripts_in_form}
use Rattle.moved_pages.proofs.laws.law_accepted_scripts_are_in_form.Goals as goal

pub returns : goal.returns
returns c = accepted_scripts_in_form c.law_tokens_can_be_written.ensures c.law_syntax_is_what_tokens_have.ensures.of_tokens c.law_script_units.ensures
