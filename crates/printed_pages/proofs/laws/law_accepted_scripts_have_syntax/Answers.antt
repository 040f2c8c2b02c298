use Rattle.printed_pages.proofs.AcceptedTrees.{accepted_scripts_have_syntax}
use Rattle.printed_pages.proofs.laws.law_accepted_scripts_have_syntax.Goals as goal

pub returns : goal.returns
returns c =
    accepted_scripts_have_syntax c.law_tokens_can_be_written.ensures c.law_syntax_is_what_tokens_have.ensures.of_tokens c.law_script_units.ensures
