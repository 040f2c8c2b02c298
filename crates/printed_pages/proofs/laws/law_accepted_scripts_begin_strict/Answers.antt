use Rattle.printed_pages.proofs.StrictScripts.{accepted_scripts_begin_strict}
use Rattle.printed_pages.proofs.laws.law_accepted_scripts_begin_strict.Goals as goal

pub returns : goal.returns
returns c = accepted_scripts_begin_strict c.law_reading_is_the_grammar.ensures.complete
