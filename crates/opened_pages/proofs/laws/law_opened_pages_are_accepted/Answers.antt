use Rattle.opened_pages.proofs.Accepted.{opened_pages_are_accepted}
use Rattle.opened_pages.proofs.laws.law_opened_pages_are_accepted.Goals as goal

pub returns : goal.returns
returns c =
    opened_pages_are_accepted c.law_opened_scripts_are_form.ensures c.law_printed_pages_are_accepted.ensures c.law_accepted_scripts_have_syntax.ensures
    c.law_accepted_scripts_begin_strict.ensures
