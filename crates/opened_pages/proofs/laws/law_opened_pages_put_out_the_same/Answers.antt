use Rattle.opened_pages.proofs.SameLines.{opened_pages_put_out_the_same}
use Rattle.opened_pages.proofs.laws.law_opened_pages_put_out_the_same.Goals as goal

pub returns : goal.returns
returns c = opened_pages_put_out_the_same c.law_plain_pages_agree.ensures c.law_accepted_scripts_have_syntax.ensures
