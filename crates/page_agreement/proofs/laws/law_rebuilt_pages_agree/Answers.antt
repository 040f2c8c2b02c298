use Rattle.page_agreement.proofs.Rebuilt.{rebuilt_pages_agree}
use Rattle.page_agreement.proofs.laws.law_rebuilt_pages_agree.Goals as goal

pub returns : goal.returns
returns c = rebuilt_pages_agree c.law_saved_again.ensures c.law_pages_rest.ensures c.law_saved_scripts_are_form.ensures
