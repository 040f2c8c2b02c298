use Rattle.page_agreement.proofs.GoingOn.{agreeing_pages_go_on}
use Rattle.page_agreement.proofs.laws.law_agreeing_pages_go_on.Goals as goal

pub returns : goal.returns
returns c = agreeing_pages_go_on c.law_events_agree.ensures
