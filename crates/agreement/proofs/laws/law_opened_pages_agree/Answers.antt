use Rattle.agreement.proofs.Pages.{opened_pages_agree}
use Rattle.agreement.proofs.laws.law_opened_pages_agree.Goals as goal

pub returns : goal.returns
returns c = opened_pages_agree c.law_heaps_stay_sound.ensures.loaded
