use Rattle.agreement.proofs.Pages.{pages_agree}
use Rattle.agreement.proofs.laws.law_pages_agree.Goals as goal

pub returns : goal.returns
returns c = pages_agree c.law_heaps_stay_sound.ensures.loaded
