use Rattle.agreement.proofs.Pages.{standing_pages_agree}
use Rattle.agreement.proofs.laws.law_standing_pages_agree.Goals as goal

pub returns : goal.returns
returns c = standing_pages_agree c.law_heaps_stay_sound.ensures.loaded
