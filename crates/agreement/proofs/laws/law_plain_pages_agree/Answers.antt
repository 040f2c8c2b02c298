use Rattle.agreement.proofs.PlainPages.{plain_pages_agree}
use Rattle.agreement.proofs.laws.law_plain_pages_agree.Goals as goal

pub returns : goal.returns
returns c = plain_pages_agree c.law_heaps_stay_sound.ensures.loaded
