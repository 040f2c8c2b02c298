use Rattle.page_meaning.proofs.Keeping.{loads_sound, stays_sound}
use Rattle.page_meaning.proofs.laws.law_heaps_stay_sound.Goals as goal

pub returns-clause-sound : goal.returns-clause-sound
returns-clause-sound c = stays_sound

pub returns-clause-loaded : goal.returns-clause-loaded
returns-clause-loaded c = loads_sound
