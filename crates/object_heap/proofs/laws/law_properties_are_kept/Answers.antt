use Rattle.object_heap.proofs.Got.{put_then_get}
use Rattle.object_heap.proofs.Others.{others_stay}
use Rattle.object_heap.proofs.Steps.{frozen_stays}
use Rattle.object_heap.proofs.laws.law_properties_are_kept.Goals as goal

pub returns : goal.returns
returns c = record { put_then_get = put_then_get; others_stay = others_stay; frozen_stays = frozen_stays }
