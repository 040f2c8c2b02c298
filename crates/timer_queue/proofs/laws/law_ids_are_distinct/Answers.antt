use Rattle.timer_queue.proofs.IdLemmas.{is_least_free, keeps_distinct_ids}
use Rattle.timer_queue.proofs.laws.law_ids_are_distinct.Goals as goal

pub returns : goal.returns
returns c = record { distinct = keeps_distinct_ids; least = is_least_free }
