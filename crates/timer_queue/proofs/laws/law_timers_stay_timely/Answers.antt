use Rattle.timer_queue.proofs.Timing.{timers_stay_timely}
use Rattle.timer_queue.proofs.laws.law_timers_stay_timely.Goals as goal

pub returns : goal.returns
returns c = timers_stay_timely
