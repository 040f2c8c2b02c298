use Rattle.timer_queue.proofs.Order.{are_in_order}
use Rattle.timer_queue.proofs.Takings.{takes_the_firings}
use Rattle.timer_queue.proofs.laws.law_takings_are_firings.Goals as goal

pub returns : goal.returns
returns c = record { order = are_in_order; takings = takes_the_firings }
