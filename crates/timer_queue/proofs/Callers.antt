-- What the crates above use of the proofs here.
pub use Rattle.timer_queue.proofs.Earliest.{IsTaken, is_high, is_low, is_taken, none_due}
pub use Rattle.timer_queue.proofs.IdLemmas.{cleared_frees, cleared_keeps, cleared_stays_free, is_least_free, is_other, is_same, keeps_distinct_ids, least_free_small, live_end, no_more, one_least, other_id, same_id, swapped}
pub use Rattle.timer_queue.proofs.Range.{shorter}
pub use Rattle.timer_queue.proofs.Takings.{in_cleared, in_is_live}
pub use Rattle.timer_queue.proofs.Timing.{in_end, timers_stay_timely}
