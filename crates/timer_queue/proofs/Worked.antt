-- The worked queue is as it says, by computing.
use Rattle.std.proofs.Common.{refl}
use Rattle.timer_queue.specs.Worked.{IsWorked}

pub is_worked : IsWorked
is_worked = record {
  one = refl;
  two = refl;
  next = refl;
  none_due = refl;
  due = refl;
  interval_taken = refl;
  due_then = refl;
  timeout_taken = refl;
  none_cleared = refl;
  all_cleared = refl;
  free = refl;
}
