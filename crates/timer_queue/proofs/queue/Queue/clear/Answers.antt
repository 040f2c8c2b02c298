use Rattle.timer_queue.proofs.Range.{sound_cleared}
use Rattle.timer_queue.proofs.queue.Queue.clear.Goals as goal

pub invariant_of-self : goal.invariant_of-self
invariant_of-self c =
    rw c.remove.ensures.removed
    (sound_cleared c.self.inside.timers.items c.self.inside.marks.items c.unmark-self-inside.new.marks.items c.self.inside.full c.unmark-self-inside.result c.args.id c.self.invariant
    (c.unmark-self-inside.ensures c.self.inside.timers.items c.self.invariant.marked))
