use Rattle.std.proofs.Common.{ap, length, arith}
use Rattle.timer_queue.specs.Timers.{cleared}
use Rattle.timer_queue.proofs.Range.{shorter}
use Rattle.timer_queue.proofs.queue.take.Goals as goal

pub push_reserved-requires : goal.push_reserved-requires
push_reserved-requires c =
    let old = c.args.timers.now.ok in
    let new = c.remove.new.timers.ok in
    let same = ap length c.remove.ensures.removed in
    let this = ap (λ i. length (cleared c.args.timers.now.items i)) c.from.ensures in
    let fewer = shorter c.args.timers.now.items c.args.timer.id c.requires.live in
    let room = c.remove.ensures.capacity in
    omega arith
