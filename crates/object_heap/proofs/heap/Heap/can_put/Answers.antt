use Rattle.std.proofs.Common.{◌≤◌, ap, sym, length, arith}
use Rattle.object_heap.specs.Heap.{Contents}
use Rattle.object_heap.proofs.Missing.{can_put_absent}
use Rattle.object_heap.proofs.heap.Heap.can_put.Goals as goal

pub returns-then-at-len : goal.returns-then-at-len
returns-then-at-len c =
    let past : length c.args.self.now.objects ≤ c.args.at.0 = omega (arith, ap (λ (x : Contents). length x.objects) c.self.view_is) in
    sym (can_put_absent c.args.self.now.objects c.args.at.0 c.args.name.now past)
