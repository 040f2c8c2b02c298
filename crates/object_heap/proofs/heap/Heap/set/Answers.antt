use Rattle.std.proofs.Common.{◌≤◌, ap, sym, length, arith}
use Rattle.object_heap.specs.Heap.{Contents}
use Rattle.object_heap.proofs.Missing.{set_absent}
use Rattle.object_heap.proofs.heap.Heap.set.Goals as goal

pub returns-then-env-len : goal.returns-then-env-len
returns-then-env-len c =
    let past : length c.args.self.now.environments ≤ c.args.env.0 = omega (arith, ap (λ (x : Contents). length x.environments) c.self.view_is) in
    sym (set_absent c.args.self.now c.args.env.0 c.args.name.now c.args.value past)
