use Rattle.std.proofs.Common.{◌≤◌, ap, sym, option_map, length, arith}
use Rattle.object_heap.specs.Heap.{Contents}
use Rattle.object_heap.proofs.Missing.{get_absent}
use Rattle.object_heap.proofs.heap.Heap.get.Goals as goal

pub returns-then-at-len : goal.returns-then-at-len
returns-then-at-len c =
    let past : length c.args.self.now.objects ≤ c.args.at.0 = omega (arith, ap (λ (x : Contents). length x.objects) c.self.view_is) in
    ap (option_map (λ p. p.value)) (sym (get_absent c.args.self.now.objects c.args.at.0 c.args.name.now past))
