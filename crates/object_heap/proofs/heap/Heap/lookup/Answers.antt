use Rattle.std.proofs.Common.{◌≤◌, ap, sym, length, arith}
use Rattle.object_heap.specs.Heap.{Contents}
use Rattle.object_heap.proofs.Missing.{lookup_absent}
use Rattle.object_heap.proofs.heap.Heap.lookup.Goals as goal

pub returns-then-from-len-clause-found : goal.returns-then-from-len-clause-found
returns-then-from-len-clause-found c =
    let past : length c.args.self.now.environments ≤ c.args.from.0 = omega (arith, ap (λ (x : Contents). length x.environments) c.self.view_is) in
    sym (lookup_absent c.args.self.now.environments c.args.from.0 c.args.name.now past)
