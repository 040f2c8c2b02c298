use Rattle.std.proofs.Common.{length, subst}
use Rattle.heap_walker.specs.Weight.{Adds, greatest, load}
use Rattle.heap_walker.proofs.Weights.{adds_both}
use Rattle.heap_walker.proofs.weight.Weight.add_timers.Goals as goal

pub returns : goal.returns
returns c =
    let ts = c.args.timers.now in
    adds_both c.args.self.now c.add.new.self c.add-2.new.self (load (length ts) 0) (load (greatest ts) 0) c.add.ensures
    (subst (λ n. Adds c.add.new.self c.add-2.new.self (load n 0)) c.greatest.ensures c.add-2.ensures)
