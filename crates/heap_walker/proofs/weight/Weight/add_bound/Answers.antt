use Rattle.heap_walker.specs.Weight.{arguments_load, value_load}
use Rattle.heap_walker.proofs.Weights.{adds_both}
use Rattle.heap_walker.proofs.weight.Weight.add_bound.Goals as goal

pub returns : goal.returns
returns c =
    adds_both c.args.self.now c.add_value.new.self c.add_arguments.new.self (value_load c.args.this.now) (arguments_load c.args.args.now) c.add_value.ensures c.add_arguments.ensures
