use Rattle.page_start.specs.BuiltIns.{rows}
use Rattle.page_start.proofs.FunctionTables.{giving_on}
use Rattle.page_start.proofs.objects.define_methods.Goals as goal

pub loop-method-preserved : goal.loop-method-preserved
loop-method-preserved c =
    giving_on c.args.heap.now c.loop-method.heap c.define_method.new.heap c.args.at (rows c.args.methods.now) c.args.methods.now c.loop-method.method-index _ c.loop-method-test.true
    c.in_ok-define_method.ensures c.loop-method.invariant
