use Rattle.std.proofs.Common.{drop}
use Rattle.page_start.specs.BuiltIns.{rows}
use Rattle.page_start.proofs.FunctionTables.{Giving}
use Rattle.page_start.proofs.objects.define_methods.Given as goal

abbrev pub invariant-loop-method : goal.invariant-loop-method
invariant-loop-method l = Giving l.initial.heap l.heap l.at (rows l.methods) (rows (drop l.method-index l.methods))
