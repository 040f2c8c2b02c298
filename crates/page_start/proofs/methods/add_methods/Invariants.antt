use Rattle.std.proofs.Common.{◌≡◌, ◌++◌, true, drop}
use Rattle.page_meaning.specs.Pristine.{methods}
use Rattle.page_start.specs.BuiltIns.{are_new, rows}
use Rattle.page_start.proofs.methods.add_methods.Given as goal

abbrev pub invariant-loop-method : goal.invariant-loop-method
invariant-loop-method l =
    (l.props ++ methods (rows (drop l.method-index l.methods)) ≡ l.initial.props ++ methods (rows l.methods)) × (are_new l.props (rows (drop l.method-index l.methods)) ≡ true)
