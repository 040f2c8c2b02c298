use Rattle.std.proofs.Common.{◌≡◌, take}
use Rattle.page_meaning.specs.Pristine.{natives}
use Rattle.page_start.specs.BuiltIns.{beside, rows}
use Rattle.page_start.proofs.objects.push_natives.Given as goal

abbrev pub invariant-loop-method : goal.invariant-loop-method
invariant-loop-method l = l.heap ≡ beside l.initial.heap (natives (rows (take l.method-index l.methods)))
