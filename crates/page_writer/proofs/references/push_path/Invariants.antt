use Rattle.std.proofs.Common.{◌≡◌, ◌++◌, [], length}
use Rattle.page_writer.specs.Dotted.{dotted}
use Rattle.page_writer.proofs.references.push_path.Given as goal

abbrev pub invariant-loop-rest : goal.invariant-loop-rest
invariant-loop-rest l = l.out.items ++ dotted l.name.items l.rest ≡ l.fn.out.items ++ dotted [] l.path

abbrev pub decreases-loop-rest : goal.decreases-loop-rest
decreases-loop-rest l = length l.rest
