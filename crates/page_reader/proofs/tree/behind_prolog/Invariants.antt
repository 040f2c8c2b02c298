use Rattle.std.proofs.Common.{◌≡◌, false, length}
use Rattle.page_reader.specs.Pages.{behind_prolog}
use Rattle.page_reader.proofs.tree.behind_prolog.Given as goal

abbrev pub invariant-loop-token : goal.invariant-loop-token
invariant-loop-token l = behind_prolog l.seen l.rest ≡ behind_prolog false l.tokens

abbrev pub decreases-loop-token : goal.decreases-loop-token
decreases-loop-token l = length l.rest
