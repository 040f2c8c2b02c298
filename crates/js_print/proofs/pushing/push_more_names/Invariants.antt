use Rattle.std.proofs.Common.{◌≡◌, ◌++◌, length}
use Rattle.js_print.specs.Lexemes.{more_names}
use Rattle.js_print.proofs.pushing.push_more_names.Given as goal

abbrev pub invariant-loop-rest : goal.invariant-loop-rest
invariant-loop-rest l = l.out.items ++ more_names l.rest ≡ l.initial.out.items ++ more_names l.names

abbrev pub decreases-loop-rest : goal.decreases-loop-rest
decreases-loop-rest l = length l.rest
