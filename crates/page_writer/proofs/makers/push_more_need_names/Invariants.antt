use Rattle.std.proofs.Common.{◌≡◌, ◌++◌, length}
use Rattle.js_print.specs.Lexemes.{more_names}
use Rattle.page_writer.specs.Statements.{need_names}
use Rattle.page_writer.proofs.makers.push_more_need_names.Given as goal

abbrev pub invariant-loop-rest : goal.invariant-loop-rest
invariant-loop-rest l = l.out.items ++ more_names (need_names l.rest) ≡ l.fn.out.items ++ more_names (need_names l.needs)

abbrev pub decreases-loop-rest : goal.decreases-loop-rest
decreases-loop-rest l = length l.rest
