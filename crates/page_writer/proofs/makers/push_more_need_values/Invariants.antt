use Rattle.std.proofs.Common.{◌≡◌, ◌++◌, length}
use Rattle.js_print.specs.Lexemes.{more_parts_lexemes}
use Rattle.page_writer.specs.Statements.{need_exprs}
use Rattle.page_writer.proofs.makers.push_more_need_values.Given as goal

abbrev pub invariant-loop-rest : goal.invariant-loop-rest
invariant-loop-rest l = l.out.items ++ more_parts_lexemes (need_exprs l.rest) ≡ l.fn.out.items ++ more_parts_lexemes (need_exprs l.needs)

abbrev pub decreases-loop-rest : goal.decreases-loop-rest
decreases-loop-rest l = length l.rest
