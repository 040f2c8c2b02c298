use Rattle.std.proofs.Common.{[], ap}
use Rattle.js_core.specs.Tree.{stmts_of}
use Rattle.instrumenter.specs.Around.{append}
use Rattle.instrumenter.specs.Levels.{around_of}
use Rattle.instrumenter.proofs.Turns.{on_ok, top_opened}
use Rattle.instrumenter.proofs.scripts.push_top.Goals as goal

pub returns-in_default : goal.returns-in_default
returns-in_default c = record {
  opened =
      on_ok c.push_statement.result _
      (ap (append (stmts_of c.args.out.now.items)) (top_opened (around_of []) c.args.next.now c.statement.inside.node c.args.statement.now c.in_default.not-Function c.statement.view_is))
      c.push_statement.ensures.opened;
  counted = c.push_statement.ensures.counted;
}
