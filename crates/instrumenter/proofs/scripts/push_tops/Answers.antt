use Rattle.std.proofs.Common.{true, refl, arith}
use Rattle.std.proofs.lemmas.Grind.{common_steps}
use Rattle.js_core.specs.Tree.{stmts_of}
use Rattle.scope_analysis.proofs.Callers.{next_of}
use Rattle.instrumenter.specs.Around.{top}
use Rattle.instrumenter.specs.Opening.{open_tops}
use Rattle.instrumenter.proofs.Turns.{stmts_end, tops_turn}
use Rattle.instrumenter.proofs.scripts.push_tops.Goals as goal

pub loop-rest-preserved : goal.loop-rest-preserved
loop-rest-preserved c =
    let whole = next_of c.loop-rest.rest.now c.statement-item.result (omega arith) (grind (arith, common_steps)) in
    record {
      opened = tops_turn (top true) c.loop-rest.next _ _ _ _ _ _ _ whole c.in_ok-push_top.ensures.counted c.in_ok-push_top.ensures.opened c.loop-rest.invariant.opened;
      counted = grind (arith, common_steps);
      low = grind (arith, common_steps);
    }

pub returns-clause-opened : goal.returns-clause-opened
returns-clause-opened c =
    stmts_end (λ z. open_tops (top true) c.loop-rest.next (stmts_of z)) _ _ c.loop-rest.rest.now (omega arith) refl c.loop-rest.invariant.opened
