use Rattle.std.proofs.Common.{◌≤◌, All, subst, arith}
use Rattle.std.proofs.lemmas.Grind.{common_steps}
use Rattle.std.proofs.lemmas.List.Elements.{All-tail}
use Rattle.js_core.specs.Height.{stmts_height}
use Rattle.js_core.specs.Tree as tree
use Rattle.scope_analysis.proofs.Callers.{next_of}
use Rattle.early_rules.specs.Limits.{plain_height_limit}
use Rattle.instrumenter.proofs.Turns.{all_counted, counted_turn, scripts_turn}
use Rattle.instrumenter.proofs.scripts.open_scopes.Goals as goal

pub loop-rest-preserved : goal.loop-rest-preserved
loop-rest-preserved c =
    let whole = next_of c.loop-rest.rest.now c.script-item.result (omega arith) (grind (arith, common_steps)) in
    let low = λ (body : tree.Stmts). stmts_height body ≤ plain_height_limit in
    record {
      opened =
          scripts_turn c.loop-rest.next _ c.script-item.result _ _ _ _ _ _ whole c.in_ok-open_script.ensures.counted c.in_ok-open_script.ensures.opened
          c.in_ok-push.ensures.items c.loop-rest.invariant.opened;
      low = All-tail low c.script-item.result _ (subst (All low) whole c.loop-rest.invariant.low);
      counted = counted_turn c.loop-rest.next _ _ c.script-item.result _ _ whole c.in_ok-open_script.ensures.counted c.loop-rest.invariant.counted;
    }

pub returns-clause-numbered : goal.returns-clause-numbered
returns-clause-numbered c = all_counted c.loop-rest.next _ c.loop-rest.rest.now (omega arith) c.number_fits.ensures c.loop-rest.invariant.counted
