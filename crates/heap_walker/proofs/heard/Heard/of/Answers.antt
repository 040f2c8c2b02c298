use Rattle.std.proofs.Common.{◌∙◌, ◌++◌, sym, ap, arith}
use Rattle.std.proofs.lemmas.Grind.{common_steps}
use Rattle.std.proofs.lemmas.List.{append-nil, nil_from_length}
use Rattle.scope_analysis.proofs.Callers.{next_of}
use Rattle.heap_walker.specs.Heard.{group_at}
use Rattle.heap_walker.specs.Things.{heard_at}
use Rattle.heap_walker.proofs.Groups.{heard_next}
use Rattle.heap_walker.proofs.heard.Heard.of.Goals as goal

pub loop-rest-preserved : goal.loop-rest-preserved
loop-rest-preserved c k =
    let whole = next_of c.loop-rest.rest.now c.listener-item.result (omega arith) (grind (arith, common_steps)) in
    heard_next k _ _ _ _ _ (c.in_ok-push.ensures k) whole ∙ c.loop-rest.invariant k

pub returns : goal.returns
returns c k =
    sym (append-nil (group_at c.loop-rest.heard k))
    ∙ ap (λ ls. group_at c.loop-rest.heard k ++ heard_at k ls) (sym (nil_from_length c.loop-rest.rest.now (omega arith)))
    ∙ c.loop-rest.invariant k
