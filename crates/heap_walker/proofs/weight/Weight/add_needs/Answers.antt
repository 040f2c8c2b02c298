use Rattle.std.proofs.Common.{sym, subst, arith}
use Rattle.std.proofs.lemmas.Grind.{common_steps}
use Rattle.std.proofs.lemmas.List.{nil_from_length}
use Rattle.scope_analysis.proofs.Callers.{next_of}
use Rattle.heap_walker.specs.Weight.{Adds, named_load, needs_load}
use Rattle.heap_walker.proofs.Weights.{adds_both, adds_none}
use Rattle.heap_walker.proofs.weight.Weight.add_needs.Goals as goal

pub loop-rest-preserved : goal.loop-rest-preserved
loop-rest-preserved c w h =
    let whole = next_of c.loop-rest.rest.now c.need-item.result (omega arith) (grind (arith, common_steps)) in
    c.loop-rest.invariant w
    (subst (λ r. Adds c.loop-rest.self w (needs_load r)) (sym whole)
    (adds_both c.loop-rest.self c.add_named.new.self w (named_load c.need-item.result.0 c.need-item.result.1) _ c.add_named.ensures h))

pub returns : goal.returns
returns c =
    c.loop-rest.invariant c.loop-rest.self (subst (λ r. Adds c.loop-rest.self c.loop-rest.self (needs_load r)) (sym (nil_from_length c.loop-rest.rest.now (omega arith))) (adds_none c.loop-rest.self))
